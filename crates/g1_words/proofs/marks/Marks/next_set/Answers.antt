use Rattle.std.proofs.Common.{arith, ap, sym, subst, ◌∙◌, ℕ, List, ◌≡◌, ◌≤◌, ◌<◌, ◌+◌, ◌*◌, ◌/◌, ◌%◌, ◌^◌, length, slice_index, slice_index_or}
use Rattle.std.specs.Int.{trailing_zeros, w64}
use Rattle.std.proofs.lemmas.Grind.{get_or_default_zero}
use Rattle.g1_words.proofs.Bits.{length-marks_of, IsFirstIn, first_found, first_in_rest, none_in_rest, unset_on}
use Rattle.g1_words.proofs.marks.Marks.next_set.Goals as goal

-- a word within the bounds
read : (bits : List ℕ) (at word count : ℕ) → word ≡ slice_index_or bits (at / 64) word → count ≤ 64 * length bits → at < count → word ≡ slice_index bits (at / 64)
read bits at word count e room under = e ∙ get_or_default_zero bits (at / 64) word (omega (arith, room, under))

-- the first mark of its rest
first : (bits : List ℕ) (at word : ℕ) → word ≡ slice_index bits (at / 64) → word < 2 ^ 64 → (word / 2 ^ (at % 64) ≡ 0 → ⊥) → IsFirstIn bits at (at + trailing_zeros w64 (word / 2 ^ (at % 64)))
first bits at word e fits some =
    subst (λ n. IsFirstIn bits at (at + trailing_zeros w64 (n / 2 ^ (at % 64)))) (sym e)
    (first_in_rest bits at (omega (arith, e, fits)) (omega (arith, some, ap (λ n. n / 2 ^ (at % 64)) e)))

pub words-init : goal.words-init
words-init c = (omega arith, λ x le lt. absurd (omega (arith, le, lt)))

pub overflow_add-at : goal.overflow_add-at
overflow_add-at c =
    let same = read c.self.inside.bits.items c.words.at c.index.result.now c.self.inside.count c.index.ensures c.self.invariant c.words-test.true in
    let mark = first c.self.inside.bits.items c.words.at c.index.result.now same (omega arith) c.if-rest-ne0.true in
    omega (arith, mark.here, c.words.auto.at-fits)

pub words-smaller : goal.words-smaller
words-smaller c = omega (arith, c.words-test.true, c.saturating_add-at.ensures)

pub words-preserved : goal.words-preserved
words-preserved c =
    let bits = c.self.inside.bits.items in
    let at = c.words.at in
    let word = c.index.result.now in
    let same = read bits at word c.self.inside.count c.index.ensures c.self.invariant c.words-test.true in (
      omega (arith, c.words.invariant.0, c.saturating_add-at.ensures, c.words-test.true),
      unset_on c.args.self.now c.self.inside.count bits c.args.from at c.saturating_add-at.result c.self.view_is c.words.invariant.1
          (λ x le lt _. none_in_rest bits at x (ap (λ n. n / 2 ^ (at % 64)) (sym same) ∙ c.if-rest-ne0.false) le (omega (arith, le, lt, c.saturating_add-at.ensures))),
    )

pub returns-then-at-count : goal.returns-then-at-count
returns-then-at-count c =
    let bits = c.self.inside.bits.items in
    let at = c.words.at in
    let word = c.index.result.now in
    let count = c.self.inside.count in
    let same = read bits at word count c.index.ensures c.self.invariant c.words-test.true in
    first_found c.args.self.now count bits c.args.from at (at + trailing_zeros w64 (word / 2 ^ (at % 64))) c.self.view_is c.words.invariant.0 c.words.invariant.1
    (first bits at word same (omega arith) c.if-rest-ne0.true) c.if-at-count.true

pub returns-else-at-count : goal.returns-else-at-count
returns-else-at-count c =
    let bits = c.self.inside.bits.items in
    let at = c.words.at in
    let word = c.index.result.now in
    let count = c.self.inside.count in
    let same = read bits at word count c.index.ensures c.self.invariant c.words-test.true in
    let mark = first bits at word same (omega arith) c.if-rest-ne0.true in
    let len : length c.args.self.now ≡ count = sym (ap length c.self.view_is) ∙ length-marks_of count bits in
    unset_on c.args.self.now count bits c.args.from at (length c.args.self.now) c.self.view_is c.words.invariant.1
    (λ x le lt _. mark.unset x le (omega (arith, lt, len, c.if-at-count.false)))

pub returns : goal.returns
returns c =
    let bits = c.self.inside.bits.items in
    let count = c.self.inside.count in
    let len : length c.args.self.now ≡ count = sym (ap length c.self.view_is) ∙ length-marks_of count bits in
    λ x le lt. c.words.invariant.1 x le (omega (arith, lt, len, c.words-test.false))
