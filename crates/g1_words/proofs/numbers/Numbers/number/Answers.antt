use Rattle.std.proofs.Common.{arith, ap, sym, ◌≡◌, ◌<◌, ◌*◌, ◌/◌, ◌%◌, ◌^◌, ◌==◌, ◌∙◌, ℕ, length, get_or, Some, false}
use Rattle.std.proofs.lemmas.Nat.Bits.{bit_at-lt, shr_and_one}
use Rattle.std.proofs.lemmas.List.{get_or_default}
use Rattle.std.specs.Int.{bit_at}
use Rattle.std.specs.Int.Bits.{bit_and}
use Rattle.g1_words.specs.declared.numbers.Block.{Block}
use Rattle.g1_words.specs.Numbers.{number_at, number_if, number_of, marks_in}
use Rattle.g1_words.proofs.Numbering.{no_block, mark_by_block, marks_long}
use Rattle.g1_words.proofs.numbers.Numbers.number.Goals as goal
use Rattle.g1_words.proofs.numbers.Numbers.number.Goals.{After-self, After-index}

-- the word has a block
within : (c : After-self) → c.args.word < 64 * length c.self.inside.blocks.items
within c = omega (arith, c.requires, ap length c.self.view_is, marks_long c.self.inside.blocks.items c.self.invariant.0)

-- the word's mark is the bit that was tested
mark : (c : After-index) → c.args.word < 64 * length c.self.inside.blocks.items →
    get_or (marks_in c.self.inside.blocks.items) c.args.word false ≡ (bit_and (c.index.result.now.marks / 2 ^ (c.args.word % 64)) 1 == 1)
mark c lt =
    mark_by_block c.self.inside.blocks.items c.self.invariant.0 c.args.word lt
    ∙ ap (λ (b : Block). bit_at b.marks (c.args.word % 64) == 1)
    (sym (c.index.ensures ∙ get_or_default c.self.inside.blocks.items (c.args.word / 64) c.index.result.now no_block (omega (arith, lt))))
    ∙ ap (λ x. x == 1) (sym (shr_and_one c.index.result.now.marks (c.args.word % 64)))

-- a bit that isn't 0 is 1
one : (x : ℕ) → x < 2 → (x ≡ 0 → ⊥) → x ≡ 1
one x lt some = omega (arith, lt, some)

pub index-requires : goal.index-requires
index-requires c = omega (arith, within (goal.at.index-requires c).After-self)

pub returns-then-marks-word-eq0 : goal.returns-then-marks-word-eq0
returns-then-marks-word-eq0 c =
    let unset = mark (goal.at.returns-then-marks-word-eq0 c).After-index (within (goal.at.returns-then-marks-word-eq0 c).After-self) ∙ ap (λ x. x == 1) c.if-marks-word-eq0.true in
    ap (λ b. number_if b (number_at (marks_in c.self.inside.blocks.items) c.args.word)) (sym unset) ∙ ap (λ l. number_of l c.args.word) c.self.view_is

pub returns : goal.returns
returns c =
    let read = (goal.at.returns c).After-index in
    let bit = one (bit_and (c.index.result.now.marks / 2 ^ (c.args.word % 64)) 1)
    (omega (arith, shr_and_one c.index.result.now.marks (c.args.word % 64), bit_at-lt c.index.result.now.marks (c.args.word % 64))) c.if-marks-word-eq0.false in
    let is_set = mark read (within (goal.at.returns c).After-self) ∙ ap (λ x. x == 1) bit in
    ap (λ n. Some n) c.before-2.ensures ∙ ap (λ b. number_if b (number_at c.args.self.now c.args.word)) (sym is_set ∙ ap (λ l. get_or l c.args.word false) c.self.view_is)
