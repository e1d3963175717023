use Rattle.std.proofs.Common.{arith, ap, sym, subst, ◌≡◌, ◌+◌, ◌*◌, ◌++◌, ◌∷◌, [], ◌∙◌, ℕ, map, length, get_or}
use Rattle.std.proofs.lemmas.List.{map-append, length-map, length-take-le, take_all, take_more}
use Rattle.std.proofs.lemmas.Nat.{ones-le}
use Rattle.g1_words.specs.declared.numbers.Block.{Block}
use Rattle.g1_words.specs.Marks.{marks_of}
use Rattle.g1_words.specs.Numbers.{AreCounted, counted_on}
use Rattle.g1_words.proofs.Numbering.{counted_few, counted_on_more, AreCounted-more}
use Rattle.g1_words.proofs.numbers.Numbers.new.Goals as goal
use Rattle.g1_words.proofs.numbers.Numbers.new.Goals.{In-loop-word}

-- there are as many blocks as words were looked at
few : (c : In-loop-word) → length c.loop-word.blocks.items ≡ c.loop-word.word-index
few c =
    sym (length-map c.loop-word.blocks.items (λ (b : Block). b.marks)) ∙ ap length c.loop-word.invariant.same
    ∙ length-take-le c.loop-word.word-index c.args.bits.now (omega (arith, c.loop-word-test.true))

pub overflow_add-count : goal.overflow_add-count
overflow_add-count c =
    let low = counted_few c.loop-word.blocks.items c.loop-word.invariant.counted in
    let here = ones-le 64 (get_or c.args.bits.now c.loop-word.word-index 0) (omega (arith, c.type_inv.bits c.loop-word.word-index)) in
    omega (arith, low, here, few (goal.at.overflow_add-count c).In-loop-word, c.loop-word.invariant.count, c.loop-word-test.true, c.requires, c.from-count.ensures)

pub loop-word-preserved : goal.loop-word-preserved
loop-word-preserved c =
    let bits : ℕ = get_or c.args.bits.now c.loop-word.word-index 0 in
    let b : Block = record { marks = bits; before = c.loop-word.count } in
    let more : c.push.new.self.items ≡ c.loop-word.blocks.items ++ b ∷ [] = c.in_ok-push.ensures.items in
    record {
      counted = rw more (AreCounted-more 0 c.loop-word.blocks.items b c.loop-word.invariant.counted c.loop-word.invariant.count (omega (arith, c.type_inv.bits c.loop-word.word-index)));
      same = ap (map (λ (b : Block). b.marks)) more ∙ map-append (λ (b : Block). b.marks) c.loop-word.blocks.items (b ∷ []) ∙ ap (λ l. l ++ bits ∷ []) c.loop-word.invariant.same
          ∙ sym (take_more c.args.bits.now c.loop-word.word-index 0 c.loop-word-test.true);
      count = ap (λ n. n + c.from-count.result) c.loop-word.invariant.count ∙ ap (λ n. counted_on 0 c.loop-word.blocks.items + n) c.from-count.ensures
          ∙ sym (counted_on_more 0 c.loop-word.blocks.items b) ∙ ap (counted_on 0) (sym more);
    }

pub loop-word-init : goal.loop-word-init
loop-word-init c =
    let none : c.in_ok-blocks.blocks.items ≡ [] = c.in_ok-blocks.ensures.items in
    record {
      counted = subst (AreCounted 0) (sym none) tt;
      same = ap (map (λ (b : Block). b.marks)) none;
      count = ap (counted_on 0) (sym none);
    }

pub returns : goal.returns
returns c =
    let starts = c.args.bits.now in
    let same : map (λ (b : Block). b.marks) c.loop-word.blocks.items ≡ starts = c.loop-word.invariant.same ∙ take_all c.loop-word.word-index starts c.loop-word-test.false in
    let long : length c.loop-word.blocks.items ≡ length starts = sym (length-map c.loop-word.blocks.items (λ (b : Block). b.marks)) ∙ ap length same in
    λ i. marks_of (64 * long i) (same i)
