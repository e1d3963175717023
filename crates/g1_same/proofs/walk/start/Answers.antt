use Rattle.std.proofs.Common.{arith, ap, ◌≡◌, ◌∙◌, ℕ, length, slice_index}
use Rattle.std.proofs.lemmas.List.{get_or-replicate, length-replicate}
use Rattle.g1_same.proofs.walk.start.Goals as goal

pub returns-clause-walk : goal.returns-clause-walk
returns-clause-walk c =
    let m : ℕ = c.len.result in
    let n : ℕ = c.len-2.result in
    let before : length c.new.result.items ≡ 0 = ap length c.new.ensures.items in
    let after : length c.new-2.result.items ≡ 0 = ap length c.new-2.ensures.items in
    let from : length c.new-3.result.items ≡ 0 = ap length c.new-3.ensures.items in
    let number : length c.new-4.result.items ≡ 0 = ap length c.new-4.ensures.items in
    let zeros = c.in_ok-new_of.ensures.items_if_clones_equal (λ y same. same) in
    let more_zeros = c.in_ok-old_of.ensures.items_if_clones_equal (λ y same. same) in
    let new_of : length c.in_ok-new_of.new_of.items ≡ m = ap length zeros ∙ length-replicate {A = ℕ} m 0 in
    let old_of : length c.in_ok-old_of.old_of.items ≡ n = ap length more_zeros ∙ length-replicate {A = ℕ} n 0 in
    record {
      table_before = new_of ∙ c.len.ensures ∙ ap length c.words.ensures.same;
      table_after = old_of ∙ c.len-2.ensures ∙ ap length c.words-2.ensures.same;
      index_before = λ a i lt. (
        λ e.
            let none : slice_index c.in_ok-new_of.new_of.items a ≡ 0 = ap (λ l. slice_index l a) zeros ∙ get_or-replicate m a 0 0 (omega (arith, lt, new_of)) in
            absurd (omega (arith, e, none)),
        λ (p, e). absurd (omega (arith, p, before)),
      );
      index_after = λ b i lt. (
        λ e.
            let none : slice_index c.in_ok-old_of.old_of.items b ≡ 0 = ap (λ l. slice_index l b) more_zeros ∙ get_or-replicate n b 0 0 (omega (arith, lt, old_of)) in
            absurd (omega (arith, e, none)),
        λ (p, e). absurd (omega (arith, p, after)),
      );
      pairs = omega (arith, before, after);
      names_before = λ i p. absurd (omega (arith, p, before));
      names_after = λ i p. absurd (omega (arith, p, before));
      froms = omega (arith, before, from);
      numbers = omega (arith, before, number);
      alike = λ i p. absurd (omega (arith, p, before));
      backward = λ i p. absurd (omega (arith, p, before));
      ways = λ i p. absurd (omega (arith, p, before));
      rising = λ i j lt p. absurd (omega (arith, p, before));
    }
