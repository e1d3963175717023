-- How many objects moved, one by one.
use Rattle.std.proofs.Common.{◌≡◌, ℕ, ◌+◌, Bool, map, cond, sym, ◌∙◌, ap, arith}
use Rattle.std.specs.Prelude.{Option, count_by}
use Rattle.std.specs.List.{range_with_len}
use Rattle.std.proofs.lemmas.List.FromFn.{sum_by-map-range_with_len_more}

pub one_counted : (p : Option Bool → Bool) (f : ℕ → Option Bool) (n count one : ℕ) (m : Option Bool) → count ≡ count_by p (map f (range_with_len 0 n)) → one ≡ cond (p m) 1 0 → m ≡ f n
    → count + one ≡ count_by p (map f (range_with_len 0 (n + 1)))
one_counted p f n count one m so_far adds is =
    (λ i. so_far i + (adds ∙ ap (λ x. cond (p x) 1 0) is) i) ∙ sym (sum_by-map-range_with_len_more (λ x. cond (p x) 1 0) f 0 n n (omega arith))
