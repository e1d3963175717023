-- Numbers kept by a test, gathered one by one.
use Rattle.std.proofs.Common.{◌≡◌, ℕ, ◌+◌, Bool, true, List, [], ◌∷◌, ◌++◌, map, filter, IsTrue, sym, ◌∙◌, ap}
use Rattle.std.specs.List.{range_with_len}
use Rattle.std.proofs.lemmas.List.{map-append}
use Rattle.std.proofs.lemmas.Bool.{false_from_ne_true}
use Rattle.g1_choose.specs.declared.candidate.Candidate.{Candidate}
use Rattle.g1_words.proofs.Lists.{filter_range_no, filter_range_yes}

-- the number after passes
pub one_more_kept : (p : ℕ → Bool) (n : ℕ) → p n ≡ true → (xs ys : List Candidate) (x : Candidate) → map (λ x. x.region) xs ≡ filter p (range_with_len 0 n)
    → x.region ≡ n → ys ≡ xs ++ x ∷ [] → map (λ x. x.region) ys ≡ filter p (range_with_len 0 (n + 1))
one_more_kept p n t xs ys x e r y =
    ap (map (λ x. x.region)) y
    ∙ map-append (λ (x : Candidate). x.region) xs (x ∷ [])
    ∙ (λ i. e i ++ r i ∷ [])
    ∙ sym (filter_range_yes p n t)

-- the number after doesn't pass
pub one_more_left : (p : ℕ → Bool) (n : ℕ) → (IsTrue (p n) → ⊥) → (xs ys : List Candidate) → map (λ x. x.region) xs ≡ filter p (range_with_len 0 n)
    → ys ≡ xs → map (λ x. x.region) ys ≡ filter p (range_with_len 0 (n + 1))
one_more_left p n f xs ys e y =
    ap (map (λ x. x.region)) y ∙ e ∙ sym (filter_range_no p n (false_from_ne_true (p n) f))
