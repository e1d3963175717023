-- The lines of candidates, one after the other.
use Rattle.std.proofs.Common.{inl, inr, Vec, Global, ◌≡◌, ℕ, zero, suc, ◌+◌, ◌-◌, ◌<◌, Bool, List, [], ◌∷◌, ◌++◌, length, get_or, take, map, refl, sym, ◌∙◌, ap, arith, append_assoc}
use Rattle.std.specs.Prelude.{nat_lt}
use Rattle.std.proofs.lemmas.Bool.{cases_lt, le-ltb, lt-ltb}
use Rattle.std.proofs.lemmas.List.{append-nil}
use Rattle.g1_choose.specs.declared.candidate.Candidate.{Candidate}
use Rattle.g1_text.specs.Lines.{line_text, text_of}
use Rattle.g1_explain.specs.Choosing.{within_128, candidate_line, candidate_lines}
use Rattle.g1_text.proofs.Printed.{text_append}

-- the total after some candidates
abbrev pub total_after : ℕ → List Candidate → ℕ
total_after base [] = base
total_after base (x ∷ xs) = total_after (within_128 (base + x.cost)) xs

pub total_more : (base : ℕ) (xs : List Candidate) (i : ℕ) (d : Candidate) → i < length xs → total_after base (take (i + 1) xs) ≡ within_128 (total_after base (take i xs) + (get_or xs i d).cost)
total_more base [] i d lt = absurd (omega (arith, lt))
total_more base (x ∷ xs) zero d lt = refl
total_more base (x ∷ xs) (suc i) d lt =
    let e : suc i + 1 ≡ suc (i + 1) = omega arith in
    ap (λ n. total_after base (take n (x ∷ xs))) e ∙ total_more (within_128 (base + x.cost)) xs i d (omega (arith, lt))

-- n numbers less are above 0 if the number is above
less_one : (i n : ℕ) → nat_lt i (n - 1) ≡ nat_lt (suc i) n
less_one i n =
    elim (cases_lt (suc i) n) [
      | inl lt ↦ lt-ltb i (n - 1) (omega (arith, lt)) ∙ sym (lt-ltb (suc i) n lt)
      | inr ge ↦ le-ltb i (n - 1) (omega (arith, ge)) ∙ sym (le-ltb (suc i) n ge)
    ]

pub candidate_more : (base n : ℕ) (xs : List Candidate) (i : ℕ) (d : Candidate) → i < length xs
    → candidate_lines base n (take (i + 1) xs) ≡ candidate_lines base n (take i xs) ++ candidate_line (get_or xs i d) (within_128 (total_after base (take i xs) + (get_or xs i d).cost)) (nat_lt i n) ∷ []
candidate_more base n [] i d lt = absurd (omega (arith, lt))
candidate_more base n (x ∷ xs) zero d lt = refl
candidate_more base n (x ∷ xs) (suc i) d lt =
    let e : suc i + 1 ≡ suc (i + 1) = omega arith in
    let b : ℕ = within_128 (base + x.cost) in
    let first : List (List ℕ) = candidate_line x b (nat_lt 0 n) in
    let o : Candidate = get_or xs i d in
    ap (λ m. candidate_lines base n (take m (x ∷ xs))) e
    ∙ ap (λ l. first ∷ l) (candidate_more b (n - 1) xs i d (omega (arith, lt)))
    ∙ ap (λ (t : Bool). first ∷ (candidate_lines b (n - 1) (take i xs) ++ candidate_line o (within_128 (total_after b (take i xs) + o.cost)) t ∷ [])) (less_one i n)

-- one candidate more
pub candidate_text : (old now after : List ℕ) (base n total : ℕ) (xs : List Candidate) (i : ℕ) (d : Candidate) → i < length xs
    → now ≡ old ++ text_of (candidate_lines base n (take i xs)) → total ≡ within_128 (total_after base (take i xs) + (get_or xs i d).cost)
    → after ≡ now ++ line_text (candidate_line (get_or xs i d) total (nat_lt i n)) → after ≡ old ++ text_of (candidate_lines base n (take (i + 1) xs))
candidate_text old now after base n total xs i d lt e t p =
    let o : Candidate = get_or xs i d in
    let line : List (List ℕ) = candidate_line o (within_128 (total_after base (take i xs) + o.cost)) (nat_lt i n) in
    let before : List (List (List ℕ)) = candidate_lines base n (take i xs) in
    p ∙ ap (λ l. l ++ line_text (candidate_line o total (nat_lt i n))) e ∙ ap (λ z. (old ++ text_of before) ++ line_text (candidate_line o z (nat_lt i n))) t
    ∙ append_assoc old (text_of before) (line_text line) ∙ ap (λ l. old ++ (text_of before ++ l)) (sym (append-nil (line_text line)))
    ∙ ap (λ l. old ++ l) (sym (text_append before (line ∷ []))) ∙ ap (λ ls. old ++ text_of ls) (sym (candidate_more base n xs i d lt))

-- the items of a list at a place
pub get_items : (xs : List (Vec ℕ Global)) (n : ℕ) (d : Vec ℕ Global) → n < length xs → get_or (map (λ s. s.items) xs) n [] ≡ (get_or xs n d).items
get_items [] n d lt = absurd (omega (arith, lt))
get_items (x ∷ xs) zero d lt = refl
get_items (x ∷ xs) (suc n) d lt = get_items xs n d (omega (arith, lt))
