-- Where the names of slots end, and what stands before `[]`.
use Rattle.std.proofs.Common.{◌≡◌, ℕ, zero, suc, min, ◌+◌, ◌-◌, List, [], ◌∷◌, ◌++◌, length, take, drop, refl, sym, subst, ap, ◌∙◌, arith}
use Rattle.std.specs.Prelude.{Option, Some, None, MatchOption, option_map, bytes_eq, codes}
use Rattle.std.specs.Borrow.{Bor}
use Rattle.std.specs.Cmp.Lexicographic.{bytes_decides}
use Rattle.std.specs.Str.Pattern.{FindsTextSuffix}
use Rattle.std.proofs.lemmas.Bool.{false_from_ne_true, cond-true, cond-false}
use Rattle.std.proofs.lemmas.List.{append_cancel_left, take-append-drop}
use Rattle.g1_report.specs.Program.{before_brackets}

-- what is stripped of a text
pub stripped : (s : List ℕ) (r : Option (Bor (List ℕ)))
    → MatchOption r (FindsTextSuffix (codes "[]") s None) (λ x. (n : ℕ) × FindsTextSuffix (codes "[]") s (Some n) × (x.now ≡ take (length s - n) s) × (length x.now + n ≡ length s))
    → option_map (λ x. x.now) r ≡ before_brackets s
stripped s None h =
    sym (cond-false (bytes_eq (drop (length s - 2) s) (codes "[]")) (Some (take (length s - 2) s)) None
    (false_from_ne_true (bytes_eq (drop (length s - 2) s) (codes "[]")) (λ t.
    h (take (length s - 2) s) (sym (take-append-drop (length s - 2) s) ∙ ap (λ l. take (length s - 2) s ++ l) ((bytes_decides (drop (length s - 2) s) (codes "[]")).0 t)))))
stripped s (Some x) h =
    let n = h.0 in
    let two : n ≡ 2 = h.1.0 in
    let split : s ≡ take (length s - 2) s ++ codes "[]" = subst (λ k. s ≡ take (length s - k) s ++ codes "[]") two h.1.1 in
    let back : drop (length s - 2) s ≡ codes "[]" = append_cancel_left (take (length s - 2) s) (drop (length s - 2) s) (codes "[]") (take-append-drop (length s - 2) s ∙ split) in
    let is : x.now ≡ take (length s - 2) s = subst (λ k. x.now ≡ take (length s - k) s) two h.2 in
    ap Some is ∙ sym (cond-true (bytes_eq (drop (length s - 2) s) (codes "[]")) (Some (take (length s - 2) s)) None ((bytes_decides (drop (length s - 2) s) (codes "[]")).1 back))

at_most_one : {X : Type 0} (xs : List X) → drop (min (length xs) 1) xs ≡ drop 1 xs
at_most_one [] = refl
at_most_one (x ∷ xs) = let e : min (length (x ∷ xs)) 1 ≡ 1 = omega arith in ap (λ n. drop n (x ∷ xs)) e

drop_on : {X : Type 0} (n : ℕ) (xs : List X) → drop 1 (drop n xs) ≡ drop (n + 1) xs
drop_on zero xs = refl
drop_on (suc n) [] = let e : suc n + 1 ≡ suc (n + 1) = omega arith in ap (λ m. drop m []) (sym e)
drop_on (suc n) (x ∷ xs) = let e : suc n + 1 ≡ suc (n + 1) = omega arith in drop_on n xs ∙ ap (λ m. drop m (x ∷ xs)) (sym e)

-- what stands behind the word at a place
pub drop_one : {X : Type 0} (n : ℕ) (xs rest : List X) → rest ≡ drop n xs → drop (min (length rest) 1) rest ≡ drop (n + 1) xs
drop_one n xs rest e = at_most_one rest ∙ ap (drop 1) e ∙ drop_on n xs
