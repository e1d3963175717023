-- The ends of lines with lists of numbers.
use Rattle.std.proofs.Common.{◌≡◌, ℕ, ◌≤◌, ◌==◌, false, true, List, [], ◌∷◌, ◌++◌, length, take, flat_map, sym, ◌∙◌, ap, arith, append_assoc, eqb-true}
use Rattle.std.specs.Prelude.{decimal}
use Rattle.g1_text.specs.Lines.{further, text_of}
use Rattle.g1_explain.specs.Cards.{number_words}
use Rattle.g1_text.proofs.Printed.{take_all, further_words, text_flat_map}

pub numbers_none : (old last xs : List ℕ) → true ≡ (length xs == 0) → last ≡ old ++ (32 ∷ 45 ∷ 10 ∷ []) → last ≡ old ++ further (number_words xs)
numbers_none old last [] some e = e
numbers_none old last (x ∷ xs) some e = let none = eqb-true (length (x ∷ xs)) 0 (sym some) in absurd (omega (arith, none))

pub numbers_some : (old now last xs : List ℕ) (i : ℕ) → length xs ≤ i → false ≡ (length xs == 0) → now ≡ old ++ flat_map (λ x. 32 ∷ decimal x) (take i xs) → last ≡ now ++ 10 ∷ []
    → last ≡ old ++ further (number_words xs)
numbers_some old now last [] i le some e p = cc
numbers_some old now last (x ∷ xs) i le some e p =
    p ∙ ap (λ l. l ++ 10 ∷ []) e ∙ append_assoc old (flat_map (λ x. 32 ∷ decimal x) (take i (x ∷ xs))) (10 ∷ [])
    ∙ ap (λ l. old ++ (flat_map (λ x. 32 ∷ decimal x) l ++ 10 ∷ [])) (take_all i (x ∷ xs) le) ∙ ap (λ l. old ++ l) (sym (further_words decimal (x ∷ xs)))

-- the lines of all parts of a list
pub parts_end : {X : Type 0} (f : X → List (List (List ℕ))) (old now : List ℕ) (xs : List X) (i : ℕ) → length xs ≤ i
    → now ≡ old ++ flat_map (λ x. text_of (f x)) (take i xs) → now ≡ old ++ text_of (flat_map f xs)
parts_end f old now xs i le e = e ∙ ap (λ l. old ++ flat_map (λ x. text_of (f x)) l) (take_all i xs le) ∙ ap (λ l. old ++ l) (sym (text_flat_map f xs))
