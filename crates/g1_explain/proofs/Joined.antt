-- The cards that a set has and another has not, and the lines of them.
use Rattle.std.proofs.Common.{◌≡◌, ℕ, ◌==◌, false, true, not, List, [], ◌∷◌, ◌++◌, length, map, refl, sym, ◌∙◌, ap, arith, append_assoc, append-nil, eqb-true, Result, Ok, Err}
use Rattle.std.specs.Prelude.{codes, decimal, is_err}
use Rattle.std.specs.List.Sorted.{IsStrictlyIncreasing, IsBinarySearchResult}
use Rattle.std.specs.Ordering.{nat_cmp}
use Rattle.g1_words.specs.Lists.{has}
use Rattle.g1_words.proofs.Members.{has_from_contains}
use Rattle.g1_frontier.proofs.Places.{found_at, not_found}
use Rattle.g1_copy.proofs.LinkingCards.{none_pass}
use Rattle.g1_text.specs.Lines.{further, text_of}
use Rattle.g1_explain.specs.Cards.{number_words}
use Rattle.g1_explain.specs.Remembered.{joined, set_change}

-- a set has no card that it has not
pub joined_same : (xs ys none : List ℕ) → xs ≡ ys → none ≡ [] → none ≡ joined xs ys
joined_same xs ys none e n =
    n ∙ sym (none_pass (λ c. not (has ys c)) ys (λ c i. ap not (has_from_contains ys c i))) ∙ ap (λ (l : List ℕ). joined l ys) (sym e)

-- what a search says of a card
pub searched_has : (xs : List ℕ) (c : ℕ) (r : Result ℕ ℕ) → IsStrictlyIncreasing xs → IsBinarySearchResult (λ y. nat_cmp y c) xs r → is_err r ≡ not (has xs c)
searched_has xs c (Ok i) rise is = sym (ap not (found_at xs c (Ok i) i rise is refl).0)
searched_has xs c (Err i) rise is = sym (ap not (not_found xs c (Err i) i rise is refl))

-- the line of a set that changes
pub change_end : (r : ℕ) (word cards old mid new : List ℕ) → false ≡ (length cards == 0) → mid ≡ old ++ (codes "remembered " ++ (decimal r ++ (32 ∷ word))) → new ≡ mid ++ further (number_words cards)
    → new ≡ old ++ text_of (set_change r word cards)
change_end r word [] old mid new some p q = cc
change_end r word (c ∷ cs) old mid new some p q =
    let ends : List ℕ = further (map decimal (c ∷ cs)) in
    q ∙ ap (λ l. l ++ ends) p ∙ append_assoc old (codes "remembered " ++ (decimal r ++ (32 ∷ word))) ends
    ∙ ap (λ l. old ++ (codes "remembered " ++ l)) (append_assoc (decimal r) (32 ∷ word) ends)
    ∙ ap (λ l. old ++ l) (sym (append-nil (codes "remembered " ++ (decimal r ++ (32 ∷ (word ++ ends))))))

-- that of a set that does not
pub change_none : (r : ℕ) (word cards old : List ℕ) → true ≡ (length cards == 0) → old ≡ old ++ text_of (set_change r word cards)
change_none r word [] old none = sym (append-nil old)
change_none r word (c ∷ cs) old none = let e = eqb-true (length (c ∷ cs)) 0 (sym none) in absurd (omega (arith, e))
