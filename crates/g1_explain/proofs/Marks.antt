-- The marks of a set of regions, and the lines of the cards that lead into it.
use Rattle.std.proofs.Common.{◌≡◌, ℕ, zero, suc, ◌<◌, inl, inr, Bool, false, ◌||◌, List, ◌∷◌, ◌++◌, length, get_or, map, All, refl, sym, ◌∙◌, ap, arith, append_assoc}
use Rattle.std.specs.Prelude.{replicate, codes, decimal}
use Rattle.std.proofs.lemmas.Bool.{cases_lt}
use Rattle.std.proofs.lemmas.List.{length-replicate, get_or_past}
use Rattle.g1_words.specs.Heap.{Heap}
use Rattle.g1_words.specs.Lists.{has}
use Rattle.g1_words.specs.Marks.{AreMarked}
use Rattle.g1_words.proofs.Indices.{not_has}
use Rattle.g1_words.proofs.Lists.{all_in}
use Rattle.g1_text.specs.Lines.{line_text, further, text_of}
use Rattle.g1_explain.specs.Cards.{number_words, set_line, slots_to, entry_line, set_lines}
use Rattle.g1_explain.proofs.Texts.{line_then}

none_set : (n r : ℕ) → get_or (replicate n false) r false ≡ false
none_set zero r = refl
none_set (suc n) zero = refl
none_set (suc n) (suc r) = none_set n r

-- the marks are those of the regions of the set
pub marks_are : (n : ℕ) (set : List ℕ) (none marks : List Bool) → none ≡ replicate n false → AreMarked (has set) none marks → All (λ r. r < n) set → (r : ℕ) → get_or marks r false ≡ has set r
marks_are n set none marks e are below r =
    let many : length none ≡ n = ap length e ∙ length-replicate n false in
    elim (cases_lt r n) [
      | inl lt ↦ are.each r (omega (arith, lt, many)) ∙ ap (λ (xs : List Bool). get_or xs r false || has set r) e ∙ ap (λ b. b || has set r) (none_set n r)
      | inr ge ↦
          get_or_past marks r false (omega (arith, ge, many, are.one_each))
          ∙ sym (not_has set r (λ i. let lt : r < n = all_in (λ x. x < n) set r below i in absurd (omega (arith, ge, lt))))
    ]

-- the line of a set, and those of the cards
pub set_end : (h : Heap) (set cards : List ℕ) (marks : List Bool) (old a b c : List ℕ) → ((r : ℕ) → get_or marks r false ≡ has set r) → a ≡ old ++ codes "set" → b ≡ a ++ further (number_words set)
    → c ≡ b ++ text_of (map (entry_line h (λ r. get_or marks r false)) cards) → c ≡ old ++ text_of (set_lines h set cards)
set_end h set cards marks old a b c are p q r =
    let line : b ≡ old ++ line_text (set_line set) = q ∙ ap (λ l. l ++ further (number_words set)) p ∙ append_assoc old (codes "set") (further (number_words set)) in
    let tests : (λ r. get_or marks r false) ≡ has set = λ i. λ r. are r i in
    line_then old b c (set_line set) (map (entry_line h (λ r. get_or marks r false)) cards) line r
    ∙ ap (λ (t : ℕ → Bool). old ++ text_of (set_line set ∷ map (entry_line h t) cards)) tests

-- the line of a card
pub entry_end : (h : Heap) (test : ℕ → Bool) (card : ℕ) (old mid new leading : List ℕ) → leading ≡ slots_to h test card → mid ≡ old ++ (codes "card " ++ (decimal card ++ codes " slots"))
    → new ≡ mid ++ further (number_words leading) → new ≡ old ++ line_text (entry_line h test card)
entry_end h test card old mid new leading e p q =
    let ends : List ℕ = further (number_words (slots_to h test card)) in
    q ∙ ap (λ l. mid ++ further (number_words l)) e ∙ ap (λ l. l ++ ends) p ∙ append_assoc old (codes "card " ++ (decimal card ++ codes " slots")) ends
    ∙ ap (λ l. old ++ (codes "card " ++ l)) (append_assoc (decimal card) (codes " slots") ends)
