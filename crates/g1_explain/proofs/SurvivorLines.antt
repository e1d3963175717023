-- The lines of survivors, by the finders that were met.
use Rattle.std.proofs.Common.{◌≡◌, ℕ, suc, ◌+◌, ◌<◌, ◌≤◌, List, [], ◌∷◌, ◌++◌, length, map, min, flat_map, slice_index, refl, sym, ◌∙◌, ap, arith, append-nil}
use Rattle.std.specs.List.{range_with_len}
use Rattle.std.proofs.lemmas.List.{length-map, length-append}
use Rattle.g1_words.specs.Heap.{Heap}
use Rattle.g1_words.specs.Valid.{IsValid}
use Rattle.g1_text.specs.Lines.{line_text, text_of}
use Rattle.g1_text.proofs.Printed.{text_map}
use Rattle.g1_explain.specs.declared.finder.Finder.{Finder}
use Rattle.g1_explain.specs.Finders.{Lead, leads, first_leads}
use Rattle.g1_explain.specs.Searched.{finder_at, AreMet, AreEnough, IsSearch}
use Rattle.g1_explain.specs.Survivors.{survivor_line, survivor_lines}
use Rattle.g1_explain.proofs.FirstLeads.{targets_of, finders_of}
use Rattle.g1_explain.proofs.Targets.{searched}
use Rattle.g1_explain.proofs.AllMet.{met_first}
use Rattle.g1_explain.proofs.Backward.{enough}

-- what is made of the places of some references is made of them
map_places : {A : Type 0} (f : Lead → A) (g : ℕ → A) (a : ℕ) (ls : List Lead) → ((j : ℕ) → j < length ls → g (a + j) ≡ f (record { finder = finder_at (finders_of ls) j; target = slice_index (targets_of ls) j }))
    → map g (range_with_len a (length ls)) ≡ map f ls
map_places f g a [] h = refl
map_places f g a (l ∷ ls) h =
    let e : a + 0 ≡ a = omega arith in
    let here : g a ≡ f l = ap g (sym e) ∙ h 0 (omega arith) in
    let rest : map g (range_with_len (a + 1) (length ls)) ≡ map f ls =
    map_places f g (a + 1) ls (λ j lt. ap g (let z : a + 1 + j ≡ a + suc j = omega arith in z) ∙ h (suc j) (omega (arith, lt))) in
    λ i. here i ∷ rest i

no_tail : (fs tail : List Finder) (n : ℕ) → length (fs ++ tail) ≡ n → n ≤ length fs → tail ≡ []
no_tail fs [] n e le = refl
no_tail fs (f ∷ tail) n e le = absurd (omega (arith, e, le, length-append fs (f ∷ tail)))

pub survivors_end : (h : Heap) (set cards found : List ℕ) (fs : List Finder) → IsValid h → IsSearch h set cards found → AreMet h cards found fs → length found ≤ length fs
    → map (λ j. survivor_line h (record { finder = finder_at fs j; target = slice_index found j })) (range_with_len 0 (length found)) ≡ survivor_lines h set found
survivors_end h set cards found fs valid s are le =
    let ls : List Lead = first_leads (leads h set found) in
    let t = met_first h set cards found valid s.rising s.outside s.lead_in s.survivors fs are in
    let same : found ≡ targets_of ls = searched h set found s.survivors in
    let count : length found ≡ length ls = ap length same ∙ length-map ls (λ (l : Lead). l.target) in
    let none : t.0 ≡ [] = no_tail fs t.0 (length found) (sym (ap length t.1) ∙ length-map ls (λ (l : Lead). l.finder) ∙ sym count) le in
    let all : fs ≡ finders_of ls = sym (append-nil fs) ∙ ap (λ l. fs ++ l) (sym none) ∙ sym t.1 in
    ap (λ n. map (λ j. survivor_line h (record { finder = finder_at fs j; target = slice_index found j })) (range_with_len 0 n)) count
    ∙ map_places (survivor_line h) (λ j. survivor_line h (record { finder = finder_at fs j; target = slice_index found j })) 0 ls
    (λ j lt. let z : 0 + j ≡ j = omega arith in
    ap (λ k. survivor_line h (record { finder = finder_at fs k; target = slice_index found k })) z
    ∙ (λ i. survivor_line h (record { finder = finder_at (all i) j; target = slice_index (same i) j })))

-- the text of these lines behind a text
pub survivors_text : (h : Heap) (set cards found old now : List ℕ) (fs : List Finder) → IsValid h → IsSearch h set cards found → AreMet h cards found fs → AreEnough h cards found (length found) fs
    → now ≡ old ++ flat_map (λ j. line_text (survivor_line h (record { finder = finder_at fs j; target = slice_index found j }))) (range_with_len 0 (min (length found) (length fs)))
    → now ≡ old ++ text_of (survivor_lines h set found)
survivors_text h set cards found old now fs valid s are many e =
    let le : length found ≤ length fs = enough h set cards found valid s fs (length found) (omega arith) many in
    let all : min (length found) (length fs) ≡ length found = omega (arith, le) in
    e ∙ ap (λ n. old ++ flat_map (λ j. line_text (survivor_line h (record { finder = finder_at fs j; target = slice_index found j }))) (range_with_len 0 n)) all
    ∙ ap (λ l. old ++ l)
    (sym (text_map (λ j. survivor_line h (record { finder = finder_at fs j; target = slice_index found j })) (range_with_len 0 (length found))) ∙ ap text_of (survivors_end h set cards found fs valid s are le))
