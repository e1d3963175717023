-- The words that a path leads to, and one step more.
use Rattle.std.proofs.Common.{◌≡◌, ℕ, zero, suc, ◌+◌, ◌-◌, ◌^◌, ◌<◌, ◌≤◌, inl, inr, List, [], ◌∷◌, ◌++◌, length, get_or, take, drop, refl, sym, ◌∙◌, ap, subst, arith}
use Rattle.std.specs.Prelude.{Option, Result, OnOk, slice_index, slice_range}
use Rattle.g1_words.specs.Heap.{Heap, object_at}
use Rattle.g1_words.specs.Valid.{IsValid, IsReference, HasObject}
use Rattle.g1_words.proofs.Sound.{has_is}
use Rattle.std.proofs.lemmas.Bool.{cases_lt}
use Rattle.std.proofs.lemmas.List.{get_or-take, get_or-drop, get_or_past, length-take, take_more}
use Rattle.g1_report.specs.Program.{ProgramNames, WordsOf, object_of}
use Rattle.g1_report.specs.Runs.{Repeated, runs_of, steps_in, ends_text}
use Rattle.g1_report.specs.Steps.{step_text, word_in, steps_from, steps_text, named_path_text}
use Rattle.g1_report.proofs.Runs.{steps_in_runs}

-- the word to which slots lead
abbrev pub word_after : Heap → ℕ → List ℕ → ℕ
word_after h w [] = w
word_after h w (slot ∷ slots) = word_after h (word_in (object_of h w) slot) slots

pub steps_more : (p : ProgramNames) (h : Heap) (w : ℕ) (slots : List ℕ) (slot : ℕ) → steps_from p h w (slots ++ slot ∷ []) ≡ steps_from p h w slots ++ step_text p (object_of h (word_after h w slots)) slot ∷ []
steps_more p h w [] slot = refl
steps_more p h w (s ∷ slots) slot = ap (λ xs. step_text p (object_of h w) s ∷ xs) (steps_more p h (word_in (object_of h w) s) slots slot)

pub word_more : (h : Heap) (w : ℕ) (slots : List ℕ) (slot : ℕ) → word_after h w (slots ++ slot ∷ []) ≡ word_in (object_of h (word_after h w slots)) slot
word_more h w [] slot = refl
word_more h w (s ∷ slots) slot = word_more h (word_in (object_of h w) s) slots slot

pub steps_length : (p : ProgramNames) (h : Heap) (w : ℕ) (slots : List ℕ) → length (steps_from p h w slots) ≡ length slots
steps_length p h w [] = refl
steps_length p h w (s ∷ slots) = ap suc (steps_length p h (word_in (object_of h w) s) slots)

range_within : (xs : List ℕ) (a b n : ℕ) → a + n < b → slice_index (slice_range xs a b) n ≡ slice_index xs (a + n)
range_within xs a b n lt = get_or-take (b - a) (drop a xs) n 0 (omega (arith, lt)) ∙ get_or-drop a xs n 0

range_past : (xs : List ℕ) (a b n : ℕ) → b ≤ a + n → slice_index (slice_range xs a b) n ≡ 0
range_past xs a b n le = get_or_past (slice_range xs a b) n 0 (omega (arith, le, length-take (b - a) (drop a xs)))

-- the word in a slot is a reference
pub word_reference : (h : Heap) (x n : ℕ) → IsValid h → IsReference h x → IsReference h (word_in (object_of h x) n)
word_reference h zero n valid r = inl refl
word_reference h (suc at) n valid (inl e) = absurd (omega (arith, e))
word_reference h (suc at) n valid (inr (o, has, e)) =
    let here : o.at ≡ at = omega (arith, e) in
    let has_this : HasObject h (object_at h at) = subst (HasObject h) (has_is h o valid has ∙ ap (object_at h) here) has in
    let refs : ℕ = (object_at h at).refs in
    elim (cases_lt n refs) [
      | inl lt ↦ subst (IsReference h) (sym (range_within h.words (at + 1) (at + 1 + refs) n (omega (arith, lt)))) (valid.slots (object_at h at) (at + 1 + n) has_this (omega arith, omega (arith, lt)))
      | inr le ↦ subst (IsReference h) (sym (range_past h.words (at + 1) (at + 1 + refs) n (omega (arith, le)))) (inl refl)
    ]

-- a root is a reference
pub root_reference : (h : Heap) (n : ℕ) → IsValid h → IsReference h (slice_index h.roots n)
root_reference h n valid = elim (cases_lt n (length h.roots)) [
  | inl lt ↦ valid.roots n 0 lt
  | inr le ↦ subst (IsReference h) (sym (get_or_past h.roots n 0 le)) (inl refl)
]

-- one slot more of a path
module _ (p : ProgramNames) (h : Heap) (w : ℕ) (slots : List ℕ) (i x : ℕ) (lt : i < length slots) (here : x ≡ word_after h w (take i slots)) where
  more : take (i + 1) slots ≡ take i slots ++ get_or slots i 0 ∷ []
  more = take_more slots i 0 lt

  pub further_word : (object : Option WordsOf) (y : ℕ) → object ≡ object_of h x → y ≡ word_in object (get_or slots i 0) → y ≡ word_after h w (take (i + 1) slots)
  further_word object y e q =
      q ∙ ap (λ o. word_in o (get_or slots i 0)) (e ∙ ap (object_of h) here) ∙ sym (word_more h w (take i slots) (get_or slots i 0)) ∙ ap (word_after h w) (sym more)

  pub further_steps : (object : Option WordsOf) (text : List ℕ) → object ≡ object_of h x → text ≡ step_text p object (get_or slots i 0)
      → steps_from p h w (take i slots) ++ text ∷ [] ≡ steps_from p h w (take (i + 1) slots)
  further_steps object text e q =
      ap (λ t. steps_from p h w (take i slots) ++ t ∷ []) (q ∙ ap (λ o. step_text p o (get_or slots i 0)) (e ∙ ap (object_of h) here))
      ∙ sym (steps_more p h w (take i slots) (get_or slots i 0)) ∙ ap (steps_from p h w) (sym more)

  pub steps_few : length slots < 2 ^ 64 → length (steps_from p h w (take i slots)) < 2 ^ 64 - 1
  steps_few few = omega (arith, steps_length p h w (take i slots), length-take i slots, lt, few)

-- the text of the runs of a path
pub path_end : {R E : Type 0} (r : Result R E) (p : ProgramNames) (h : Heap) (root : ℕ) (slots : List ℕ) (rs : List Repeated) (old after : List ℕ) → rs ≡ runs_of (steps_text p h root slots) → length slots < 2 ^ 64
    → (steps_in rs < 2 ^ 64 → OnOk r (after ≡ old ++ ends_text rs)) → OnOk r (after ≡ old ++ named_path_text p h root slots)
path_end r p h root slots rs old after e few add =
    let all : steps_in (runs_of (steps_text p h root slots)) ≡ length (steps_text p h root slots) = steps_in_runs (steps_text p h root slots) in
    let many : length (steps_text p h root slots) ≡ length slots = steps_length p h (slice_index h.roots root) slots in
    let same : steps_in rs ≡ steps_in (runs_of (steps_text p h root slots)) = ap steps_in e in
    subst (λ x. OnOk r (after ≡ old ++ ends_text x)) e (add (omega (arith, all, many, same, few)))
