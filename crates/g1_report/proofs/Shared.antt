-- The least word that stands for two texts.
use Rattle.std.proofs.Common.{◌≡◌, ◌≢◌, ℕ, ◌≤◌, ◌<◌, List, [], ◌∷◌, ◌++◌, Contains, refl, sym, ap, subst, inl, inr, arith}
use Rattle.std.specs.Prelude.{Option, Some, None, ◌==◌, unwrap_or, nat_eq}
use Rattle.std.specs.Borrow.{Bor}
use Rattle.std.specs.Cmp.{nat_eq_equiv}
use Rattle.std.specs.List.{IsDistinct}
use Rattle.std.specs.Map.{lookup, keys_of}
use Rattle.std.proofs.lemmas.List.Elements.{Contains-push, Contains-append_left, Contains-push_cases}
use Rattle.std.proofs.lemmas.Map.Views.{Contains-from_lookup, lookup-from_Contains, exact_unsigned_eq}
use Rattle.g1_report.specs.declared.sides.Side.{Side}
use Rattle.g1_report.specs.declared.sides.Shared.{Shared}
use Rattle.g1_report.specs.Wording.{Called, told}
use Rattle.g1_report.specs.Shared.{IsAnother, AreTwoTexts, SharesTexts, HasTwoTexts, StandsTwice, IsLeastOf}

module _ (before here : Called) (e : ℕ × Bor (List ℕ)) where
  -- an entry more that stands for no other text
  pub least_same : (least : Option Shared) → (StandsTwice before e → ⊥) → IsLeastOf before here least → IsLeastOf before (here ++ e ∷ []) least
  least_same None not is = λ d c t. elim (Contains-push_cases here e d c) [
    | inl old ↦ is d old t
    | inr new ↦ not (subst (StandsTwice before) (sym new) t)
  ]
  least_same (Some s) not is = (
    Contains-append_left here (e ∷ []) (s.word, s.other) is.0,
    is.1,
    λ d c t. elim (Contains-push_cases here e d c) [
      | inl old ↦ is.2 d old t
      | inr new ↦ absurd (not (subst (StandsTwice before) (sym new) t))
    ],
  )

  -- one whose word is not lower
  pub least_kept : (s : Shared) → s.word ≤ e.0 → IsLeastOf before here (Some s) → IsLeastOf before (here ++ e ∷ []) (Some s)
  least_kept s le is = (
    Contains-append_left here (e ∷ []) (s.word, s.other) is.0,
    is.1,
    λ d c t. elim (Contains-push_cases here e d c) [
      | inl old ↦ is.2 d old t
      | inr new ↦ subst (λ (x : ℕ × Bor (List ℕ)). s.word ≤ x.0) new le
    ],
  )

  -- one whose word is the least so far
  pub least_new : (least : Option Shared) (text : Bor (List ℕ)) → IsAnother before e.0 text.now e.1.now → ((s : Shared) → least ≡ Some s → e.0 < s.word)
      → IsLeastOf before here least → IsLeastOf before (here ++ e ∷ []) (Some (record { word = e.0; text = text; other = e.1 }))
  least_new None text two below is = (
    Contains-push here e,
    two,
    λ d c t. elim (Contains-push_cases here e d c) [
      | inl old ↦ absurd (is d old t)
      | inr new ↦ subst (λ (x : ℕ × Bor (List ℕ)). e.0 ≤ x.0) new (omega arith)
    ],
  )
  least_new (Some s) text two below is = (
    Contains-push here e,
    two,
    λ d c t. elim (Contains-push_cases here e d c) [
      | inl old ↦
          let le = is.2 d old t in
          let lt = below s refl in
          omega (arith, le, lt)
      | inr new ↦ subst (λ (x : ℕ × Bor (List ℕ)). e.0 ≤ x.0) new (omega arith)
    ],
  )

none_some : (x : List ℕ) → None ≡ Some x → ⊥
none_some x e = cc

-- what stands for a word is read from an entry
told_some : (r : Option (Bor (List ℕ))) (x : List ℕ) → told r ≡ Some x → (b : Bor (List ℕ)) × (r ≡ Some b) × (b.now ≡ x)
told_some None x e = absurd (none_some x e)
told_some (Some b) x e = (b, refl, ap (λ o. unwrap_or o []) e)

-- two texts of a word are those of an entry
two_in : (before after : Side) (word : ℕ) (text other : List ℕ) → AreTwoTexts before after word text other
    → (b : Bor (List ℕ)) × Contains after.texts.entries (word, b) × StandsTwice before.texts.entries (word, b)
two_in before after word text other t =
    let entries = after.texts.entries in
    let found = told_some (lookup (λ k. word == k) entries) other t.1 in
    let b = found.0 in
    let same : b.now ≡ other = found.2 in
    (b, Contains-from_lookup exact_unsigned_eq word b entries found.1, (text, (t.0.0, subst (λ x. text ≢ x) (sym same) t.0.1)))

-- no entry stands twice, and so no word stands for two texts
pub none_shared : (before after : Side) (here : Called) → here ≡ after.texts.entries → IsLeastOf before.texts.entries here None → SharesTexts before after → ⊥
none_shared before after here all is t =
    let e = two_in before after t.0 t.1 t.2 t.3 in
    is (t.0, e.0) (subst (λ es. Contains es (t.0, e.0)) (sym all) e.1) e.2

-- the least of all entries has the least word that stands for two texts
pub least_shared : (before after : Side) (here : Called) (s : Shared) → here ≡ after.texts.entries → IsDistinct nat_eq (keys_of after.texts.entries)
    → IsLeastOf before.texts.entries here (Some s) → HasTwoTexts before after s.word s.text.now s.other.now
least_shared before after here s all distinct is = record {
  two = (
    is.1,
    ap told (lookup-from_Contains nat_eq_equiv s.word s.other after.texts.entries distinct (subst (λ es. Contains es (s.word, s.other)) all is.0)),
  );
  least = λ lower one more t.
      let e = two_in before after lower one more t in
      is.2 (lower, e.0) (subst (λ es. Contains es (lower, e.0)) (sym all) e.1) e.2;
}
