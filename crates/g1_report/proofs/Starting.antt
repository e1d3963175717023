-- Whether an object starts at an address.
use Rattle.std.proofs.Common.{◌≡◌, ℕ, true, false, map, Contains, sym, ◌∙◌, ap, subst}
use Rattle.std.proofs.lemmas.Bool.{false_from_ne_true}
use Rattle.g1_words.specs.Heap.{Heap, object_at, objects}
use Rattle.g1_words.specs.Valid.{IsValid}
use Rattle.g1_words.specs.declared.object.Object.{Object}
use Rattle.g1_words.proofs.Members.{Contains-map, map_cases, has_from_contains, Contains-from_has}
use Rattle.g1_words.proofs.Computed.{contains_has}
use Rattle.g1_words.proofs.Sound.{has_is}
use Rattle.g1_report.specs.Wording.{starts_at}

module _ (h : Heap) (a : ℕ) where
  pub starts : Contains (objects h) (object_at h a) → true ≡ starts_at h a
  starts c =
      sym (has_from_contains (map (λ (o : Object). o.at) (objects h)) a
      (Contains-map (λ (o : Object). o.at) (objects h) (object_at h a) c))

  pub starts_not : IsValid h → (Contains (objects h) (object_at h a) → ⊥) → false ≡ starts_at h a
  starts_not valid none = sym (false_from_ne_true (starts_at h a) (λ t.
      let m = map_cases (λ (o : Object). o.at) (objects h) a (Contains-from_has (map (λ (o : Object). o.at) (objects h)) a t) in
      let there : Contains (objects h) m.0 = m.1 in
      let same : m.0 ≡ object_at h a = has_is h m.0 valid (contains_has h m.0 valid.shaped there) ∙ ap (object_at h) m.2 in
      none (subst (λ (o : Object). Contains (objects h) o) same there)))
