-- Whether a word is null or names an object, and whether a slot does.
use Rattle.std.proofs.Common.{◌≡◌, ◌≤◌, ◌<◌, ℕ, zero, suc, ◌+◌, inl, inr, slice_index, arith, refl, Contains}
use Rattle.g1_words.specs.declared.object.Object.{Object}
use Rattle.g1_words.specs.Heap.{Heap, objects}
use Rattle.g1_words.specs.Valid.{AllShaped, HasObject, IsReference, IsSlotOf}
use Rattle.g1_words.proofs.Computed.{has_contains, contains_has}
use Rattle.g1_image.specs.Faults.{IsGoodSlot}
use Rattle.g1_image.proofs.Decided.{Decided, decided_as, decided_both, decided_lt, decided_le, decided_eq, decided_member}

module _ (h : Heap) (shaped : AllShaped h) where
  -- an object of the heap is one of those that are computed
  listed : (o : Object) → HasObject h o → Contains (objects h) o
  listed o has = has_contains h o has

  -- and the other way round
  unlisted : (o : Object) → Contains (objects h) o → HasObject h o
  unlisted o i = contains_has h o shaped i

  -- a word names an object or is null
  pub decided_reference : (x : ℕ) → Decided (IsReference h x)
  decided_reference zero = inl (inl refl)
  decided_reference (suc a) =
      decided_as ((o : Object) × Contains (objects h) o × (o.at ≡ a)) (IsReference h (suc a))
      (λ s. inr (s.0, unlisted s.0 s.1, omega (arith, s.2)))
      (λ t. elim t [ inl z ↦ absurd (omega (arith, z)) | inr s ↦ (s.0, listed s.0 s.1, omega (arith, s.2)) ])
      (decided_member (λ o. o.at ≡ a) (λ o. decided_eq o.at a) (objects h))

  -- the address is a slot of an object
  decided_slot : (p : ℕ) → Decided ((o : Object) × Contains (objects h) o × IsSlotOf o p)
  decided_slot p = decided_member (λ o. IsSlotOf o p) (λ o. decided_both (o.at < p) (p ≤ o.at + o.refs) (decided_lt o.at p) (decided_le p (o.at + o.refs))) (objects h)

  -- a slot is good
  pub decided_good_slot : (p : ℕ) → Decided (IsGoodSlot h p)
  decided_good_slot p = elim (decided_reference (slice_index h.words p)) [
    | inl good ↦ inl (λ o has slot. good)
    | inr bad ↦ elim (decided_slot p) [
      | inl s ↦ inr (λ g. bad (g s.0 (unlisted s.0 s.1) s.2))
      | inr n ↦ inl (λ o has slot. absurd (n (o, listed o has, slot)))
    ]
  ]
