-- A heap that keeps what a pause keeps has lost nothing.
use Rattle.std.proofs.Common.{◌≡◌, ℕ, zero, suc, ◌+◌, ◌<◌, inl, inr, List, length, IsTrue, IsFalse, refl, sym, ap, subst, ◌∙◌, arith, slice_index, Bool}
use Rattle.std.proofs.lemmas.Bool.{false≢true}
use Rattle.std.proofs.lemmas.List.{length-map, get_or-map}
use Rattle.g1_words.specs.Heap.{Heap, word, kind, object_at}
use Rattle.g1_words.specs.Survivors.{in_set}
use Rattle.g1_words.specs.Valid.{IsValid}
use Rattle.g1_words.specs.Copy.{renamed}
use Rattle.g1_same.proofs.Copies.{copied_data, copied_header, copied_slot}
use Rattle.g1_same.proofs.Heaps.{root_target, slot_target}
use Rattle.g1_kept.specs.declared.lost.Lost.{Lost}
use Rattle.g1_kept.specs.declared.lost.Lost.TheVariants as lost
use Rattle.g1_kept.specs.Keeps.{MayHoldCopy, IsAsItWas, Keeps, Remains, outside as outside_remains, root as root_remains, slot as slot_remains}
use Rattle.g1_kept.specs.Lost.{Match, outside, root, slot, Disagree, changed, null, split, joined, IsUsedOutside, IsLoss}
use Rattle.g1_kept.proofs.Regions.{other_top}
use Rattle.g1_kept.proofs.Remaining.{remains_object}

module _ (fill : Bool) (set : List ℕ) (g h : Heap) (left : IsValid g) (right : IsValid h) (k : Keeps fill set g h) where
  same_header : (a : ℕ) → Remains set g h a → word h (k.rename a) ≡ word g a
  same_header a r = copied_header k.rename g h a left (remains_object set g h left a r) (k.copies a r)

  same_slot : (a n : ℕ) → Remains set g h a → n < (object_at g a).refs → word h (k.rename a + 1 + n) ≡ renamed k.rename (word g (a + 1 + n))
  same_slot a n r lt = copied_slot k.rename g h a left (remains_object set g h left a r) (k.copies a r) n lt

  same_data : (a n : ℕ) → Remains set g h a → (object_at g a).refs + 1 + n < (object_at g a).size
      → word h (k.rename a + 1 + (object_at g a).refs + n) ≡ word g (a + 1 + (object_at g a).refs + n)
  same_data a n r lt = copied_data k.rename g h a left (remains_object set g h left a r) (k.copies a r) n lt

  same_root : (n : ℕ) → n < length g.roots → slice_index h.roots n ≡ renamed k.rename (slice_index g.roots n)
  same_root n lt = ap (λ l. slice_index l n) k.roots ∙ get_or-map (renamed k.rename) g.roots n 0 0 lt

  -- what matches an object is what it is renamed to
  matched : (a b : ℕ) → Match set g h a b → Remains set g h a × (b ≡ k.rename a)
  matched a b (outside o) = (outside_remains o, sym (k.stays a o.outside))
  matched a b (root n p q ex ey of_set) =
      let e : suc b ≡ suc (k.rename a) = sym ey ∙ same_root n p ∙ ap (renamed k.rename) ex in
      (root_remains (root_target g a n p ex) of_set, omega (arith, e))
  matched c d (slot {a = a} {b = b} n m p q ex ey of_set) =
      let r = matched a b m in
      let e : suc d ≡ suc (k.rename c) = sym ey ∙ ap (λ z. word h (z + 1 + n)) r.1 ∙ same_slot a n r.0 p ∙ ap (renamed k.rename) ex in
      (slot_remains r.0 (slot_target g a c n p ex) of_set, omega (arith, e))

  stays_word : (x : ℕ) → ((a : ℕ) → x ≡ suc a → IsFalse (in_set g set a)) → renamed k.rename x ≡ x
  stays_word zero out = refl
  stays_word (suc a) out = ap suc (k.stays a (out a refl))

  no_disagreement : (x y : ℕ) → ((a : ℕ) → x ≡ suc a → IsTrue (in_set g set a) → Remains set g h a) → y ≡ renamed k.rename x → Disagree set g h x y → ⊥
  no_disagreement x y remains e (changed out other) = other (e ∙ stays_word x out)
  no_disagreement x y remains e (null of_set) = absurd (omega (arith, e))
  no_disagreement x y remains e (split {a = a} {b = b} other of_set m ne) =
      let r = matched a other m in
      ne (omega (arith, e, r.1))
  no_disagreement x y remains e (joined {a = a} {b = b} other of_set other_of_set m ne) =
      let r = matched other b m in
      ne (k.one_to_one other a r.0 (remains a refl of_set) (omega (arith, e, r.1)))

  as_it_was : (r : ℕ) → IsUsedOutside set g r → kind h r ≡ kind g r → IsAsItWas fill g h r
  as_it_was r out same = elim ((k.table.regions r out.in_heap).other out.outside) [
    | inl e ↦ absurd (out.used e)
    | inr s ↦ elim s [ inl f ↦ absurd (out.used (sym same ∙ f.1)) | inr was ↦ was ]
  ]

  pub no_loss : (l : Lost) → IsLoss fill set g h l → ⊥
  no_loss lost.Sizes c = c k.table.geometry
  no_loss lost.Roots c = c (ap length k.roots ∙ length-map g.roots (renamed k.rename))
  no_loss (lost.Set r) c = c.2 ((k.table.regions r c.0).of_set c.1)
  no_loss (lost.Region r) c = elim ((k.table.regions r c.0.in_heap).other c.0.outside) [
    | inl e ↦ c.0.used e
    | inr s ↦ elim s [
      | inl f ↦ c.1 f
      | inr was ↦ elim c.2 [ inl d ↦ d was.same_kind | inr d ↦ other_top fill g h r was d ]
    ]
  ]
  no_loss (lost.Unpinned r) c = let was = as_it_was r c.0 c.1 in absurd (false≢true (sym c.4 ∙ was.same_pin ∙ c.3))
  no_loss (lost.Pinned r) c = let was = as_it_was r c.0 c.1 in absurd (false≢true (sym c.3 ∙ sym was.same_pin ∙ c.4))
  no_loss (lost.Copy a b) c = let r = matched a b c.0 in c.2 (subst (MayHoldCopy fill g) (sym r.1) (k.moves a r.0 c.1))
  no_loss (lost.Header a b) c = let r = matched a b c.0 in c.1 (ap (word h) r.1 ∙ same_header a r.0)
  no_loss (lost.Data a b n) c =
      let r = matched a b c.0 in
      c.3 (ap (λ z. word h (z + 1 + (object_at g a).refs + n)) r.1 ∙ same_data a n r.0 c.2)
  no_loss (lost.Slot a b n) c =
      let r = matched a b c.0 in
      no_disagreement (word g (a + 1 + n)) (word h (b + 1 + n)) (λ x e of_set. slot_remains r.0 (slot_target g a x n c.2 e) of_set)
      (ap (λ z. word h (z + 1 + n)) r.1 ∙ same_slot a n r.0 c.2) c.3
  no_loss (lost.Root n) c =
      no_disagreement (slice_index g.roots n) (slice_index h.roots n) (λ x e of_set. root_remains (root_target g x n c.0 e) of_set) (same_root n c.0) c.2
