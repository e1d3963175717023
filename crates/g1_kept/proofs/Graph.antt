-- A heap that keeps what a pause keeps shows the same graph.
use Rattle.std.proofs.Common.{◌≡◌, ◌≢◌, ℕ, suc, ◌+◌, ◌/◌, ◌%◌, ◌^◌, ◌<◌, inl, inr, List, length, Contains, IsFalse, ap, subst, ◌∙◌, arith, slice_index, Bool}
use Rattle.std.proofs.lemmas.Bool.{cases_Bool}
use Rattle.std.proofs.lemmas.List.{length-map, get_or-map}
use Rattle.g1_words.specs.declared.region.Kind.TheVariants.{Free}
use Rattle.g1_words.specs.Heap.{Heap, kind, word, region_of, object_at, objects}
use Rattle.g1_words.specs.Survivors.{in_set}
use Rattle.g1_words.specs.Valid.{IsValid}
use Rattle.g1_words.specs.Live.{Live, seed, child}
use Rattle.g1_words.specs.Copy.{renamed}
use Rattle.g1_words.proofs.Sound.{sound}
use Rattle.g1_same.proofs.Copies.{copied_header, copied_slot}
use Rattle.g1_same.proofs.Heaps.{root_of, slot_of, object_named, root_names, slot_names, live_object}
use Rattle.g1_kept.specs.Keeps.{Keeps, Remains, outside, root, slot}
use Rattle.g1_kept.specs.Laws.{KeepsGraph}
use Rattle.g1_kept.proofs.Remaining.{remains_object}

module _ (fill : Bool) (set : List ℕ) (g h : Heap) (left : IsValid g) (right : IsValid h) (k : Keeps fill set g h) where
  -- where an object stands in the heap after, the region is in use
  used_there : (a : ℕ) → Contains (objects h) (object_at h a) → kind h (region_of g a) ≢ Free
  used_there a c e = (sound h right).in_used (object_at h a) c (ap (λ s. kind h (a / s.w)) k.table.geometry ∙ e)

  stays_there : (a : ℕ) → Contains (objects g) (object_at g a) → IsFalse (in_set g set a) → Contains (objects h) (object_at h (k.rename a)) → Remains set g h a
  stays_there a object out c = outside (record { object = object; outside = out; in_use = used_there a (subst (λ z. Contains (objects h) (object_at h z)) (k.stays a out) c) })

  -- what the roots reach has to be in the heap after
  live_remains : (a : ℕ) → Live g a → Remains set g h a
  live_remains a (seed c) = elim (cases_Bool (in_set g set a)) [
    | inl t ↦ root c t
    | inr out ↦
        let r = root_of g a c in
        let lt : r.0 < length h.roots = omega (arith, r.1, ap length k.roots, length-map g.roots (renamed k.rename)) in
        let e : slice_index h.roots r.0 ≡ suc (k.rename a) = ap (λ l. slice_index l r.0) k.roots ∙ get_or-map (renamed k.rename) g.roots r.0 0 0 r.1 ∙ ap (renamed k.rename) r.2 in
        stays_there a (live_object g a left (seed c)) out (object_named h (slice_index h.roots r.0) (k.rename a) right (root_names h r.0 right lt) e)
  ]
  live_remains b (child {a = a} r c) =
      let p = live_remains a r in
      elim (cases_Bool (in_set g set b)) [
        | inl t ↦ slot p c t
        | inr out ↦
            let s = slot_of g a b c in
            let object = remains_object set g h left a p in
            let refs : (object_at h (k.rename a)).refs ≡ (object_at g a).refs = ap (λ x. x % 2 ^ 32) (copied_header k.rename g h a left object (k.copies a p)) in
            let e : word h (k.rename a + 1 + s.0) ≡ suc (k.rename b) = copied_slot k.rename g h a left object (k.copies a p) s.0 s.1 ∙ ap (renamed k.rename) s.2 in
            stays_there b (live_object g b left (child r c)) out (object_named h (word h (k.rename a + 1 + s.0)) (k.rename b) right (slot_names h (k.rename a) s.0 right (k.stands a p) (omega (arith, s.1, refs))) e)
      ]

pub keeps_graph : KeepsGraph
keeps_graph fill set g h left right k = record {
  rename = k.rename;
  one_to_one = λ a b la lb. k.one_to_one a b (live_remains fill set g h left right k a la) (live_remains fill set g h left right k b lb);
  roots = k.roots;
  stands = λ a la. k.stands a (live_remains fill set g h left right k a la);
  copies = λ a la. k.copies a (live_remains fill set g h left right k a la);
}
