-- What is reached in the used regions is what the roots reach.
use Rattle.std.proofs.Common.{◌≡◌, ℕ, inl, inr, Bool, true, false, not, ◌&&◌, map, filter, Contains, subst}
use Rattle.std.proofs.lemmas.Bool.{false≢true, and_parts}
use Rattle.std.proofs.lemmas.List.Elements.{Contains-append_cases, Contains-append_left}
use Rattle.g1_words.specs.Heap.{Heap, object_at, objects}
use Rattle.g1_words.specs.Live.{Reached, seed, child, Live}
use Rattle.g1_words.specs.References.{Ref, refs, root_targets, targets}
use Rattle.g1_words.specs.Survivors.{in_set, seeds, children}
use Rattle.g1_words.specs.Valid.{IsValid}
use Rattle.g1_words.proofs.Members.{Contains-filter, filter_member, map_cases}
use Rattle.g1_words.proofs.OneToOne.{reached_object, target_in_refs}
use Rattle.g1_words.proofs.Sound.{sound}
use Rattle.g1_mark.specs.Marked.{used}
use Rattle.g1_mark.proofs.Used.{object_used, slot_used}

module _ (h : Heap) (valid : IsValid h) where
  abbrev crosses : Ref → Bool
  crosses e = in_set h (used h) e.target && not (in_set h (used h) e.slot)

  not_true : (b : Bool) → not b ≡ true → b ≡ true → ⊥
  not_true true e f = false≢true e
  not_true false e f = false≢true f

  pub live_from_reached : (a : ℕ) → Reached (seeds h (used h)) (children h (used h)) a → Live h a
  live_from_reached a (seed c) =
      elim (Contains-append_cases (filter (in_set h (used h)) (root_targets h)) (map (λ (e : Ref). e.target) (filter crosses (refs h))) a c) [
        | inl k ↦ seed (filter_member (in_set h (used h)) (root_targets h) a k).0
        | inr k ↦
            let m = map_cases (λ (e : Ref). e.target) (filter crosses (refs h)) a k in
            let t = filter_member crosses (refs h) m.0 m.1 in
            let out = and_parts (in_set h (used h) m.0.target) (not (in_set h (used h) m.0.slot)) t.1 in
            absurd (not_true (in_set h (used h) m.0.slot) out.1 (slot_used h valid m.0 t.0))
      ]
  live_from_reached b (child {a = a} r c) =
      child (live_from_reached a r) (filter_member (in_set h (used h)) (targets h a) b c).0

  pub reached_from_live : (a : ℕ) → Live h a → Reached (seeds h (used h)) (children h (used h)) a
  reached_from_live a (seed c) =
      let there : in_set h (used h) a ≡ true = object_used h valid (object_at h a) ((sound h valid).root_named a c) in
      let i : Contains (filter (in_set h (used h)) (root_targets h)) a = Contains-filter (in_set h (used h)) (root_targets h) a c there in
      seed (Contains-append_left (filter (in_set h (used h)) (root_targets h)) (map (λ (e : Ref). e.target) (filter crosses (refs h))) a i)
  reached_from_live b (child {a = a} r c) =
      let k = reached_from_live a r in
      let o : Contains (objects h) (object_at h a) = reached_object h (used h) (sound h valid) a k in
      let e = target_in_refs h (used h) (object_at h a) b o c in
      let there : in_set h (used h) b ≡ true = subst (λ x. in_set h (used h) x ≡ true) e.2
      (object_used h valid (object_at h e.0.target) ((sound h valid).slot_named e.0 e.1)) in
      child k (Contains-filter (in_set h (used h)) (targets h a) b c there)
