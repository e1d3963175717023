-- The slots that lead into a set, their words renamed, are its patches.
use Rattle.std.proofs.Common.{◌≡◌, ◌<◌, ◌+◌, ◌-◌, ◌^◌, ℕ, suc, Bool, true, false, not, ◌&&◌, List, ◌++◌, map, filter, length, take, drop, get_or, refl, sym, ◌∙◌, ap, subst, arith, Contains}
use Rattle.std.proofs.lemmas.Bool.{false≢true}
use Rattle.std.proofs.lemmas.List.{get_or-append_right, get_or-drop, length-map, length-take-le}
use Rattle.std.proofs.lemmas.List.Elements.{Contains-append_right, Contains-get_or}
use Rattle.std.proofs.lemmas.Simd.{map-map}
use Rattle.g1_words.specs.Copy.{renamed}
use Rattle.g1_words.specs.Heap.{Heap}
use Rattle.g1_words.specs.Layout.{forward, moved_to}
use Rattle.g1_words.specs.Lists.{has}
use Rattle.g1_words.specs.Live.{seed}
use Rattle.g1_words.specs.References.{Ref, refs, root_targets}
use Rattle.g1_words.specs.Survivors.{in_set, seeds, Survivors}
use Rattle.g1_words.specs.Valid.{IsValid}
use Rattle.g1_words.proofs.Lists.{filter_same_in}
use Rattle.g1_words.proofs.Members.{Contains-filter, Contains-map, map_cases, filter_member, has_from_contains, Contains-from_has, and_true}
use Rattle.g1_words.proofs.OneToOne.{reached_in_set}
use Rattle.g1_layout.specs.Plan.{Plan}
use Rattle.g1_copy.specs.Patches.{AreLeads, all_patches, patch}
use Rattle.g1_copy.specs.Plans.{IsPauseOf}
use Rattle.g1_copy.proofs.Moves.{place_in_heap}
use Rattle.g1_copy.proofs.Plans.{places_of_plan}

-- what stands behind the first ones of a list that were replaced is as it was
pub still_there : {A : Type 0} (f : A → A) (xs ys : List A) (i : ℕ) (d : A) → i < length xs → ys ≡ map f (take i xs) ++ drop i xs → get_or ys i d ≡ get_or xs i d
still_there f xs ys i d lt e =
    let front : length (map f (take i xs)) ≡ i = length-map (take i xs) f ∙ length-take-le i xs (omega (arith, lt)) in
    let none : i - i ≡ 0 = omega arith in
    let same : i + 0 ≡ i = omega arith in
    ap (λ l. get_or l i d) e ∙ get_or-append_right (map f (take i xs)) (drop i xs) i i d front (omega arith) ∙ ap (λ k. get_or (drop i xs) k d) none
    ∙ get_or-drop i xs 0 d ∙ ap (λ k. get_or xs k d) same

module _ (h : Heap) (p : Plan) (valid : IsValid h) (pause : IsPauseOf h p.set p) where
  -- a patch's word fits 64 bits
  patch_small : (x : ℕ × ℕ) → Contains (all_patches h p.set p.survivors) x → x.1 < 2 ^ 64
  patch_small x i =
      let m = map_cases (patch h p.survivors) (filter (λ e. not (in_set h p.set e.slot) && has p.survivors e.target) (refs h)) x i in
      let t = and_true (not (in_set h p.set m.0.slot)) (has p.survivors m.0.target) (filter_member (λ e. not (in_set h p.set e.slot) && has p.survivors e.target) (refs h) m.0 m.1).1 in
      let low = place_in_heap h p.set p.survivors valid pause.made.placeable pause.made.room m.0.target (Contains-from_has p.survivors m.0.target t.1) in
      let word : suc (forward h p.survivors m.0.target) ≡ x.1 = ap (λ (y : ℕ × ℕ). y.1) m.2 in
      omega (arith, low, word, valid.limits.words_most)

  -- so does each renamed word
  pub leads_fit : (xs : List (ℕ × ℕ)) → AreLeads h p.set p.survivors xs → (k : ℕ) (d : ℕ × ℕ) → k < length xs → renamed (moved_to p.survivors p.places) (get_or xs k d).1 < 2 ^ 64
  leads_fit xs are k d lt =
      let x : ℕ × ℕ = get_or xs k d in
      let goes : ℕ × ℕ → ℕ × ℕ = λ (y : ℕ × ℕ). (y.0, renamed (forward h p.survivors) y.1) in
      let there : Contains (all_patches h p.set p.survivors) (goes x) = subst (λ (ys : List (ℕ × ℕ)). Contains ys (goes x)) are (Contains-map goes xs x (Contains-get_or xs k d lt)) in
      subst (λ ps. renamed (moved_to p.survivors ps) x.1 < 2 ^ 64) (sym (places_of_plan h p pause.made)) (patch_small (goes x) there)

  -- renamed they are the patches
  pub leads_renamed : (xs ys : List (ℕ × ℕ)) → AreLeads h p.set p.survivors xs → ys ≡ map (λ (x : ℕ × ℕ). (x.0, renamed (moved_to p.survivors p.places) x.1)) xs → ys ≡ all_patches h p.set p.survivors
  leads_renamed xs ys are e = e ∙ ap (λ ps. map (λ (x : ℕ × ℕ). (x.0, renamed (moved_to p.survivors ps) x.1)) xs) (places_of_plan h p pause.made) ∙ are

-- ---- the slots that lead into a set

module _ (h : Heap) (set l : List ℕ) (survivors : Survivors h set l) where
  abbrev crosses : Ref → Bool
  crosses e = in_set h set e.target && not (in_set h set e.slot)

  -- what a slot outside the set references in it survives
  target_found : (e : Ref) → Contains (refs h) e → crosses e ≡ true → has l e.target ≡ true
  target_found e i t =
      let named : Contains (map (λ (e : Ref). e.target) (filter crosses (refs h))) e.target = Contains-map (λ (e : Ref). e.target) (filter crosses (refs h)) e (Contains-filter crosses (refs h) e i t) in
      let there : Contains (seeds h set) e.target = Contains-append_right (filter (in_set h set) (root_targets h)) (map (λ (e : Ref). e.target) (filter crosses (refs h))) e.target named in
      has_from_contains l e.target ((survivors.reached e.target).1 (seed there))

  -- and what survives lies in the set
  found_in_set : (a : ℕ) → has l a ≡ true → in_set h set a ≡ true
  found_in_set a t = reached_in_set h set a ((survivors.reached a).0 (Contains-from_has l a t))

  same_slots : (e : Ref) → Contains (refs h) e → crosses e ≡ (not (in_set h set e.slot) && has l e.target)
  same_slots e i = by (in_set h set e.target) (in_set h set e.slot) (has l e.target) refl refl refl
    where
      by : (t o s : Bool) → in_set h set e.target ≡ t → in_set h set e.slot ≡ o → has l e.target ≡ s → (t && not o) ≡ (not o && s)
      by true true s u v w = refl
      by true false s u v w = sym (target_found e i (rw (u, v) refl)) ∙ w
      by false true s u v w = refl
      by false false true u v w = absurd (false≢true (sym u ∙ found_in_set e.target w))
      by false false false u v w = refl

  -- the slots outside the set that reference an object in it are those that reference a survivor
  pub slots_lead : AreLeads h set l (map (λ (e : Ref). (e.slot, suc e.target)) (filter (λ e. in_set h set e.target && not (in_set h set e.slot)) (refs h)))
  slots_lead =
      map-map (λ (x : ℕ × ℕ). (x.0, renamed (forward h l) x.1)) (λ (e : Ref). (e.slot, suc e.target)) (filter crosses (refs h))
      ∙ ap (map (patch h l)) (filter_same_in crosses (λ e. not (in_set h set e.slot) && has l e.target) (refs h) same_slots)
