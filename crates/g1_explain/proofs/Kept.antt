-- The paths of what keeps an object are first ones.
use Rattle.std.proofs.Common.{◌≡◌, ◌≢◌, ℕ, zero, suc, ◌+◌, ◌<◌, ◌⊎◌, inl, inr, true, false, List, [], ◌∷◌, ◌++◌, length, slice_index, refl, sym, ◌∙◌, ap, subst, arith, append_assoc, append-nil, Contains, Bool, not, filter, flat_map}
use Rattle.std.proofs.lemmas.Bool.{false≢true}
use Rattle.std.proofs.lemmas.List.{map-append}
use Rattle.std.proofs.lemmas.List.Elements.{Contains-get_or}
use Rattle.std.specs.List.{range_with_len}
use Rattle.g1_words.specs.Heap.{Heap, word, card_of, region_of, object_at, objects}
use Rattle.g1_words.specs.References.{Ref, refs, named, targets, refs_at}
use Rattle.g1_words.specs.Live.{seed, child, Live}
use Rattle.g1_words.specs.Survivors.{in_set, Survivors}
use Rattle.g1_words.specs.Valid.{IsValid}
use Rattle.g1_words.proofs.Members.{Contains-flat_map, Contains-map, flat_map_cases, map_cases, Contains-filter}
use Rattle.g1_words.proofs.OneToOne.{reached_object}
use Rattle.g1_words.proofs.Sound.{sound, named_suc}
use Rattle.g1_words.proofs.Computed.{Contains-range}
use Rattle.g1_rem.specs.Slots.{all_slots}
use Rattle.g1_rem.proofs.Bare.{flat_twice}
use Rattle.g1_frontier.specs.Window.{AreCards, AreOutside, LeadIn}
use Rattle.g1_frontier.proofs.Marks.{has_one, only_one}
use Rattle.g1_frontier.proofs.Seeds.{ref_there}
use Rattle.g1_mark.specs.Marked.{used}
use Rattle.g1_mark.proofs.Reaching.{reached_from_live}
use Rattle.g1_mark.proofs.Used.{object_used, slot_used}
use Rattle.g1_same.specs.Path.{Leads, LeadsTo, Before}
use Rattle.g1_same.proofs.Routes.{leads_to_push}
use Rattle.g1_explain.specs.declared.finder.Finder.{Finder}
use Rattle.g1_explain.specs.declared.finder.Finder.TheVariants.{Root, Card, Object as Slot}
use Rattle.g1_explain.specs.declared.paths.Leg.{Leg}
use Rattle.g1_explain.specs.Finders.{Lead, root_leads, slot_leads, lead}
use Rattle.g1_explain.specs.Searched.{IsRoute, IsFoundPath}
use Rattle.g1_explain.specs.Keeping.{leg, path_of, AreLegs, LeadsWithin, LeadsInto, IsFirst}
use Rattle.g1_explain.proofs.Targets.{searched}
use Rattle.g1_explain.proofs.LeadOrder.{in_order}
use Rattle.g1_explain.proofs.AllMet.{all_finders, inside, met_first, route_more}
use Rattle.g1_explain.proofs.Routes.{all_legs, route_legs}
use Rattle.g1_explain.proofs.FirstPath.{code, codes, IsTrail, begin, go, none_before}

-- ---- a path from a root

-- a root's reference
root_lead : (h : Heap) (k a : ℕ) → k < length h.roots → slice_index h.roots k ≡ suc a → Contains (root_leads h) (record { finder = Root k; target = a })
root_lead h k a lt w =
    let l : Lead = record { finder = Root k; target = a } in
    Contains-flat_map (λ k. lead (Root k) (slice_index h.roots k)) (range_with_len 0 (length h.roots)) k l
    (Contains-range 0 (length h.roots) k (omega arith) (omega (arith, lt)))
    (subst (λ x. Contains (lead (Root k) x) l) (sym w) (zero, omega arith, refl))

-- the root of this number references a live object
pub live_root : (h : Heap) (k a : ℕ) → k < length h.roots → slice_index h.roots k ≡ suc a → Live h a
live_root h k a lt w =
    seed (Contains-flat_map named h.roots (slice_index h.roots k) a (Contains-get_or h.roots k 0 lt) (subst (λ x. Contains (named x) a) (sym w) (zero, omega arith, refl)))

slot_target : (h : Heap) (b s a : ℕ) → s < (object_at h b).refs → word h (b + 1 + s) ≡ suc a → Contains (targets h b) a
slot_target h b s a fit w =
    Contains-flat_map (λ p. named (word h p)) (range_with_len (b + 1) (object_at h b).refs) (b + 1 + s) a
    (Contains-range (b + 1) (object_at h b).refs (b + 1 + s) (omega arith) (omega (arith, fit))) (subst (λ x. Contains (named x) a) (sym w) (zero, omega arith, refl))

-- what a slot of a live object references is live
pub live_slot : (h : Heap) (b s a : ℕ) → Live h b → s < (object_at h b).refs → word h (b + 1 + s) ≡ suc a → Live h a
live_slot h b s a live fit w = child live (slot_target h b s a fit w)

path_push : (legs : List Leg) (l : Leg) → path_of (legs ++ l ∷ []) ≡ path_of legs ++ Rattle.g1_explain.specs.Keeping.number l.finder ∷ []
path_push legs l = map-append (λ (l : Leg). Rattle.g1_explain.specs.Keeping.number l.finder) legs (l ∷ [])

codes_zero : (legs : List Leg) → codes 0 legs ≡ path_of legs
codes_zero [] = refl
codes_zero (l ∷ legs) = (λ i. here l.finder i ∷ codes_zero legs i)
  where
    here : (f : Finder) → code 0 f ≡ Rattle.g1_explain.specs.Keeping.number f
    here (Root k) = refl
    here (Card c p) = omega arith
    here (Slot m a s) = refl

module _ (h : Heap) (valid : IsValid h) where
  live_used : (a : ℕ) → Live h a → in_set h (used h) a ≡ true
  live_used a live = object_used h valid (object_at h a) (reached_object h (used h) (sound h valid) a (reached_from_live h valid a live))

  some_word : (ss : List ℕ) (x a : ℕ) → Leads h ss x (suc a) → (b : ℕ) × (x ≡ suc b)
  some_word [] x a e = (a, e)
  some_word (s ∷ ss) zero a l = absurd l
  some_word (s ∷ ss) (suc b) a l = (b, refl)

  -- slots behind a path
  live_trail : (ss q : List ℕ) (b a : ℕ) → IsTrail h (used h) 0 q b → Live h b → Leads h ss (suc b) (suc a) → IsTrail h (used h) 0 (q ++ ss) a
  live_trail [] q b a t live e =
      let same : b ≡ a = omega (arith, e) in
      subst (λ l. IsTrail h (used h) 0 l a) (sym (append-nil q)) (subst (λ z. IsTrail h (used h) 0 q z) same t)
  live_trail (s ∷ ss) q b a t live l =
      let w = some_word ss (word h (b + 1 + s)) a l.1 in
      subst (λ z. IsTrail h (used h) 0 z a) (append_assoc q (s ∷ []) ss)
      (live_trail ss (q ++ s ∷ []) w.0 a (go q b s w.0 t (live_used b live) l.0 w.1) (live_slot h b s w.0 live l.0 w.1) (subst (λ x. Leads h ss x (suc a)) w.1 l.1))

  root_trail : (q : List ℕ) (a : ℕ) → LeadsTo h q (suc a) → IsTrail h (used h) 0 q a
  root_trail [] a l = absurd l
  root_trail (k ∷ ss) a l =
      let w = some_word ss (slice_index h.roots k) a l.1 in
      live_trail ss (k ∷ []) w.0 a (begin (record { finder = Root k; target = w.0 }) (inl (root_lead h k w.0 l.0 w.1))) (live_root h k w.0 l.0 w.1) (subst (λ x. Leads h ss x (suc a)) w.1 l.1)

  -- THE PATH FROM A ROOT that a search of all used regions finds
  pub live_path : (cards found : List ℕ) (a : ℕ) (legs : List Leg) → AreCards h cards → AreOutside h (used h) cards → LeadIn h (used h) cards → Survivors h (used h) found
      → IsFoundPath h cards found a legs → AreLegs h legs a × IsFirst (λ p. LeadsTo h p (suc a)) (path_of legs)
  live_path cards found a legs rising outside lead_in survivors p =
      let t = met_first h (used h) cards found valid rising outside lead_in survivors p.finders p.are_met in
      let s = searched h (used h) found survivors in
      let r : IsRoute h found (all_finders h (used h) found) (suc p.place) legs =
      subst (λ fs. IsRoute h found fs (suc p.place) legs) (sym t.1) (route_more h found p.finders t.0 (suc p.place) legs p.route) in
      let no_card : (e : Ref) → Contains (refs h) e → in_set h (used h) e.slot ≡ false → ⊥ = λ e i out. false≢true (sym out ∙ slot_used h valid e i) in
      let leads : LeadsTo h (path_of legs) (suc (slice_index found p.place)) =
      all_legs h (used h) found s (λ ls b. LeadsTo h (path_of ls) (suc b)) (λ k b lt w. (lt, w)) (λ e i out. absurd (no_card e i out))
      (λ ls m b n c l i fit w. subst (λ q. LeadsTo h q (suc c)) (sym (path_push ls (leg h (Slot m b n) c))) (leads_to_push h (path_of ls) b n (suc c) l fit w))
      p.place legs r in (
        subst (λ z. AreLegs h legs z) p.at (route_legs h (used h) found s p.place legs r),
        record {
          leads = subst (λ z. LeadsTo h (path_of legs) (suc z)) p.at leads;
          first = λ q l b.
              none_before h (used h) found 0 s (in_order h (used h) valid found) (inside h (used h) cards found valid rising outside lead_in survivors)
              (λ e i out t. absurd (no_card e i out)) p.place legs p.within r q (subst (λ z. IsTrail h (used h) 0 q z) (sym p.at) (root_trail q a l))
              (subst (λ z. Before q z) (sym (codes_zero legs)) b);
        },
      )

-- ---- a path from a slot of another region

-- a path with the first number behind those of the roots
abbrev pub shift : ℕ → List ℕ → List ℕ
shift base [] = []
shift base (p ∷ ss) = (base + p) ∷ ss

shift_push : (base : ℕ) (p : List ℕ) (s : ℕ) → 0 < length p → shift base (p ++ s ∷ []) ≡ shift base p ++ s ∷ []
shift_push base [] s lt = absurd (omega (arith, lt))
shift_push base (x ∷ p) s lt = refl

shift_before : (base : ℕ) (p q : List ℕ) → Before p q → Before (shift base p) (shift base q)
shift_before base [] [] b = b
shift_before base [] (y ∷ q) (inl l) = inl (omega (arith, l))
shift_before base [] (y ∷ q) (inr l) = absurd (omega (arith, l.0))
shift_before base (x ∷ p) [] (inl l) = absurd (omega (arith, l))
shift_before base (x ∷ p) [] (inr l) = absurd (omega (arith, l.0))
shift_before base (x ∷ p) (y ∷ q) (inl l) = inl (omega (arith, l))
shift_before base (x ∷ p) (y ∷ q) (inr (e, inl l)) = inr (omega (arith, e), inl (omega (arith, l)))
shift_before base (x ∷ p) (y ∷ q) (inr (e, inr l)) = inr (omega (arith, e), inr (omega (arith, l.0), l.1))

within_push : (h : Heap) (r : ℕ) (ss : List ℕ) (x b s y : ℕ) → LeadsWithin h r ss x (suc b) → region_of h b ≡ r → s < (object_at h b).refs → word h (b + 1 + s) ≡ y → LeadsWithin h r (ss ++ s ∷ []) x y
within_push h r [] x b s y l home lt e = subst (λ z. LeadsWithin h r (s ∷ []) z y) (sym l) (home, lt, e)
within_push h r (n ∷ ss) zero b s y l home lt e = absurd l
within_push h r (n ∷ ss) (suc c) b s y l home lt e = (l.0, l.1, within_push h r ss (word h (c + 1 + n)) b s y l.2 home lt e)

into_push : (h : Heap) (r : ℕ) (p : List ℕ) (b s y : ℕ) → LeadsInto h r p (suc b) → region_of h b ≡ r → s < (object_at h b).refs → word h (b + 1 + s) ≡ y → LeadsInto h r (p ++ s ∷ []) y
into_push h r [] b s y l home lt e = absurd l
into_push h r (p ∷ ss) b s y l home lt e = (l.0, l.1, within_push h r ss (word h p) b s y l.2 home lt e)

into_some : (h : Heap) (r : ℕ) (p : List ℕ) (y : ℕ) → LeadsInto h r p y → 0 < length p
into_some h r [] y l = absurd l
into_some h r (p ∷ ss) y l = omega arith

-- a reference stands in a slot, and its word names the target
pub slot_there : (h : Heap) (e : Ref) → Contains (refs h) e → Contains (all_slots h) e.slot × (word h e.slot ≡ suc e.target)
slot_there h e i =
    let j : Contains (flat_map (refs_at h) (all_slots h)) e = subst (λ l. Contains l e) (flat_twice h (objects h)) i in
    let m = flat_map_cases (refs_at h) (all_slots h) e j in
    let q = map_cases (λ a. record { slot = m.0; target = a }) (named (word h m.0)) e m.2 in
    let s : m.0 ≡ e.slot = ap (λ (x : Ref). x.slot) q.2 in
    let t : q.0 ≡ e.target = ap (λ (x : Ref). x.target) q.2 in
    (subst (Contains (all_slots h)) s m.1, subst (λ p. word h p ≡ suc e.target) s (named_suc (word h m.0) q.0 q.1 ∙ ap suc t))

module _ (h : Heap) (valid : IsValid h) (r : ℕ) where
  away : (a : ℕ) → region_of h a ≢ r → in_set h (r ∷ []) a ≡ false
  away a d = by (in_set h (r ∷ []) a) refl
    where
      by : (b : Bool) → in_set h (r ∷ []) a ≡ b → in_set h (r ∷ []) a ≡ false
      by false e = e
      by true e = absurd (d (only_one r (region_of h a) e))

  outside_lead : (p a : ℕ) → Contains (all_slots h) p → region_of h p ≢ r → word h p ≡ suc a → Contains (slot_leads h (r ∷ [])) (record { finder = Card (card_of h p) p; target = a })
  outside_lead p a i d w =
      let e : Ref = record { slot = p; target = a } in
      Contains-map (λ (e : Ref). record { finder = Card (card_of h e.slot) e.slot; target = e.target }) (filter (λ (e : Ref). not (in_set h (r ∷ []) e.slot)) (refs h)) e
      (Contains-filter (λ (e : Ref). not (in_set h (r ∷ []) e.slot)) (refs h) e (ref_there h p a i w) (ap not (away p d)))

  pub some_within : (ss : List ℕ) (x a : ℕ) → LeadsWithin h r ss x (suc a) → (b : ℕ) × (x ≡ suc b)
  some_within [] x a e = (a, e)
  some_within (s ∷ ss) zero a l = absurd l
  some_within (s ∷ ss) (suc b) a l = (b, refl)

  within_trail : (ss q : List ℕ) (b a : ℕ) → IsTrail h (r ∷ []) (length h.roots) q b → LeadsWithin h r ss (suc b) (suc a) → IsTrail h (r ∷ []) (length h.roots) (q ++ ss) a
  within_trail [] q b a t e =
      let same : b ≡ a = omega (arith, e) in
      subst (λ l. IsTrail h (r ∷ []) (length h.roots) l a) (sym (append-nil q)) (subst (λ z. IsTrail h (r ∷ []) (length h.roots) q z) same t)
  within_trail (s ∷ ss) q b a t l =
      let w = some_within ss (word h (b + 1 + s)) a l.2 in
      subst (λ z. IsTrail h (r ∷ []) (length h.roots) z a) (append_assoc q (s ∷ []) ss)
      (within_trail ss (q ++ s ∷ []) w.0 a (go q b s w.0 t (has_one r (region_of h b) l.0) l.1 w.1) (subst (λ x. LeadsWithin h r ss x (suc a)) w.1 l.2))

  entry_trail : (q : List ℕ) (a : ℕ) → LeadsInto h r q (suc a) → IsTrail h (r ∷ []) (length h.roots) (shift (length h.roots) q) a
  entry_trail [] a l = absurd l
  entry_trail (p ∷ ss) a l =
      let w = some_within ss (word h p) a l.2 in
      within_trail ss ((length h.roots + p) ∷ []) w.0 a
      (begin (record { finder = Card (card_of h p) p; target = w.0 }) (inr (outside_lead p w.0 l.0 l.1 w.1)))
      (subst (λ x. LeadsWithin h r ss x (suc a)) w.1 l.2)

  -- what legs from a slot outside lead to
  pub record IsEntered (legs : List Leg) (a : ℕ) : Type 0 where
    pub into : LeadsInto h r (path_of legs) (suc a)
    pub shifted : codes (length h.roots) legs ≡ shift (length h.roots) (path_of legs)

  -- THE PATH FROM A SLOT OUTSIDE that a search of the region finds to an object that no root leads to
  pub entered_path : (cards found : List ℕ) (a : ℕ) (legs : List Leg) → AreCards h cards → AreOutside h (r ∷ []) cards → LeadIn h (r ∷ []) cards → Survivors h (r ∷ []) found
      → IsFoundPath h cards found a legs → (Live h a → ⊥) → AreLegs h legs a × IsFirst (λ p. LeadsInto h r p (suc a)) (path_of legs)
  entered_path cards found a legs rising outside lead_in survivors p dead =
      let t = met_first h (r ∷ []) cards found valid rising outside lead_in survivors p.finders p.are_met in
      let s = searched h (r ∷ []) found survivors in
      let within = inside h (r ∷ []) cards found valid rising outside lead_in survivors in
      let route : IsRoute h found (all_finders h (r ∷ []) found) (suc p.place) legs =
      subst (λ fs. IsRoute h found fs (suc p.place) legs) (sym t.1) (route_more h found p.finders t.0 (suc p.place) legs p.route) in
      let either : IsEntered legs (slice_index found p.place) ⊎ Live h (slice_index found p.place) =
      all_legs h (r ∷ []) found s (λ ls b. IsEntered ls b ⊎ Live h b) (λ k b lt w. inr (live_root h k b lt w)) (λ e i out. inl (entered e i out))
      (λ ls m b n c l i fit w. elim l [
        | inl u ↦ inl (entered_more ls m b n c u (only_one r (region_of h b) (within b i)) fit w)
        | inr v ↦ inr (live_slot h b n c v fit w)
      ]) p.place legs route in
      let u : IsEntered legs a = elim either [
        | inl u ↦ subst (λ z. IsEntered legs z) p.at u
        | inr v ↦ absurd (dead (subst (Live h) p.at v))
      ] in (
        subst (λ z. AreLegs h legs z) p.at (route_legs h (r ∷ []) found s p.place legs route),
        record {
          leads = u.into;
          first = λ q l b.
              none_before h (r ∷ []) found (length h.roots) s (in_order h (r ∷ []) valid found) within (λ e i out t. omega arith) p.place legs p.within route
              (shift (length h.roots) q) (subst (λ z. IsTrail h (r ∷ []) (length h.roots) (shift (length h.roots) q) z) (sym p.at) (entry_trail q a l))
              (subst (λ z. Before (shift (length h.roots) q) z) (sym u.shifted) (shift_before (length h.roots) q (path_of legs) b));
        },
      )
    where
      entered : (e : Ref) → Contains (refs h) e → in_set h (r ∷ []) e.slot ≡ false → IsEntered (leg h (Card (card_of h e.slot) e.slot) e.target ∷ []) e.target
      entered e i out =
          let there = slot_there h e i in
          record { into = (there.0, (λ same. false≢true (sym out ∙ has_one r (region_of h e.slot) same)), there.1); shifted = refl }

      entered_more : (ls : List Leg) (m b n c : ℕ) → IsEntered ls b → region_of h b ≡ r → n < (object_at h b).refs → word h (b + 1 + n) ≡ suc c → IsEntered (ls ++ leg h (Slot m b n) c ∷ []) c
      entered_more ls m b n c u at fit w = record {
        into = subst (λ q. LeadsInto h r q (suc c)) (sym (path_push ls (leg h (Slot m b n) c))) (into_push h r (path_of ls) b n (suc c) u.into at fit w);
        shifted = map-append (λ (l : Leg). code (length h.roots) l.finder) ls (leg h (Slot m b n) c ∷ []) ∙ ap (λ l. l ++ n ∷ []) u.shifted
            ∙ sym (shift_push (length h.roots) (path_of ls) n (into_some h r (path_of ls) (suc b) u.into)) ∙ ap (shift (length h.roots)) (sym (path_push ls (leg h (Slot m b n) c)));
      }
