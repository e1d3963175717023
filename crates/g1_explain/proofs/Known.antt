-- The card of the slot that keeps an object is remembered, or dirty.
use Rattle.std.proofs.Common.{◌≡◌, ◌≢◌, ◌<◌, ℕ, suc, inl, inr, Bool, true, false, not, ◌&&◌, ◌||◌, List, [], ◌∷◌, Contains, refl, sym, ◌∙◌, ap, subst, arith, eqb, eqb-true, eq-eqb, filter}
use Rattle.std.proofs.lemmas.Bool.{false≢true, false_from_ne_true}
use Rattle.g1_words.specs.Heap.{Heap, word, kind, region_of, card_of, is_first}
use Rattle.g1_words.specs.Lists.{has}
use Rattle.g1_words.specs.References.{Ref, refs}
use Rattle.g1_words.specs.Valid.{IsValid}
use Rattle.g1_words.proofs.Members.{Contains-map, Contains-filter, none_contains}
use Rattle.g1_words.proofs.Members as members
use Rattle.g1_image.specs.Image.{Image, remembered_of}
use Rattle.g1_image.specs.Cards.{is_covered, leads_into}
use Rattle.g1_rem.specs.Entries.{uncovered_into}
use Rattle.g1_frontier.proofs.Seeds.{ref_there}
use Rattle.g1_explain.specs.declared.paths.Leg.{Leg}
use Rattle.g1_explain.specs.declared.paths.Entry.{Entry}
use Rattle.g1_explain.specs.Humongous.{run}
use Rattle.g1_explain.specs.Keeping.{IsEntry, IsUnrooted, LeadsWithin, LeadsInto, is_known, path_of}
use Rattle.g1_explain.proofs.FirstKeepers.{own_first, or_true}
use Rattle.g1_explain.proofs.Kept.{some_within}
use Rattle.g1_explain.proofs.Outside.{IsOutsideSlot}

-- the object to which the first slot leads lies in the region
first_within : (h : Heap) (r : ℕ) (ss : List ℕ) (b a : ℕ) → LeadsWithin h r ss (suc b) (suc a) → region_of h a ≡ r → region_of h b ≡ r
first_within h r [] b a e home = let same : b ≡ a = omega (arith, e) in ap (region_of h) same ∙ home
first_within h r (s ∷ ss) b a l home = l.0

module _ (i : Image) (valid : IsValid i.heap) (a r : ℕ) (home : r ≡ region_of i.heap a) (unrooted : IsUnrooted i a) where
  abbrev h : Heap
  h = i.heap

  -- a slot that leads into the region is covered
  covers : (p b : ℕ) → Contains (refs h) (record { slot = p; target = b }) → region_of h b ≡ region_of h a → region_of h p ≢ region_of h a → is_known i (region_of h a) (card_of h p) ≡ true
  covers p b there to out = by (is_covered i e) refl
    where
      e : Ref
      e = record { slot = p; target = b }

      apart : eqb (region_of h p) (region_of h a) ≡ false
      apart = false_from_ne_true (eqb (region_of h p) (region_of h a)) (λ t. out (eqb-true (region_of h p) (region_of h a) t))

      listed : is_covered i (record { slot = p; target = b }) ≡ false → Contains (uncovered_into i (region_of h a)) p
      listed c =
          let x : Ref = record { slot = p; target = b } in
          let t : (leads_into h (region_of h a) x && not (is_covered i x)) ≡ true = λ j. (eq-eqb (region_of h b) (region_of h a) to j && not (apart j)) && not (c j) in
          let k = Contains-filter (λ (y : Ref). leads_into h (region_of h a) y && not (is_covered i y)) (refs h) x there t in
          Contains-map (λ (y : Ref). y.slot) (filter (λ (y : Ref). leads_into h (region_of h a) y && not (is_covered i y)) (refs h)) x k

      by : (c : Bool) → is_covered i (record { slot = p; target = b }) ≡ c → is_known i (region_of h a) (card_of h p) ≡ true
      by false c = absurd (none_contains p (subst (λ l. Contains l p) unrooted.covered (listed c)))
      by true c =
          let here : Bool = eqb (region_of h p) (region_of h b) in
          let kept : Bool = has (remembered_of i (region_of h b)) (card_of h p) in
          let dirty : Bool = has i.log (card_of h p) in
          let right : dirty ≡ true → is_known i (region_of h a) (card_of h p) ≡ true = λ d. ap (λ z. has (remembered_of i (region_of h a)) (card_of h p) || z) d ∙ or_true (has (remembered_of i (region_of h a)) (card_of h p)) in
          elim (members.or_true (here || kept) dirty c) [
            | inl l ↦ elim (members.or_true here kept l) [
              | inl same ↦ absurd (out (eqb-true (region_of h p) (region_of h b) same ∙ to))
              | inr k ↦ ap (λ z. z || dirty) (ap (λ q. has (remembered_of i q) (card_of h p)) (sym to) ∙ k)
            ]
            | inr d ↦ right d
          ]

  -- that of a path from another region
  pub entered_known : (e : Entry) (legs : List Leg) → IsEntry h e legs → LeadsInto h r (path_of legs) (suc a) → is_known i (region_of h a) e.card ≡ true
  entered_known e legs is leads =
      let l : LeadsInto h r (e.slot ∷ path_of is.rest) (suc a) = subst (λ q. LeadsInto h r q (suc a)) (ap path_of is.first) leads in
      let w = some_within h valid r (path_of is.rest) (word h e.slot) a l.2 in
      let there = ref_there h e.slot w.0 l.0 w.1 in
      let to : region_of h w.0 ≡ r = first_within h r (path_of is.rest) w.0 a (subst (λ x. LeadsWithin h r (path_of is.rest) x (suc a)) w.1 l.2) (sym home) in
      ap (is_known i (region_of h a)) is.card
      ∙ covers e.slot w.0 there (to ∙ home) (λ z. l.1 (z ∙ sym home))

  -- that of a slot outside a humongous object
  pub outside_known : {f : _} → r < h.geometry.n → is_first (kind h r) ≡ true → (s : IsOutsideSlot h a f) → is_known i (region_of h a) (card_of h s.slot) ≡ true
  outside_known lt first s =
      covers s.slot a s.there refl
      (λ z. false≢true (sym s.outside ∙ ap (has (run h (region_of h a))) z ∙ subst (λ q. has (run h q) q ≡ true) home (own_first h valid r first lt)))
