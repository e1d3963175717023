-- The cards that lead into a set, and the patches on them.
use Rattle.std.proofs.Common.{◌≡◌, ◌≢◌, ◌<◌, ℕ, ◌*◌, inl, inr, Bool, true, false, not, ◌&&◌, List, [], slice_index_or, map, Contains, arith, refl, sym, ap, ◌∙◌}
use Rattle.std.specs.List.{range_with_len}
use Rattle.std.proofs.lemmas.Bool.{cases_lt, not-true}
use Rattle.std.proofs.lemmas.List.{get_or_past}
use Rattle.std.proofs.lemmas.List.FromFn.{get_or-map-range_with_len}
use Rattle.std.proofs.lemmas.List.Elements.{Contains-get_or}
use Rattle.g1_words.specs.declared.region.Kind.TheVariants.{Free, Ordinary}
use Rattle.g1_words.specs.Heap.{Heap, card_of, free_region, kind, region, region_of, regions}
use Rattle.g1_words.specs.Lists.{has}
use Rattle.g1_words.specs.References.{Ref, refs}
use Rattle.g1_words.specs.Survivors.{in_set}
use Rattle.g1_words.specs.Valid.{IsValid}
use Rattle.g1_words.proofs.Computed.{range_below}
use Rattle.g1_words.proofs.Indices.{not_has}
use Rattle.g1_words.proofs.Lists.{any_from_in, filter_same_in}
use Rattle.g1_words.proofs.Members.{Contains-filter, filter_member, has_from_contains, Contains-from_has, and_true, any_member}
use Rattle.g1_words.proofs.OneToOne.{reached_in_set}
use Rattle.g1_image.specs.Image.{Image}
use Rattle.g1_image.specs.Cards.{is_refined, refined}
use Rattle.g1_image.proofs.Covers.{card_region, cards_rise, covered_tells, exact_tells, refined_tells}
use Rattle.g1_rem.specs.Starts.{card_count}
use Rattle.g1_rem.specs.EntryCards.{cards_into, is_listed}
use Rattle.g1_copy.specs.Laws.{CardsLeadIn, CardsStandOutside, RefinedFindPatches}
use Rattle.g1_copy.specs.Patches.{patch}

-- an ordinary region is one of the heap's
ordinary_in_heap : (h : Heap) (r : ℕ) → IsValid h → kind h r ≡ Ordinary → r < h.geometry.n
ordinary_in_heap h r valid e = elim (cases_lt r h.geometry.n) [
  | inl lt ↦ lt
  | inr ge ↦ (
      let free : region h r ≡ free_region = get_or_past h.regions r free_region (omega (arith, ge, valid.region_count)) in
      let clash : Ordinary ≡ Free = sym e ∙ ap (λ q. q.kind) free in
      cc)
]

-- ---- the cards

module _ (h : Heap) (remembered : List (List ℕ)) (set : List ℕ) where
  abbrev leads : ℕ → Bool
  leads c = is_listed remembered set c && not (in_set h set (c * h.geometry.k))

  -- what a listed card is
  listed_is : (c : ℕ) → Contains (cards_into h remembered set) c → (c < card_count h) × (is_listed remembered set c ≡ true) × (in_set h set (c * h.geometry.k) ≡ false)
  listed_is c i =
      let m = filter_member leads (range_with_len 0 (card_count h)) c i in
      let t = and_true (is_listed remembered set c) (not (in_set h set (c * h.geometry.k))) m.1 in
      (omega (arith, range_below 0 (card_count h) c m.0), t.0, not-true (in_set h set (c * h.geometry.k)) t.1)

pub cards_stand_outside : CardsStandOutside
cards_stand_outside h remembered set = (
  cards_rise h (λ c. is_listed remembered set c && not (in_set h set (c * h.geometry.k))),
  (λ k d lt. (listed_is h remembered set (slice_index_or (cards_into h remembered set) k d) (Contains-get_or (cards_into h remembered set) k d lt)).0),
  (λ k d lt. (listed_is h remembered set (slice_index_or (cards_into h remembered set) k d) (Contains-get_or (cards_into h remembered set) k d lt)).2),
)

-- the refined set of a region, read from the list of all
refined_at : (i : Image) (r : ℕ) → r < i.heap.geometry.n → slice_index_or (map (refined i) (regions i.heap)) r [] ≡ refined i r
refined_at i r lt = get_or-map-range_with_len (refined i) 0 i.heap.geometry.n r r [] lt (omega arith)

pub cards_lead : CardsLeadIn
cards_lead i set good ordinary c = (to, from) where
  remembered : List (List ℕ)
  remembered = map (refined i) (regions i.heap)

  at : (r : ℕ) → Contains set r → slice_index_or (map (refined i) (regions i.heap)) r [] ≡ refined i r
  at r k = refined_at i r (ordinary_in_heap i.heap r good.heap (ordinary r k))

  to : Contains (cards_into i.heap (map (refined i) (regions i.heap)) set) c → (((r : ℕ) × Contains set r × Contains (refined i r) c) × (in_set i.heap set (c * i.heap.geometry.k) ≡ false))
  to k =
      let t = listed_is i.heap remembered set c k in
      let m = any_member (λ r. has (slice_index_or remembered r []) c) set t.1 in
      let there : Contains (refined i m.0) c = Contains-from_has (refined i m.0) c (ap (λ l. has l c) (sym (at m.0 m.1)) ∙ m.2) in
      ((m.0, m.1, there), t.2)

  from : (((r : ℕ) × Contains set r × Contains (refined i r) c) × (in_set i.heap set (c * i.heap.geometry.k) ≡ false)) → Contains (cards_into i.heap (map (refined i) (regions i.heap)) set) c
  from ((r, k, m), out) =
      let listed : is_listed (map (refined i) (regions i.heap)) set c ≡ true =
      any_from_in (λ r. has (slice_index_or remembered r []) c) set r k (ap (λ l. has l c) (at r k) ∙ has_from_contains (refined i r) c m) in
      Contains-filter (leads i.heap remembered set) (range_with_len 0 (card_count i.heap)) c (filter_member (is_refined i r) (range_with_len 0 (card_count i.heap)) c m).0 (rw (listed, out) refl)

-- ---- the patches

pub refined_find_patches : RefinedFindPatches
refined_find_patches i set l good covered rising ordinary survivors =
    ap (map (patch i.heap l))
    (filter_same_in (λ e. has (cards_into i.heap (map (refined i) (regions i.heap)) set) (card_of i.heap e.slot) && has l e.target)
    (λ e. not (in_set i.heap set e.slot) && has l e.target) (refs i.heap)
    (λ e k. by e k (has l e.target) refl))
  where
    cards : List ℕ
    cards = cards_into i.heap (map (refined i) (regions i.heap)) set

    home : (e : Ref) → in_set i.heap set (card_of i.heap e.slot * i.heap.geometry.k) ≡ in_set i.heap set e.slot
    home e = ap (has set) (card_region i.heap good.heap e.slot)

    target_in : (a : ℕ) → has l a ≡ true → in_set i.heap set a ≡ true
    target_in a t = reached_in_set i.heap set a ((survivors.reached a).0 (Contains-from_has l a t))

    -- a reference from outside lies on a card of its target's refined set
    on_refined : (e : Ref) → Contains (refs i.heap) e → region_of i.heap e.target < i.heap.geometry.n →
        region_of i.heap e.slot ≢ region_of i.heap e.target → Contains (refined i (region_of i.heap e.target)) (card_of i.heap e.slot)
    on_refined e k lt d = elim ((covered_tells i).0 covered e k) [
      | inl same ↦ absurd (d same)
      | inr (inl m) ↦ (refined_tells i good (region_of i.heap e.target) (card_of i.heap e.slot) lt).1 (inl m)
      | inr (inr m) ↦ (refined_tells i good (region_of i.heap e.target) (card_of i.heap e.slot) lt).1
          (inr (m, (exact_tells i.heap good.heap (region_of i.heap e.target) (card_of i.heap e.slot)).1 (e, k, refl, d, refl)))
    ]

    -- a slot that names a survivor lies on one of the cards where it lies outside the set
    listed : (e : Ref) → Contains (refs i.heap) e → has l e.target ≡ true → (b : Bool) → in_set i.heap set e.slot ≡ b → has cards (card_of i.heap e.slot) ≡ not b
    listed e k t true f =
        not_has cards (card_of i.heap e.slot) (λ m.
        let out = (listed_is i.heap (map (refined i) (regions i.heap)) set (card_of i.heap e.slot) m).2 in
        let clash : true ≡ false = sym f ∙ sym (home e) ∙ out in cc)
    listed e k t false f =
        let there : Contains set (region_of i.heap e.target) = Contains-from_has set (region_of i.heap e.target) (target_in e.target t) in
        let lt : region_of i.heap e.target < i.heap.geometry.n = ordinary_in_heap i.heap (region_of i.heap e.target) good.heap (ordinary (region_of i.heap e.target) there) in
        let d : region_of i.heap e.slot ≢ region_of i.heap e.target = λ s. (let clash : true ≡ false = sym (target_in e.target t) ∙ ap (has set) (sym s) ∙ f in cc) in
        has_from_contains cards (card_of i.heap e.slot) ((cards_lead i set good ordinary (card_of i.heap e.slot)).1 ((region_of i.heap e.target, there, on_refined e k lt d), home e ∙ f))

    by : (e : Ref) → Contains (refs i.heap) e → (b : Bool) → has l e.target ≡ b → (has cards (card_of i.heap e.slot) && has l e.target) ≡ (not (in_set i.heap set e.slot) && has l e.target)
    by e k true t = ap (λ z. z && has l e.target) (listed e k t (in_set i.heap set e.slot) refl)
    by e k false t = ap (λ z. has cards (card_of i.heap e.slot) && z) t ∙ never (has cards (card_of i.heap e.slot)) (not (in_set i.heap set e.slot))
        ∙ ap (λ z. not (in_set i.heap set e.slot) && z) (sym t)
      where
        never : (a b : Bool) → (a && false) ≡ (b && false)
        never true true = refl
        never true false = refl
        never false true = refl
        never false false = refl
