-- Which humongous objects nothing names once the survivors have moved, from the heap before.
use Rattle.std.proofs.Common.{◌≡◌, ◌≢◌, ℕ, ◌+◌, ◌*◌, ◌<◌, inl, inr, Bool, true, false, cond, not, ◌&&◌, ◌||◌, List, [], ◌∷◌, ◌++◌, All, get_or, map, filter, Contains, refl, sym}
use Rattle.std.proofs.Common.{◌∙◌, ap, subst, arith, eqb, eqb-true, eq-eqb}
use Rattle.std.specs.List.{list_any, range_with_len}
use Rattle.std.proofs.lemmas.Bool.{cases_Bool, false_from_ne_true, false≢true}
use Rattle.std.proofs.lemmas.List.Elements.{Contains-get_or}
use Rattle.std.proofs.lemmas.List.FromFn.{get_or-map-range_with_len}
use Rattle.std.proofs.lemmas.Nat.{div-mul-add}
use Rattle.g1_words.specs.declared.object.Object.{Object}
use Rattle.g1_words.specs.declared.region.Kind.{Kind}
use Rattle.g1_words.specs.declared.region.Kind.TheVariants.{Continuation, Free, HumongousFirst, Ordinary}
use Rattle.g1_words.specs.declared.region.Region.{Region}
use Rattle.g1_words.specs.Heap.{Heap, free_region, is_first, kind, object_at, objects, objects_by, objects_in, region, region_of, region_with, regions}
use Rattle.g1_words.specs.Layout.{HasRoom, end_in, forward, free_regions, need, to_space}
use Rattle.g1_words.specs.Lists.{has}
use Rattle.g1_words.specs.References.{root_targets}
use Rattle.g1_words.specs.Survivors.{in_set}
use Rattle.g1_words.proofs.Computed.{Contains-range}
use Rattle.g1_words.proofs.Firsts.{Distinct}
use Rattle.g1_words.proofs.Indices.{is_free_region, not_has, range_bounds, taken_in}
use Rattle.g1_words.proofs.Lists.{all_in, any_from_in, by_number, has_both, none_passes}
use Rattle.g1_words.proofs.Logic.{same_test}
use Rattle.g1_words.proofs.Members.{Contains-flat_map, Contains-map, and_true, any_member, filter_member, has_from_contains, Contains-from_has, map_cases, or_true}
use Rattle.g1_words.proofs.NextFit.{free_distinct}
use Rattle.g1_words.proofs.OneToOne.{kept_cases, outside_stays, survivor_to_free}
use Rattle.g1_words.proofs.Shapes.{BeginsRun, IsBuiltBy, built}
use Rattle.g1_words.proofs.Sound.{IsSound}
use Rattle.g1_words.proofs.Standing.{built_is_sound, home, home_region, run_object, word_used}
use Rattle.g1_image.specs.Cards.{IsTracked, cards_where, is_exact, is_refined}
use Rattle.g1_image.specs.Image.{Image, IsUsedCard, region_of_card, remembered_of, card_in}
use Rattle.g1_after.specs.Survived.{ExactStays}
use Rattle.g1_after.specs.Freed.{NamedByCards}
use Rattle.g1_after.specs.Made.{heap_moved, image_moved}
use Rattle.g1_after.specs.Moved.{remembered_moved}
use Rattle.g1_after.specs.Unnamed.{is_named, lies_in, unnamed}
use Rattle.g1_after.proofs.CardsMoved.{tracked_moved}
use Rattle.g1_after.proofs.ObjectsMoved.{region_moved}
use Rattle.g1_after.proofs.ObjectsOf.{used_not_to_space}
use Rattle.g1_after.proofs.SameGraphs.{roots_renamed}
use Rattle.g1_after.proofs.UnnamedRegions.{lies_word}
use Rattle.g1_after.proofs.ValidMoved.{object_stays, other_shape, root_kept, set_shape}
use Rattle.g1_rem.proofs.Entering.{card_inside}
use Rattle.g1_rem.specs.Starts.{card_count}
use Rattle.g1_copy.specs.Fates.{AreFates, fate_of}
use Rattle.g1_copy.specs.Remembered.{cards_at}
use Rattle.g1_copy.specs.Unnamed.{is_filled_fate, is_naming, is_rooted, is_unnamed}
use Rattle.g1_copy.specs.declared.fates.Fate.{Fate}
use Rattle.g1_copy.specs.declared.fates.Fate.TheVariants.{Filled, Kept}
use Rattle.g1_copy.proofs.FatesMade.{has_fate, is_filled, is_freed, is_kept}
use Rattle.g1_copy.proofs.Ground.{Ground, ground}
use Rattle.g1_copy.proofs.InPlaceSlices.{Distinct-take}
use Rattle.g1_copy.proofs.Lists.{any_same_in}
use Rattle.g1_copy.proofs.RememberedJoined.{card_there}

-- the kind of a run's first region, by its test
pub first_by_test : (k : Kind) → is_first k ≡ true → k ≡ HumongousFirst
first_by_test Free e = absurd (false≢true e)
first_by_test Ordinary e = absurd (false≢true e)
first_by_test HumongousFirst e = refl
first_by_test Continuation e = absurd (false≢true e)

module _ (i : Image) (set l : List ℕ) (tracked : IsTracked i) (a : HasRoom i.heap set l) where
  abbrev pub h : Heap
  h = i.heap

  abbrev pub j : Image
  j = image_moved i set l

  abbrev g : Ground i set l
  g = ground i set l tracked.image.heap a

  -- the image after the moves is tracked
  pub moved_tracked : IsTracked (image_moved i set l)
  moved_tracked = tracked_moved i set l (image_moved i set l) tracked a g.moved

  -- a region of to-space was free
  to_space_free : (r : ℕ) → has (to_space i.heap l) r ≡ true → kind i.heap r ≡ Free
  to_space_free r t = (is_free_region i.heap r (taken_in (need i.heap l) (free_regions i.heap) r (Contains-from_has (to_space i.heap l) r t))).0

  -- the set of a region after the survivors moved
  pub set_is : (r : ℕ) → r < i.heap.geometry.n → remembered_of j r ≡ remembered_moved i set l (heap_moved i.heap set l) r
  set_is r lt = get_or-map-range_with_len (remembered_moved i set l (heap_moved i.heap set l)) 0 i.heap.geometry.n r r [] lt (omega arith)

  -- a region's cards lie in used regions of the heap after
  pub cards_used : (r c : ℕ) → r < i.heap.geometry.n → Contains (remembered_of j r) c → IsUsedCard j.heap c
  cards_used r c lt k = (all_in (λ c. IsUsedCard j.heap c × (region_of_card j.heap c ≢ r)) (remembered_of j r) c (moved_tracked.image.remembered r lt).elsewhere k).0

  -- a refined card lies in a used region
  refined_used : (r c : ℕ) → r < i.heap.geometry.n → is_refined i r c ≡ true → kind i.heap (region_of_card i.heap c) ≢ Free
  refined_used r c lt t = elim (or_true (has (remembered_of i r) c) (has i.log c && is_exact i.heap r c) t) [
    | inl x ↦ (all_in (λ c. IsUsedCard i.heap c × (region_of_card i.heap c ≢ r)) (remembered_of i r) c (tracked.image.remembered r lt).elsewhere (Contains-from_has (remembered_of i r) c x)).0.used
    | inr x ↦ (all_in (IsUsedCard i.heap) i.log c tracked.image.log.used (Contains-from_has i.log c (and_true (has i.log c) (is_exact i.heap r c) x).0)).used
  ]

  -- ---- a region in which a humongous object begins

  module _ (r : ℕ) (lt : r < i.heap.geometry.n) (two : kind i.heap r ≡ HumongousFirst) where
    -- it isn't of the set
    off_set : has set r ≡ false
    off_set = not_has set r (λ c. let clash : Ordinary ≡ HumongousFirst = sym (a.ordinary r c) ∙ two in cc)

    -- nor of to-space
    off_to_space : has (to_space i.heap l) r ≡ false
    off_to_space = used_not_to_space i.heap set l g.sound a r (λ z. let clash : HumongousFirst ≡ Free = sym two ∙ z in cc)

    -- it stays such a region
    first_stays : kind j.heap r ≡ HumongousFirst
    first_stays = (other_shape i set l j g.built a g.moved r lt off_set off_to_space).0 ∙ two

    -- the object
    abbrev o : Object
    o = object_at i.heap (r * i.heap.geometry.w)

    -- it is the region's, and the heap's
    o_in : Contains (objects_in i.heap r) o
    o_in = run_object i.heap g.sound.w_positive r two (subst (IsBuiltBy i.heap r) two (g.built.shaped r lt))

    o_is_one : Contains (objects i.heap) o
    o_is_one = Contains-flat_map (objects_in i.heap) (regions i.heap) r o (Contains-range 0 i.heap.geometry.n r (omega arith) (omega (arith, lt))) o_in

    -- its address lies in the region
    start_region : region_of i.heap (r * i.heap.geometry.w) ≡ r
    start_region = let z : r * i.heap.geometry.w ≡ r * i.heap.geometry.w + 0 = omega arith in ap (region_of i.heap) z ∙ div-mul-add r i.heap.geometry.w 0 g.sound.w_positive

    -- so it stands outside the set
    outside : in_set i.heap set (r * i.heap.geometry.w) ≡ false
    outside = ap (has set) start_region ∙ off_set

    -- it stays as it is
    pub object_same : object_at j.heap (r * i.heap.geometry.w) ≡ o
    object_same = object_stays i set l j g.built a g.moved o o_is_one outside

    -- what a root names in the region stands at its start
    root_there : (x : ℕ) → Contains (root_targets i.heap) x → region_of i.heap x ≡ r → x ≡ r * i.heap.geometry.w
    root_there x k e =
        let m = home i.heap g.built (object_at i.heap x) (g.built.root_named x k) in
        let same : m.0 ≡ r = sym (home_region i.heap g.built m.0 (object_at i.heap x) m.2) ∙ e in
        elim m.2.2 [
          | inl y ↦ let clash : Ordinary ≡ HumongousFirst = sym y.kind ∙ ap (kind i.heap) same ∙ two in cc
          | inr y ↦ y.at ∙ ap (λ q. q * i.heap.geometry.w) same
        ]

    -- a root that names the start afterwards named it before
    root_before : (x : ℕ) → Contains (root_targets i.heap) x → forward i.heap l x ≡ r * i.heap.geometry.w → region_of i.heap x ≡ r
    root_before x k e = elim (kept_cases i.heap set l g.sound a (object_at i.heap x) (root_kept i set l j g.built a g.moved x k)) [
      | inl y ↦ ap (region_of i.heap) (sym (outside_stays i.heap set l g.sound a x y.0) ∙ e) ∙ start_region
      | inr y ↦
          let at : y.0 ≡ x = ap (λ (q : Object). q.at) y.2 in
          let free = survivor_to_free i.heap set l g.sound a y.0 y.1 in
          let clash : HumongousFirst ≡ Free = sym two ∙ ap (kind i.heap) (sym start_region) ∙ ap (λ z. kind i.heap (region_of i.heap z)) (sym e ∙ ap (forward i.heap l) (sym at)) ∙ free in
          cc
    ]

    -- whether a root names the object is told by the region
    roots_tell : has (root_targets j.heap) (r * i.heap.geometry.w) ≡ is_rooted i.heap r
    roots_tell = same_test (has (root_targets j.heap) (r * i.heap.geometry.w)) (is_rooted i.heap r) to from where
      f : ℕ → ℕ
      f x = forward i.heap l x

      to : has (root_targets j.heap) (r * i.heap.geometry.w) ≡ true → is_rooted i.heap r ≡ true
      to t =
          let k : Contains (map (forward i.heap l) (root_targets i.heap)) (r * i.heap.geometry.w) =
          subst (λ xs. Contains xs (r * i.heap.geometry.w)) (roots_renamed (forward i.heap l) i.heap.roots) (Contains-from_has (root_targets j.heap) (r * i.heap.geometry.w) t) in
          let m = map_cases (forward i.heap l) (root_targets i.heap) (r * i.heap.geometry.w) k in
          any_from_in (λ x. eqb (region_of i.heap x) r) (root_targets i.heap) m.0 m.1 (eq-eqb (region_of i.heap m.0) r (root_before m.0 m.1 m.2))

      from : is_rooted i.heap r ≡ true → has (root_targets j.heap) (r * i.heap.geometry.w) ≡ true
      from t =
          let m = any_member (λ x. eqb (region_of i.heap x) r) (root_targets i.heap) t in
          let at : m.0 ≡ r * i.heap.geometry.w = root_there m.0 m.1 (eqb-true (region_of i.heap m.0) r m.2) in
          let stays : forward i.heap l m.0 ≡ r * i.heap.geometry.w = ap (forward i.heap l) at ∙ outside_stays i.heap set l g.sound a (r * i.heap.geometry.w) outside in
          let k : Contains (map (forward i.heap l) (root_targets i.heap)) (r * i.heap.geometry.w) =
          subst (Contains (map (forward i.heap l) (root_targets i.heap))) stays (Contains-map (forward i.heap l) (root_targets i.heap) m.0 m.1) in
          has_from_contains (root_targets j.heap) (r * i.heap.geometry.w) (subst (λ xs. Contains xs (r * i.heap.geometry.w)) (sym (roots_renamed (forward i.heap l) i.heap.roots)) k)

    -- the object lies in no region that was free
    off_free : (q : ℕ) → kind i.heap q ≡ Free → lies_in i.heap q o ≡ false
    off_free q free = false_from_ne_true (lies_in i.heap q o) (λ t.
        let m = home i.heap g.built o o_is_one in
        let first : BeginsRun i.heap r = subst (IsBuiltBy i.heap r) two (g.built.shaped r lt) in
        let fits = first.refs in
        let w = lies_word i.heap g.built q o (omega arith) t in
        (word_used i.heap g.built m.0 o w.0 m.2 w.1).1 (ap (kind i.heap) w.2 ∙ free))

    -- ---- the cards of its remembered set

    module _ (stays : ExactStays) (fates : List Fate) (are : AreFates i.heap set (to_space i.heap l) fates) where
      -- what tells that a card's slot names the object
      abbrev by_card : ℕ → Bool
      by_card c = not (lies_in j.heap (region_of_card j.heap c) (object_at j.heap (r * i.heap.geometry.w))) && is_exact j.heap r c

      -- it lies in the same regions as before
      same_lies : (q : ℕ) → lies_in j.heap q (object_at j.heap (r * i.heap.geometry.w)) ≡ lies_in i.heap q o
      same_lies q = ap (λ (x : Object). lies_in i.heap q x) object_same

      -- a card of its set is one of the heap's, refined and outside the set, or of to-space and exact
      card_is : (c : ℕ) → Contains (remembered_of j r) c → (c < card_count i.heap)
          × (((is_refined i r c && not (card_in i.heap set c)) || (card_in i.heap (to_space i.heap l) c && is_exact j.heap r c)) ≡ true)
      card_is c k =
          let test : ℕ → Bool = λ c. (is_refined i r c && not (card_in i.heap set c)) || (card_in i.heap (to_space i.heap l) c && is_exact j.heap r c) in
          let same : remembered_of j r ≡ cards_where i.heap (λ c. (is_refined i r c && not (card_in i.heap set c)) || (card_in i.heap (to_space i.heap l) c && is_exact j.heap r c)) =
          set_is r lt ∙ (λ q. cond (off_set q) [] (cond (off_to_space q) (cards_where j.heap (is_exact j.heap r)) (cards_where i.heap test))) in
          let m = filter_member test (range_with_len 0 (card_count i.heap)) c (subst (λ xs. Contains xs c) same k) in
          let b = range_bounds 0 (card_count i.heap) c m.0 in
          (omega arith, m.1)

      -- each region of to-space is there once
      once : Distinct (to_space i.heap l)
      once = Distinct-take (need i.heap l) (free_regions i.heap) (free_distinct i.heap g.sound.w_positive)

      -- the test goes by the fate of the card's region
      by_its_fate : (c : ℕ) (fate : Fate) → region_of_card i.heap c < i.heap.geometry.n → fate_of set (to_space i.heap l) (region_of_card i.heap c) ≡ fate
          → is_naming i.heap fates r c ≡ (is_filled_fate fate || (not (lies_in i.heap (region_of_card i.heap c) o) && is_exact i.heap r c))
      by_its_fate c fate there e = ap (λ x. is_filled_fate x || (not (lies_in i.heap (region_of_card i.heap c) o) && is_exact i.heap r c)) (are.each (region_of_card i.heap c) there ∙ e)

      -- an exact card of to-space names it
      in_to_space : (c : ℕ) → Contains (remembered_of j r) c → has (to_space i.heap l) (region_of_card i.heap c) ≡ true → by_card c ≡ true
      in_to_space c k there =
          let free = to_space_free (region_of_card i.heap c) there in
          let one : is_exact j.heap r c ≡ true = elim (or_true (is_refined i r c && not (card_in i.heap set c)) (card_in i.heap (to_space i.heap l) c && is_exact j.heap r c) (card_is c k).1) [
            | inl x ↦ absurd (refined_used r c lt (and_true (is_refined i r c) (not (card_in i.heap set c)) x).0 free)
            | inr x ↦ (and_true (card_in i.heap (to_space i.heap l) c) (is_exact j.heap r c) x).1
          ] in
          let off : lies_in j.heap (region_of_card i.heap c) (object_at j.heap (r * i.heap.geometry.w)) ≡ false = same_lies (region_of_card i.heap c) ∙ off_free (region_of_card i.heap c) free in
          λ q. not (off q) && one q

      -- elsewhere what was exact stays so
      elsewhere : (c : ℕ) → has set (region_of_card i.heap c) ≡ false → has (to_space i.heap l) (region_of_card i.heap c) ≡ false →
          by_card c ≡ (not (lies_in i.heap (region_of_card i.heap c) o) && is_exact i.heap r c)
      elsewhere c out off =
          let none : (x : ℕ) → has set x ≡ false → has (to_space i.heap l) x ≡ false → has (set ++ to_space i.heap l) x ≡ false =
          λ x e f. has_both set (to_space i.heap l) x ∙ (λ q. e q || f q) in
          let same : is_exact j.heap r c ≡ is_exact i.heap r c = stays i set l j tracked.image.heap a g.moved r c (none r off_set off_to_space) (none (region_of_card i.heap c) out off) in
          λ q. not (same_lies (region_of_card i.heap c) q) && same q

      -- on each card of the set the tests agree
      cards_tell : (c : ℕ) → Contains (remembered_of j r) c → by_card c ≡ is_naming i.heap fates r c
      cards_tell c k =
          let x : ℕ = region_of_card i.heap c in
          let there : region_of_card i.heap c < i.heap.geometry.n = card_there i.heap g.built c (card_is c k).0 in
          elim (has_fate set (to_space i.heap l) once (region_of_card i.heap c)) [
            | is_freed e f ↦ (
                let none : card_in i.heap (to_space i.heap l) c ≡ false =
                used_not_to_space i.heap set l g.sound a x (λ z. let clash : Ordinary ≡ Free = sym (a.ordinary x (Contains-from_has set x e)) ∙ z in cc) in
                let never : true ≡ false = sym (card_is c k).1 ∙ (λ q. (is_refined i r c && not (e q)) || (none q && is_exact j.heap r c)) ∙ drop (is_refined i r c) in
                cc)
            | is_filled t less at e n f ↦ in_to_space c k n ∙ sym (by_its_fate c (Filled t) there f)
            | is_kept e n f ↦ elsewhere c e n ∙ sym (by_its_fate c Kept there f)
          ]
        where
          drop : (b : Bool) → ((b && false) || false) ≡ false
          drop true = refl
          drop false = refl

      -- whether something names the object
      named_tells : NamedByCards → is_named j.heap (object_at j.heap (r * i.heap.geometry.w)) ≡ (is_rooted i.heap r || list_any (is_naming i.heap fates r) (remembered_of j r))
      named_tells law =
          law j r moved_tracked refl lt first_stays
          ∙ (λ q. roots_tell q || any_same_in by_card (is_naming i.heap fates r) (remembered_of j r) cards_tell q)

  -- ---- all regions

  -- only the first region of a run stays one
  pub kind_tells : (r : ℕ) → r < i.heap.geometry.n → is_first (kind i.heap r) ≡ false → is_first (kind j.heap r) ≡ false
  kind_tells r lt e = elim (cases_Bool (has set r)) [
    | inl t ↦ ap is_first (set_shape i set l j g.built a g.moved r lt t).0
    | inr out ↦ elim (cases_Bool (has (to_space i.heap l) r)) [
      | inl t ↦ ap (λ (x : Region). is_first x.kind) (region_moved i set l j g.sound a g.moved r lt)
          ∙ (λ q. is_first (cond (out q) free_region (cond (t q) (region_with Ordinary (end_in i.heap l r)) (region i.heap r))).kind)
      | inr off ↦ ap is_first (other_shape i set l j g.built a g.moved r lt out off).0 ∙ e
    ]
  ]

  module _ (by_cards : NamedByCards) (stays : ExactStays) (fates : List Fate) (are : AreFates i.heap set (to_space i.heap l) fates) where
    -- what nothing names in one region
    one_region : (r : ℕ) (b : Bool) → r < i.heap.geometry.n → is_first (kind i.heap r) ≡ b
        → map (λ (o : Object). region_of i.heap o.at) (filter (λ o. not (is_named j.heap o)) (filter (λ o. is_first (kind j.heap (region_of j.heap o.at))) (objects_in j.heap r)))
        ≡ cond (b && not (is_rooted i.heap r || list_any (is_naming i.heap fates r) (remembered_of j r))) (r ∷ []) []
    one_region r false lt e =
        ap (λ os. map (λ (o : Object). region_of i.heap o.at) (filter (λ o. not (is_named j.heap o)) os))
        (none_passes (λ (o : Object). is_first (kind j.heap (region_of j.heap o.at))) (objects_in j.heap r)
        (λ o k. ap (λ x. is_first (kind j.heap x)) (s_after.in_region r o k) ∙ kind_tells r lt e))
      where
        s_after : IsSound j.heap
        s_after = built_is_sound j.heap (built j.heap moved_tracked.image.heap)
    one_region r true lt e =
        let two : kind i.heap r ≡ HumongousFirst = first_by_test (kind i.heap r) e in
        let stands : objects_in j.heap r ≡ object_at j.heap (r * i.heap.geometry.w) ∷ [] = ap (λ k. objects_by k j.heap r) (first_stays r lt two) in
        let home : region_of i.heap (r * i.heap.geometry.w) ≡ r = start_region r lt two in
        let first : is_first (kind j.heap (region_of j.heap (r * i.heap.geometry.w))) ≡ true = ap (λ x. is_first (kind j.heap x)) home ∙ ap is_first (first_stays r lt two) in
        ap (λ os. map (λ (o : Object). region_of i.heap o.at) (filter (λ o. not (is_named j.heap o)) (filter (λ o. is_first (kind j.heap (region_of j.heap o.at))) os))) stands
        ∙ (λ q. map (λ (o : Object). region_of i.heap o.at) (filter (λ o. not (is_named j.heap o)) (cond (first q) (object_at j.heap (r * i.heap.geometry.w) ∷ []) [])))
        ∙ alone (is_named j.heap (object_at j.heap (r * i.heap.geometry.w)))
        ∙ (λ q. cond (not (named_tells r lt two stays fates are by_cards q)) (home q ∷ []) [])
      where
        alone : (b : Bool) → map (λ (o : Object). region_of i.heap o.at) (cond (not b) (object_at j.heap (r * i.heap.geometry.w) ∷ []) [])
            ≡ cond (not b) (region_of i.heap (r * i.heap.geometry.w) ∷ []) []
        alone true = refl
        alone false = refl

    -- the first regions of the objects that nothing names
    pub firsts_are : (remembered : List (List ℕ)) → remembered ≡ map (remembered_moved i set l (heap_moved i.heap set l)) (regions i.heap)
        → filter (is_unnamed i.heap fates remembered) (regions i.heap) ≡ map (λ (o : Object). region_of i.heap o.at) (unnamed (heap_moved i.heap set l))
    firsts_are remembered e =
        ap (λ x. filter (is_unnamed i.heap fates x) (regions i.heap)) e
        ∙ sym (by_number (λ (o : Object). region_of i.heap o.at) (λ o. not (is_named j.heap o)) (λ o. is_first (kind j.heap (region_of j.heap o.at))) (objects_in j.heap)
        (is_unnamed i.heap fates j.remembered) (regions i.heap)
        (λ r k. one_region r (is_first (kind i.heap r)) (let b = range_bounds 0 i.heap.geometry.n r k in omega arith) refl))

  -- each of the remembered cards is one of the heap's
  pub cards_there : (remembered : List (List ℕ)) → remembered ≡ map (remembered_moved i set l (heap_moved i.heap set l)) (regions i.heap)
      → (r : ℕ) → r < i.heap.geometry.n → All (λ c. c < card_count i.heap) (cards_at remembered r)
  cards_there remembered e r lt k d less =
      let m : Contains (cards_at remembered r) (get_or (cards_at remembered r) k d) = Contains-get_or (cards_at remembered r) k d less in
      card_inside j.heap (get_or (cards_at remembered r) k d) moved_tracked.image.heap
      (cards_used r (get_or (cards_at remembered r) k d) lt (subst (λ xs. Contains (cards_at xs r) (get_or (cards_at remembered r) k d)) e m))
