-- Where unnamed humongous objects were freed, a tracked image whose log is processed stays tracked.
use Rattle.std.proofs.Common.{◌≡◌, ◌≢◌, ℕ, ◌<◌, inl, inr, true, false, cond, not, List, [], length, get_or, filter, Contains, sym, ◌∙◌, ap, subst, arith, lit<}
use Rattle.std.proofs.lemmas.Bool.{cases_Bool, cases_lt, not-true}
use Rattle.std.proofs.lemmas.List.{get_or_past}
use Rattle.std.proofs.lemmas.List.Elements.{Contains-get_or}
use Rattle.std.proofs.lemmas.List.FromFn.{get_or-map-range_with_len, length-map-range_with_len}
use Rattle.std.proofs.lemmas.List.Kept.{IsStrictlyIncreasing-filter}
use Rattle.g1_after.proofs.CardsMoved.{length-filter-le}
use Rattle.g1_after.proofs.LeftRefs.{ref_away, ref_cases}
use Rattle.g1_after.proofs.LeftRules.{built_left, same_shape}
use Rattle.g1_after.proofs.ObjectsLeft.{IsLeft, heap_is_left, with_parts}
use Rattle.g1_after.specs.Freed.{TrackedLeft, heap_left}
use Rattle.g1_after.specs.Unnamed.{image_without, unnamed_regions}
use Rattle.g1_image.proofs.Covers.{Covers, card_region, covered_tells}
use Rattle.g1_image.specs.Cards.{Covered}
use Rattle.g1_image.specs.Image.{Image, IsImage, IsLog, IsRememberedSet, IsUsedCard, MayHoldCards, region_of_card, remembered_of, card_in}
use Rattle.g1_words.proofs.Members.{Contains-filter, filter_member, none_contains}
use Rattle.g1_words.proofs.Ordered.{pairs_from_ordered}
use Rattle.g1_words.proofs.Shapes.{IsBuilt, built, valid_of}
use Rattle.g1_words.proofs.Standing.{home, home_region}
use Rattle.g1_words.specs.Heap.{Heap, card_of, free_region, kind, object_at, region_of}
use Rattle.g1_words.specs.Lists.{has}
use Rattle.g1_words.specs.References.{Ref, refs}
use Rattle.g1_words.specs.Survivors.{in_set}
use Rattle.g1_words.specs.declared.region.Kind.TheVariants.{Free}
use Rattle.g1_words.specs.declared.region.Region.{Region}

-- the cards of a set that stay
abbrev pub staying : Image → ℕ → List ℕ
staying i r = filter (λ c. not (card_in i.heap (unnamed_regions i.heap) c)) (remembered_of i r)

-- the remembered set of a region afterwards
abbrev pub remembered_left : Image → ℕ → List ℕ
remembered_left i r = cond (has (unnamed_regions i.heap) r) [] (staying i r)

-- no cards are a remembered set of any region
no_cards : (h : Heap) (r : ℕ) → IsRememberedSet h r []
no_cards h r = record {
  rising = λ k less. absurd (omega (arith, less));
  elsewhere = λ k d less. absurd (omega (arith, less));
  count = lit< tt;
  owner = λ some. absurd (omega (arith, some));
}

module _ (i : Image) (valid : IsBuilt i.heap) (image : IsImage i) (words : List ℕ) (table : List Region) (left : IsLeft i.heap words table)
    (remembered : List (List ℕ)) (count : length remembered ≡ i.heap.geometry.n) (each : (r : ℕ) → r < i.heap.geometry.n → get_or remembered r [] ≡ remembered_left i r) where
  -- the image with these words, regions and remembered sets
  abbrev pub image_with : Image
  image_with = record { heap = with_parts i.heap words table; remembered = remembered; log = i.log }

  -- the set of a freed region is empty
  freed_set : (r : ℕ) → r < i.heap.geometry.n → has (unnamed_regions i.heap) r ≡ true → remembered_of image_with r ≡ []
  freed_set r lt t = each r lt ∙ ap (λ b. cond b [] (staying i r)) t

  -- that of another has the cards that stay
  same_set : (r : ℕ) → r < i.heap.geometry.n → has (unnamed_regions i.heap) r ≡ false → remembered_of image_with r ≡ staying i r
  same_set r lt f = each r lt ∙ ap (λ b. cond b [] (staying i r)) f

  -- a region that isn't free is one of the heap's
  in_heap : (q : ℕ) → kind i.heap q ≢ Free → q < i.heap.geometry.n
  in_heap q used = elim (cases_lt q i.heap.geometry.n) [
    | inl lt ↦ lt
    | inr ge ↦ absurd (used (ap (λ (x : Region). x.kind) (get_or_past i.heap.regions q free_region (let k = valid.region_count in omega arith))))
  ]

  -- a card that stays is one of the set before, and its region is used still
  staying_card : (r c : ℕ) → r < i.heap.geometry.n → Contains (staying i r) c → IsUsedCard (with_parts i.heap words table) c × (region_of_card i.heap c ≢ r)
  staying_card r c lt m =
      let f = filter_member (λ c. not (card_in i.heap (unnamed_regions i.heap) c)) (remembered_of i r) c m in
      let k = f.0 in
      let u = subst (λ x. IsUsedCard i.heap x × (region_of_card i.heap x ≢ r)) k.2 ((image.remembered r lt).elsewhere k.0 c k.1) in
      let q : ℕ = region_of_card i.heap c in
      let shape = same_shape i.heap valid words table left q (in_heap q u.0.used) (not-true (card_in i.heap (unnamed_regions i.heap) c) f.1) in
      (record { in_heap = u.0.in_heap; used = λ z. u.0.used (sym shape.0 ∙ z) }, u.1)

  -- the cards that stay are a remembered set
  staying_set : (r : ℕ) → r < i.heap.geometry.n → has (unnamed_regions i.heap) r ≡ false → IsRememberedSet (with_parts i.heap words table) r (staying i r)
  staying_set r lt f =
      let s = image.remembered r lt in
      let few = length-filter-le (λ c. not (card_in i.heap (unnamed_regions i.heap) c)) (remembered_of i r) in
      record {
        rising = IsStrictlyIncreasing-filter (λ c. not (card_in i.heap (unnamed_regions i.heap) c)) (remembered_of i r) s.rising;
        elsewhere = λ k d less. staying_card r (get_or (staying i r) k d) lt (Contains-get_or (staying i r) k d less);
        count = let c = s.count in omega arith;
        owner = λ some. subst MayHoldCards (sym (same_shape i.heap valid words table left r lt f).0) (s.owner (omega arith));
      }

  -- each remembered set keeps its rules
  set_left : (r : ℕ) → r < i.heap.geometry.n → IsRememberedSet (with_parts i.heap words table) r (remembered_of image_with r)
  set_left r lt = elim (cases_Bool (has (unnamed_regions i.heap) r)) [
    | inl t ↦ subst (IsRememberedSet (with_parts i.heap words table) r) (sym (freed_set r lt t)) (no_cards (with_parts i.heap words table) r)
    | inr f ↦ subst (IsRememberedSet (with_parts i.heap words table) r) (sym (same_set r lt f)) (staying_set r lt f)
  ]

  -- it is an image
  pub image_left_is : i.log ≡ [] → IsImage image_with
  image_left_is none = record {
    heap = valid_of (with_parts i.heap words table) (built_left i.heap valid words table left);
    one_each = count;
    remembered = set_left;
    log = subst (IsLog (with_parts i.heap words table)) (sym none) (record { used = λ k d less. absurd (omega (arith, less)); distinct = pairs_from_ordered (λ c d. c ≢ d) [] tt; count = lit< tt });
  }

  -- a reference that is left keeps its cover
  covers_left : i.log ≡ [] → (e : Ref) → Contains (refs i.heap) e → in_set i.heap (unnamed_regions i.heap) e.slot ≡ false → Covers i e → Covers image_with e
  covers_left none e m out (inl a) = inl a
  covers_left none e m out (inr (inr a)) = absurd (none_contains (card_of i.heap e.slot) (subst (λ xs. Contains xs (card_of i.heap e.slot)) none a))
  covers_left none e m out (inr (inl a)) =
      let r : ℕ = region_of i.heap e.target in
      let c : ℕ = card_of i.heap e.slot in
      let t = home i.heap valid (object_at i.heap e.target) (valid.slot_named e m) in
      let lt : r < i.heap.geometry.n = subst (λ q. q < i.heap.geometry.n) (sym (home_region i.heap valid t.0 (object_at i.heap e.target) t.2)) t.2.0 in
      let away : card_in i.heap (unnamed_regions i.heap) c ≡ false = ap (has (unnamed_regions i.heap)) (card_region i.heap image.heap e.slot) ∙ out in
      inr (inl (subst (λ xs. Contains xs c) (sym (same_set r lt (ref_away i.heap valid e m out)))
      (Contains-filter (λ c. not (card_in i.heap (unnamed_regions i.heap) c)) (remembered_of i r) c a (ap not away))))

  -- it is covered
  pub covered_left : i.log ≡ [] → Covered i → Covered image_with
  covered_left none c = (covered_tells image_with).1 (λ e k.
      let m = ref_cases i.heap valid words table left e k in
      covers_left none e m.0 m.1 ((covered_tells i).0 c e m.0))

-- the image that is left is tracked
pub tracked_left : TrackedLeft
tracked_left i t none =
    let b : IsBuilt i.heap = built i.heap t.image.heap in
    let left : IsLeft i.heap (heap_left i.heap).words (heap_left i.heap).regions = heap_is_left i.heap b in
    let count : length (image_without i (unnamed_regions i.heap)).remembered ≡ i.heap.geometry.n = length-map-range_with_len (remembered_left i) 0 i.heap.geometry.n in
    let each : (r : ℕ) → r < i.heap.geometry.n → get_or (image_without i (unnamed_regions i.heap)).remembered r [] ≡ remembered_left i r =
    λ r lt. get_or-map-range_with_len (remembered_left i) 0 i.heap.geometry.n r r [] lt (omega arith) in
    record {
      image = image_left_is i b t.image (heap_left i.heap).words (heap_left i.heap).regions left (image_without i (unnamed_regions i.heap)).remembered count each none;
      covered = covered_left i b t.image (heap_left i.heap).words (heap_left i.heap).regions left (image_without i (unnamed_regions i.heap)).remembered count each none t.covered;
    }
