-- A heap in which the regions of unnamed humongous objects were freed: its words, its regions, and that its objects are the others.
use Rattle.std.proofs.Common.{◌≡◌, ℕ, ◌*◌, ◌/◌, ◌%◌, ◌^◌, ◌<◌, ◌↔◌, inl, inr, true, false, cond, List, [], length, get_or, Contains, sym, ◌∙◌, ap, subst, arith}
use Rattle.std.specs.Prelude.{IsFalse}
use Rattle.std.proofs.lemmas.Bool.{cases_Bool, cases_lt}
use Rattle.std.proofs.lemmas.List.{get_or_past}
use Rattle.std.proofs.lemmas.List.FromFn.{get_or-map-range_with_len, length-map-range_with_len}
use Rattle.g1_after.proofs.ObjectsMoved.{region_at}
use Rattle.g1_after.specs.Freed.{ObjectsLeft, heap_left}
use Rattle.g1_after.specs.Unnamed.{unnamed_regions}
use Rattle.g1_words.proofs.Computed.{Contains-range}
use Rattle.g1_words.proofs.Indices.{range_bounds}
use Rattle.g1_words.proofs.Members.{Contains-flat_map, flat_map_cases, none_contains}
use Rattle.g1_words.proofs.Shapes.{IsBuilt, built}
use Rattle.g1_words.proofs.Standing.{home, home_region, stands}
use Rattle.g1_words.specs.Heap.{Heap, free_region, kind, object_at, objects, objects_by, objects_in, region, region_of, regions, word}
use Rattle.g1_words.specs.Lists.{has}
use Rattle.g1_words.specs.Survivors.{in_set}
use Rattle.g1_words.specs.declared.object.Object.{Object}
use Rattle.g1_words.specs.declared.region.Region.{Region}

-- the heap with other words and another table of regions
abbrev pub with_parts : Heap → List ℕ → List Region → Heap
with_parts h words table = record { geometry = h.geometry; words = words; regions = table; roots = h.roots; current = h.current }

-- these are the words and regions of a heap in which the regions of unnamed humongous objects were freed
pub record IsLeft (h : Heap) (words : List ℕ) (table : List Region) : Type 0 where
  pub size : length words ≡ h.geometry.n * h.geometry.w
  pub stays : (q : ℕ) → in_set h (unnamed_regions h) q ≡ false → get_or words q 0 ≡ word h q
  pub cleared : (q : ℕ) → in_set h (unnamed_regions h) q ≡ true → get_or words q 0 ≡ 0
  pub count : length table ≡ h.geometry.n
  pub same : (r : ℕ) → r < h.geometry.n → has (unnamed_regions h) r ≡ false → get_or table r free_region ≡ region h r
  pub freed : (r : ℕ) → r < h.geometry.n → has (unnamed_regions h) r ≡ true → get_or table r free_region ≡ free_region

module _ (h : Heap) (valid : IsBuilt h) where
  -- the word at an address afterwards
  abbrev new_word : ℕ → ℕ
  new_word q = cond (in_set h (unnamed_regions h) q) 0 (word h q)

  -- a region afterwards
  abbrev new_region : ℕ → Region
  new_region r = cond (has (unnamed_regions h) r) free_region (region h r)

  size_left : length (heap_left h).words ≡ h.geometry.n * h.geometry.w
  size_left = length-map-range_with_len new_word 0 (h.geometry.n * h.geometry.w)

  word_there : (q : ℕ) → q < h.geometry.n * h.geometry.w → get_or (heap_left h).words q 0 ≡ new_word q
  word_there q lt = get_or-map-range_with_len new_word 0 (h.geometry.n * h.geometry.w) q q 0 lt (omega arith)

  region_there : (r : ℕ) → r < h.geometry.n → get_or (heap_left h).regions r free_region ≡ new_region r
  region_there r lt = get_or-map-range_with_len new_region 0 h.geometry.n r r free_region lt (omega arith)

  -- the heap that is left has such words and regions
  pub heap_is_left : IsLeft h (heap_left h).words (heap_left h).regions
  heap_is_left = record {
    size = size_left;
    stays = λ q e. elim (cases_lt q (h.geometry.n * h.geometry.w)) [
      | inl lt ↦ word_there q lt ∙ ap (λ b. cond b 0 (word h q)) e
      | inr ge ↦ get_or_past (heap_left h).words q 0 (omega (arith, size_left)) ∙ sym (get_or_past h.words q 0 (let c = valid.word_count in omega arith))
    ];
    cleared = λ q e. elim (cases_lt q (h.geometry.n * h.geometry.w)) [
      | inl lt ↦ word_there q lt ∙ ap (λ b. cond b 0 (word h q)) e
      | inr ge ↦ get_or_past (heap_left h).words q 0 (omega (arith, size_left))
    ];
    count = length-map-range_with_len new_region 0 h.geometry.n;
    same = λ r lt e. region_there r lt ∙ ap (λ b. cond b free_region (region h r)) e;
    freed = λ r lt e. region_there r lt ∙ ap (λ b. cond b free_region (region h r)) e;
  }

module _ (h : Heap) (valid : IsBuilt h) (words : List ℕ) (table : List Region) (left : IsLeft h words table) where
  -- an object starts in its region
  in_home : (r : ℕ) (o : Object) → Contains (objects_in h r) o → region_of h o.at ≡ r
  in_home r o m = home_region h valid r o (stands h valid r o m)

  -- an object elsewhere is the one that its header tells, as before
  pub header_same : (a : ℕ) → in_set h (unnamed_regions h) a ≡ false → object_at (with_parts h words table) a ≡ object_at h a
  header_same a e = let w = left.stays a e in λ t. record { at = a; size = w t / 2 ^ 32; refs = w t % 2 ^ 32 }

  -- another region has the objects that it had
  pub objects_same : (r : ℕ) → r < h.geometry.n → has (unnamed_regions h) r ≡ false → objects_in (with_parts h words table) r ≡ objects_in h r
  objects_same r lt out =
      let q : region (with_parts h words table) r ≡ region h r = left.same r lt out in
      ap (λ (q : Region). objects_by q.kind (with_parts h words table) r) q
      ∙ region_at h (with_parts h words table) (kind h r) r (λ t. h.geometry) q (λ o m. left.stays o.at (ap (has (unnamed_regions h)) (in_home r o m) ∙ out))

  -- a freed region has none
  pub freed_is_empty : (r : ℕ) → r < h.geometry.n → has (unnamed_regions h) r ≡ true → objects_in (with_parts h words table) r ≡ []
  freed_is_empty r lt t = let q : region (with_parts h words table) r ≡ free_region = left.freed r lt t in ap (λ (q : Region). objects_by q.kind (with_parts h words table) r) q

  -- an object that is left was one, outside the freed regions
  pub left_cases : (o : Object) → Contains (objects (with_parts h words table)) o → Contains (objects h) o × (in_set h (unnamed_regions h) o.at ≡ false)
  left_cases o m =
      let r = flat_map_cases (objects_in (with_parts h words table)) (regions h) o m in
      let b = range_bounds 0 h.geometry.n r.0 r.1 in
      elim (cases_Bool (has (unnamed_regions h) r.0)) [
        | inl t ↦ absurd (none_contains o (subst (λ xs. Contains xs o) (freed_is_empty r.0 (omega arith) t) r.2))
        | inr f ↦
            let k : Contains (objects_in h r.0) o = subst (λ xs. Contains xs o) (objects_same r.0 (omega arith) f) r.2 in
            (Contains-flat_map (objects_in h) (regions h) r.0 o r.1 k, ap (has (unnamed_regions h)) (in_home r.0 o k) ∙ f)
      ]

  -- an object outside the freed regions is left
  pub object_left : (o : Object) → Contains (objects h) o → in_set h (unnamed_regions h) o.at ≡ false → Contains (objects (with_parts h words table)) o
  object_left o m out =
      let r = home h valid o m in
      let f : has (unnamed_regions h) r.0 ≡ false = ap (has (unnamed_regions h)) (sym (in_home r.0 o r.1)) ∙ out in
      let lt : r.0 < h.geometry.n = r.2.0 in
      Contains-flat_map (objects_in (with_parts h words table)) (regions h) r.0 o (Contains-range 0 h.geometry.n r.0 (omega arith) (omega arith)) (subst (λ xs. Contains xs o) (sym (objects_same r.0 lt f)) r.1)

  left_is : (o : Object) → Contains (objects (with_parts h words table)) o ↔ (Contains (objects h) o × IsFalse (in_set h (unnamed_regions h) o.at))
  left_is o = (left_cases o, λ c. object_left o c.0 c.1)

-- the objects that are left are those outside the freed regions
pub objects_left : ObjectsLeft
objects_left h v o = left_is h (built h v) (heap_left h).words (heap_left h).regions (heap_is_left h (built h v)) o
