-- A heap whose regions hold the objects of a graph by name carries the graph.
use Rattle.std.proofs.Common.{◌≡◌, ◌≢◌, ◌≤◌, ◌<◌, inl, inr, ℕ, zero, suc, ◌+◌, ◌*◌, ◌^◌, Bool, true, false, cond, List, [], ◌∷◌, ◌++◌, length, get_or, slice_index, slice_index_or, map, flat_map, drop, length-append, refl, sym, ◌∙◌, ap, subst, arith}
use Rattle.std.specs.Prelude.{Option, Some, None, IfSome, All, AllPairs, Contains}
use Rattle.std.specs.List.{AllZip, zip, range_with_len, position_from}
use Rattle.std.specs.Str.{bytes_eq}
use Rattle.std.proofs.lemmas.Slice.Eq.{bytes_eq-Decides}
use Rattle.std.proofs.lemmas.Slice.Zip.{AllZip-long}
use Rattle.std.proofs.lemmas.List.{map-append, length-map, get_or-map, get_or_default}
use Rattle.std.proofs.lemmas.List.FromFn.{length-range_with_len}
use Rattle.std.proofs.lemmas.List.Elements.{All-nil, All-cons, All-contains, Contains-get_or, Contains-append_cases, Contains-append_right}
use Rattle.std.proofs.lemmas.List.Folds.{flat_map-map}
use Rattle.g1_words.specs.Heap.{Heap, word}
use Rattle.g1_words.specs.Copy.{words_at}
use Rattle.g1_words.specs.Valid.{IsObject, HasObject}
use Rattle.g1_words.specs.declared.object.Object.{Object}
use Rattle.g1_words.specs.declared.region.Region.{Region}
use Rattle.g1_words.proofs.Members.{Contains-map, map_cases, Contains-flat_map, Contains-first, Contains-later}
use Rattle.g1_words.proofs.Ordered.{Ordered, pairs_from_ordered}
use Rattle.g1_words.proofs.Rising.{Ordered-append, Ordered-range}
use Rattle.g1_words.proofs.Computed.{Contains-range, range_above, range_below}
use Rattle.g1_words.proofs.Lists.{Ordered-append_right, Ordered-unmap, range_split}
use Rattle.g1_image.specs.Image.{entry_of, all_words}
use Rattle.g1_text.specs.declared.placing.Entry.{Entry}
use Rattle.g1_text.specs.Forms.{StandsFor}
use Rattle.g1_text.specs.Graphs.{NamedObject, NamedGraph, size_of}
use Rattle.g1_text.specs.ByName.{IsEntryOf, place_of}
use Rattle.g1_text.specs.Carried.{word_for, root_value, root_targets, StandsAt, Carries, AreListed, AllNamed, IsNamed, stale_if, stale_at, stale_from, stale_slots, named_at}
use Rattle.g1_text.specs.Filled.{AreWordsOf, object_of, located}
use Rattle.g1_text.specs.Laid.{used_addresses, own_addresses, StartInEach, placed, size_at}
use Rattle.g1_text.proofs.HeapWords.{split_front, laid_words, split_words, zip_weaker, zip_both, is_there, no_other}

-- the object of the heap
abbrev pub heap_object : NamedObject × ℕ → Object
heap_object o = record { at = o.1; size = size_of o.0; refs = length o.0.slots }

-- LISTS

lengths_zip : {A : Type 0} (f : A → List ℕ) (xs : List A) (yss : List (List ℕ)) → AllZip (λ x ys. length (f x) ≡ length ys) xs yss → length (flat_map (λ ys. ys) yss) ≡ length (flat_map f xs)
lengths_zip f [] [] all = refl
lengths_zip f [] (ys ∷ yss) all = elim all [ ]
lengths_zip f (x ∷ xs) [] all = elim all [ ]
lengths_zip f (x ∷ xs) (ys ∷ yss) all =
    let rest = lengths_zip f xs yss all.1 in
    omega (arith, length-append (f x) (flat_map f xs), length-append ys (flat_map (λ ys. ys) yss), all.0, rest)

zip_indexed : {A B : Type 0} (R : A → B → Type 0) (xs : List A) (ys : List B) (d : A) (e : B) → length ys ≡ length xs → ((k : ℕ) → k < length xs → R (get_or xs k d) (get_or ys k e)) → AllZip R xs ys
zip_indexed R [] [] d e l f = tt
zip_indexed R [] (y ∷ ys) d e l f = absurd (omega (arith, l))
zip_indexed R (x ∷ xs) [] d e l f = absurd (omega (arith, l))
zip_indexed R (x ∷ xs) (y ∷ ys) d e l f = (f 0 (omega arith), zip_indexed R xs ys d e (omega (arith, l)) (λ k lt. f (suc k) (omega (arith, lt))))

in_zip : {A B : Type 0} (xs : List A) (ys : List B) (d : A) (e : B) (k : ℕ) → length ys ≡ length xs → k < length xs → Contains (zip xs ys) (get_or xs k d, get_or ys k e)
in_zip [] ys d e k l lt = absurd (omega (arith, lt))
in_zip (x ∷ xs) [] d e k l lt = absurd (omega (arith, l))
in_zip (x ∷ xs) (y ∷ ys) d e zero l lt = (zero, omega arith, refl)
in_zip (x ∷ xs) (y ∷ ys) d e (suc k) l lt = let m = in_zip xs ys d e k (omega (arith, l)) (omega (arith, lt)) in (suc m.0, omega (arith, m.1), m.2)

zip_cases : {A B : Type 0} (xs : List A) (ys : List B) (d : A) (e : B) (p : A × B) → length ys ≡ length xs → Contains (zip xs ys) p → (k : ℕ) × (k < length xs) × ((get_or xs k d, get_or ys k e) ≡ p)
zip_cases [] ys d e p l i = absurd (omega (arith, i.1))
zip_cases (x ∷ xs) [] d e p l i = absurd (omega (arith, l))
zip_cases (x ∷ xs) (y ∷ ys) d e p l (zero, b, q) = (0, omega arith, q)
zip_cases (x ∷ xs) (y ∷ ys) d e p l (suc k, b, eq) = let r = zip_cases xs ys d e p (omega (arith, l)) (k, omega (arith, b), eq) in (suc r.0, omega (arith, r.1), r.2)

ordered_across : {A : Type 0} (R : A → A → Type 0) (xs ys : List A) (x y : A) → Ordered R (xs ++ ys) → Contains xs x → Contains ys y → R x y
ordered_across R [] ys x y o i j = absurd (omega (arith, i.1))
ordered_across R (z ∷ xs) ys x y o (zero, b, e) j = subst (λ a. R a y) e (o.0 y (Contains-append_right xs ys y j))
ordered_across R (z ∷ xs) ys x y o (suc k, b, e) j = ordered_across R xs ys x y o.1 (k, omega (arith, b), e) j

-- one of two places in an order has the lower number
ordered_apart : (f : ℕ → ℕ) (xs : List ℕ) (i j : ℕ) → Ordered (λ a b. f a < f b) xs → Contains xs i → Contains xs j → f i ≡ f j → i ≡ j
ordered_apart f [] i j o a b e = absurd (omega (arith, a.1))
ordered_apart f (x ∷ xs) i j o (zero, b, p) (zero, lt, q) e = sym p ∙ q
ordered_apart f (x ∷ xs) i j o (zero, lt, p) (suc k, below, eq) e = let less : f x < f j = o.0 j (k, omega (arith, below), eq) in let same = ap f p in absurd (omega (arith, less, same, e))
ordered_apart f (x ∷ xs) i j o (suc k, b, eq) (zero, lt, q) e = let less : f x < f i = o.0 i (k, omega (arith, b), eq) in let same = ap f q in absurd (omega (arith, less, same, e))
ordered_apart f (x ∷ xs) i j o (suc k, lt, eq) (suc n, less, same) e = ordered_apart f xs i j o.1 (k, omega (arith, lt), eq) (n, omega (arith, less), same) e

-- the used words of regions have rising addresses
used_from : (w from : ℕ) (qs : List Region) (a : ℕ) → Contains (used_addresses w from qs) a → from ≤ a
used_from w from [] a i = absurd (omega (arith, i.1))
used_from w from (q ∷ qs) a i = elim (Contains-append_cases (range_with_len from q.top) (used_addresses w (from + w) qs) a i) [
  | inl k ↦ range_above from q.top a k
  | inr k ↦ (let le = used_from w (from + w) qs a k in omega (arith, le))
]

used_rise : (w from : ℕ) (qs : List Region) → All (λ q. q.top ≤ w) qs → Ordered (λ x y. x < y) (used_addresses w from qs)
used_rise w from [] tops = tt
used_rise w from (q ∷ qs) tops =
    let top : q.top ≤ w = tops 0 q (omega arith) in
    Ordered-append (λ x y. x < y) (range_with_len from q.top) (used_addresses w (from + w) qs) (Ordered-range from q.top)
    (used_rise w (from + w) qs (λ k d lt. tops (suc k) d (omega (arith, lt))))
    (λ x y i j. let below = range_below from q.top x i in let above = used_from w (from + w) qs y j in omega (arith, below, above, top))

-- so have the objects whose words these are
objects_rise : (os : List (NamedObject × ℕ)) → Ordered (λ x y. x < y) (flat_map (λ o. own_addresses (heap_object o)) os) → Ordered (λ o p. o.1 < p.1) os
objects_rise [] r = tt
objects_rise (o ∷ os) r = (
  (λ p i. ordered_across (λ x y. x < y) (own_addresses (heap_object o)) (flat_map (λ o. own_addresses (heap_object o)) os) o.1 p.1 r
      (Contains-range o.1 (size_of o.0) o.1 (omega arith) (omega arith))
      (Contains-flat_map (λ o. own_addresses (heap_object o)) os p p.1 i (Contains-range p.1 (size_of p.0) p.1 (omega arith) (omega arith)))),
  objects_rise os (Ordered-append_right (λ x y. x < y) (own_addresses (heap_object o)) (flat_map (λ o. own_addresses (heap_object o)) os) r),
)

-- THE WORDS OF AN OBJECT

module _ (g : NamedGraph) (ats : List ℕ) (h : Heap) (o : NamedObject) (at : ℕ) (fits : size_of o < 2 ^ 32) (are : AreWordsOf g ats o (words_at h at (size_of o))) where
  values_count : length are.values ≡ length o.written
  values_count = sym (AllZip-long StandsFor are.values o.written are.stand)

  parts : word h at ∷ (words_at h (at + 1) (length o.slots) ++ words_at h (at + 1 + length o.slots) (length o.written)) ≡ (size_of o * 2 ^ 32 + length o.slots) ∷ (map (word_for g ats) o.slots ++ are.values)
  parts =
      let size : size_of o ≡ suc (length o.slots + length o.written) = omega arith in
      ap (λ a. word h at ∷ a) (sym (ap (map (word h)) (range_split (at + 1) (length o.slots) (length o.written))
      ∙ map-append (word h) (range_with_len (at + 1) (length o.slots)) (range_with_len (at + 1 + length o.slots) (length o.written))))
      ∙ ap (words_at h at) (sym size) ∙ are.whole

  tails : (words_at h (at + 1) (length o.slots) ≡ map (word_for g ats) o.slots) × (words_at h (at + 1 + length o.slots) (length o.written) ≡ are.values)
  tails =
      let slots : length (words_at h (at + 1) (length o.slots)) ≡ length o.slots = length-map (range_with_len (at + 1) (length o.slots)) (word h) ∙ length-range_with_len (at + 1) (length o.slots) in
      split_front (words_at h (at + 1) (length o.slots)) (words_at h (at + 1 + length o.slots) (length o.written)) (map (word_for g ats) o.slots) are.values (ap (drop 1) parts)
      (slots ∙ sym (length-map o.slots (word_for g ats)))

  pub is_object : IsObject h.words (heap_object (o, at))
  is_object = record { header = ap (λ l. get_or l 0 0) parts; refs_fit = omega arith; size_fits = fits }

  pub stands_at : HasObject h (heap_object (o, at)) → StandsAt g ats h o at
  stands_at has = record { object = has; slots = tails.0; data_words = subst (λ ws. AllZip StandsFor ws o.written) (sym tails.1) are.stand }

-- THE HEAP CARRIES THE GRAPH

module _ (g : NamedGraph) (ats order : List ℕ) (h : Heap) (wordss : List (List ℕ)) (count : length ats ≡ length g.objects) (places : All (λ k. k < length g.objects) order)
    (all : (k : ℕ) → k < length g.objects → Contains order k) (fits : All (λ o. size_of o < 2 ^ 32) g.objects) (regions : length h.regions ≡ h.geometry.n)
    (tops : All (λ q. q.top ≤ h.geometry.w) h.regions) (starts : StartInEach h.geometry.w 0 h.regions (map heap_object (located g ats order)))
    (addresses : flat_map own_addresses (map heap_object (located g ats order)) ≡ used_addresses h.geometry.w 0 h.regions)
    (words : h.words ≡ all_words h.geometry.w (map entry_of h.regions) (flat_map (λ ws. ws) wordss))
    (are : AllZip (λ o ws. AreWordsOf g ats o.0 ws) (located g ats order) wordss) where
  abbrev own : NamedObject × ℕ → List ℕ
  own o = own_addresses (heap_object o)

  whole : flat_map own (located g ats order) ≡ used_addresses h.geometry.w 0 h.regions
  whole = sym (flat_map-map own_addresses heap_object (located g ats order)) ∙ addresses

  sizes : AllZip (λ o ws. length (own o) ≡ length ws) (located g ats order) wordss
  sizes = zip_weaker (λ o ws. AreWordsOf g ats o.0 ws) (λ o ws. length (own o) ≡ length ws)
      (λ o ws are.
      let values = AllZip-long StandsFor are.values o.0.written are.stand in
      let all = ap length are.whole in
      let slots = length-map o.0.slots (word_for g ats) in
      omega (arith, length-range_with_len o.1 (size_of o.0), values, all, slots, length-append (map (word_for g ats) o.0.slots) are.values))
      (located g ats order) wordss are

  pub long : length (flat_map (λ ws. ws) wordss) ≡ length (used_addresses h.geometry.w 0 h.regions)
  long = lengths_zip own (located g ats order) wordss sizes ∙ ap length whole

  read : map (word h) (flat_map own (located g ats order)) ≡ flat_map (λ ws. ws) wordss
  read =
      ap (map (word h)) whole ∙ ap (λ ws. map (λ a. slice_index ws a) (used_addresses h.geometry.w 0 h.regions)) words ∙ laid_words h.geometry.w [] h.regions (flat_map (λ ws. ws) wordss) tops long

  their_words : (o : NamedObject × ℕ) → Contains (located g ats order) o → AreWordsOf g ats o.0 (words_at h o.1 (size_of o.0))
  their_words o i =
      let both = zip_both (λ o ws. AreWordsOf g ats o.0 ws) (λ o ws. map (word h) (own o) ≡ ws) (located g ats order) wordss o are (split_words (word h) own (located g ats order) wordss sizes read) i in
      subst (AreWordsOf g ats o.0) (sym both.2) both.1

  abbrev pair : ℕ → NamedObject × ℕ
  pair k = (object_of g k, slice_index ats k)

  -- the objects are those of the graph
  place_below : (k : ℕ) → Contains order k → k < length g.objects
  place_below k i = All-contains (λ k. k < length g.objects) order k places i

  pub pair_in : (k : ℕ) → k < length g.objects → Contains (located g ats order) (pair k)
  pair_in k lt = Contains-map pair order k (all k lt)

  pub located_fits : (o : NamedObject × ℕ) → Contains (located g ats order) o → size_of o.0 < 2 ^ 32
  located_fits o i = let m = map_cases pair order o i in subst (λ p. size_of p.0 < 2 ^ 32) m.2 (fits m.0 (record { name = []; slots = []; written = [] }) (place_below m.0 m.1))

  each : (o : Object) → Contains (map heap_object (located g ats order)) o → IsObject h.words o
  each o i =
      let m = map_cases heap_object (located g ats order) o i in
      subst (IsObject h.words) m.2 (is_object g ats h m.0.0 m.0.1 (located_fits m.0 m.1) (their_words m.0 m.1))

  pub stands : (o : NamedObject × ℕ) → Contains (located g ats order) o → StandsAt g ats h o.0 o.1
  stands o i =
      stands_at g ats h o.0 o.1 (located_fits o i) (their_words o i)
      (is_there h (map heap_object (located g ats order)) regions starts each (heap_object o) (Contains-map heap_object (located g ats order) o i))

  rise : Ordered (λ o p. o.1 < p.1) (located g ats order)
  rise = objects_rise (located g ats order) (subst (Ordered (λ x y. x < y)) (sym whole) (used_rise h.geometry.w 0 h.regions tops))

  their_own : AllPairs (λ a b. a ≢ b) ats
  their_own i j d lt len same =
      let first : slice_index_or ats i d ≡ slice_index ats i = get_or_default ats i d 0 (omega (arith, lt, len)) in
      let second : slice_index_or ats j d ≡ slice_index ats j = get_or_default ats j d 0 len in
      let e : i ≡ j = ordered_apart (slice_index ats) order i j (Ordered-unmap (λ (o p : NamedObject × ℕ). o.1 < p.1) pair order rise)
      (all i (omega (arith, lt, len, count))) (all j (omega (arith, len, count))) (sym first ∙ same ∙ second) in
      absurd (omega (arith, e, lt))

  others : (o : Object) → HasObject h o → Contains ats o.at
  others o has =
      let m = map_cases heap_object (located g ats order) o (no_other h (map heap_object (located g ats order)) regions starts each o has) in
      let k = map_cases pair order m.0 m.1 in
      let here : slice_index ats k.0 ≡ o.at = ap (λ p. p.1) k.2 ∙ ap (λ (q : Object). q.at) m.2 in
      subst (Contains ats) here (Contains-get_or ats k.0 0 (omega (arith, place_below k.0 k.1, count)))

  pub carried : IfSome g.sizes (λ s. h.geometry ≡ s) → h.roots ≡ map (root_value g ats) g.roots → Carries g ats h
  carried sizes roots = record {
    sizes = sizes;
    objects = zip_indexed (StandsAt g ats h) g.objects ats (record { name = []; slots = []; written = [] }) 0 count (λ k lt. stands (pair k) (pair_in k lt));
    apart = their_own;
    no_other = others;
    roots = roots;
  }

  pub listed : (names roots slots : List (ℕ × List ℕ)) → names ≡ map named_at (located g ats order) → roots ≡ stale_from g 0 (root_targets g) → slots ≡ flat_map (stale_slots g) (located g ats order) → AreListed g ats names roots slots
  listed names roots slots a b c = record {
    by_address = located g ats order;
    rising = pairs_from_ordered (λ (o p : NamedObject × ℕ). o.1 < p.1) (located g ats order) rise;
    all = λ o. (
      (λ i.
          let m = map_cases pair order o i in
          subst (Contains (zip g.objects ats)) m.2 (in_zip g.objects ats (record { name = []; slots = []; written = [] }) 0 m.0 count (place_below m.0 m.1))),
      (λ i.
          let z = zip_cases g.objects ats (record { name = []; slots = []; written = [] }) 0 o count i in
          subst (Contains (located g ats order)) z.2 (pair_in z.0 z.1)),
    );
    names = a;
    roots = b;
    slots = c;
  }

-- NAMES THAT NO OBJECT HAS

none_both : {A : Type 0} (xs ys : List A) → xs ++ ys ≡ [] → (xs ≡ []) × (ys ≡ [])
none_both [] ys e = (refl, e)
none_both (x ∷ xs) ys e = absurd (let l = ap length e in omega (arith, l))

some_there : (name : List ℕ) (n k : ℕ) (objects : List NamedObject) → position_from (λ o. bytes_eq name o.name) n objects ≡ Some k → (o : NamedObject) × Contains objects o × (o.name ≡ name)
some_there name n k [] e = absurd (let f : ⊥ = cc in f)
some_there name n k (x ∷ objects) e = at (bytes_eq name x.name) refl (λ rest. some_there name (n + 1) k objects rest)
  where
    at : (b : Bool) → bytes_eq name x.name ≡ b → (position_from (λ o. bytes_eq name o.name) (n + 1) objects ≡ Some k → (o : NamedObject) × Contains objects o × (o.name ≡ name))
        → (o : NamedObject) × Contains (x ∷ objects) o × (o.name ≡ name)
    at true t more = (x, Contains-first x objects, sym ((bytes_eq-Decides name x.name).0 t))
    at false f more =
        let r = more (sym (ap (λ b. cond b (Some n) (position_from (λ o. bytes_eq name o.name) (n + 1) objects)) f) ∙ e) in
        (r.0, Contains-later x objects r.0 r.1, r.2)

module _ (g : NamedGraph) where
  named_if : (n : ℕ) (name : List ℕ) (place : Option ℕ) → place_of name g.objects ≡ place → stale_if place n name ≡ [] → IsNamed g (Some name)
  named_if n name None e none = absurd (let l = ap length none in omega (arith, l))
  named_if n name (Some k) e none = some_there name 0 k g.objects e

  named_one : (n : ℕ) (target : Option (List ℕ)) → stale_at g n target ≡ [] → IsNamed g target
  named_one n None none = tt
  named_one n (Some name) none = named_if n name (place_of name g.objects) refl none

  named_all : (n : ℕ) (targets : List (Option (List ℕ))) → stale_from g n targets ≡ [] → All (IsNamed g) targets
  named_all n [] none = All-nil (IsNamed g)
  named_all n (target ∷ targets) none =
      let both = none_both (stale_at g n target) (stale_from g (n + 1) targets) none in
      All-cons (IsNamed g) target targets (named_one n target both.0) (named_all (n + 1) targets both.1)

  none_each : {A B : Type 0} (f : A → List B) (xs : List A) (x : A) → flat_map f xs ≡ [] → Contains xs x → f x ≡ []
  none_each f [] x none i = absurd (omega (arith, i.1))
  none_each f (y ∷ xs) x none (zero, b, e) = ap f (sym e) ∙ (none_both (f y) (flat_map f xs) none).0
  none_each f (y ∷ xs) x none (suc k, b, e) = none_each f xs x (none_both (f y) (flat_map f xs) none).1 (k, omega (arith, b), e)

  pub all_named : (ats order : List ℕ) → ((k : ℕ) → k < length g.objects → Contains order k) → stale_from g 0 (root_targets g) ≡ [] → flat_map (stale_slots g) (located g ats order) ≡ [] → AllNamed g
  all_named ats order all roots slots = record {
    roots = named_all 0 (root_targets g) roots;
    slots = λ k d lt.
        let here : (NamedObject × ℕ) = (object_of g k, slice_index ats k) in
        let i : Contains (located g ats order) here = Contains-map (λ k. (object_of g k, slice_index ats k)) order k (all k lt) in
        let one : All (IsNamed g) (object_of g k).slots = named_all (slice_index ats k + 1) (object_of g k).slots (none_each (stale_slots g) (located g ats order) here slots i) in
        subst (λ (o : NamedObject). All (IsNamed g) o.slots) (get_or_default g.objects k (record { name = []; slots = []; written = [] }) d lt) one;
  }

-- THE ENTRIES OF THE LINES are the objects

entry_sizes : (es : List Entry) (os : List NamedObject) → AllZip IsEntryOf es os → map (λ e. e.size) es ≡ map size_of os
entry_sizes [] [] all = refl
entry_sizes [] (o ∷ os) all = elim all [ ]
entry_sizes (e ∷ es) [] all = elim all [ ]
entry_sizes (e ∷ es) (o ∷ os) all = let first = all.0.size in let rest = entry_sizes es os all.1 in λ i. first i ∷ rest i

entry_slots : (es : List Entry) (os : List NamedObject) → AllZip IsEntryOf es os → map (λ e. e.slots) es ≡ map (λ o. length o.slots) os
entry_slots [] [] all = refl
entry_slots [] (o ∷ os) all = elim all [ ]
entry_slots (e ∷ es) [] all = elim all [ ]
entry_slots (e ∷ es) (o ∷ os) all = let first = all.0.slots in let rest = entry_slots es os all.1 in λ i. first i ∷ rest i

pub entry_fits : (es : List Entry) (os : List NamedObject) → AllZip IsEntryOf es os → All (λ o. size_of o < 2 ^ 32) os
entry_fits [] [] all = All-nil (λ o. size_of o < 2 ^ 32)
entry_fits [] (o ∷ os) all = elim all [ ]
entry_fits (e ∷ es) [] all = elim all [ ]
entry_fits (e ∷ es) (o ∷ os) all = All-cons (λ o. size_of o < 2 ^ 32) o os all.0.line.fits (entry_fits es os all.1)

module _ (es : List Entry) (g : NamedGraph) (entries : AllZip IsEntryOf es g.objects) (ats : List ℕ) where
  one_placed : (k : ℕ) → k < length g.objects → placed es ats k ≡ heap_object (object_of g k, slice_index ats k)
  one_placed k lt =
      let none : NamedObject = record { name = []; slots = []; written = [] } in
      let size : size_at es k ≡ size_of (object_of g k) = ap (λ l. slice_index l k) (entry_sizes es g.objects entries) ∙ get_or-map size_of g.objects k none 0 lt in
      let slots : slice_index (map (λ e. e.slots) es) k ≡ length (object_of g k).slots = ap (λ l. slice_index l k) (entry_slots es g.objects entries) ∙ get_or-map (λ o. length o.slots) g.objects k none 0 lt in
      λ i. record { at = slice_index ats k; size = size i; refs = slots i }

  pub all_placed : (order : List ℕ) → All (λ k. k < length g.objects) order → map (placed es ats) order ≡ map heap_object (located g ats order)
  all_placed [] below = refl
  all_placed (k ∷ order) below =
      let first = one_placed k (below 0 k (omega arith)) in
      let rest = all_placed order (λ j d lt. below (suc j) d (omega (arith, lt))) in
      λ i. first i ∷ rest i
