-- The ranks of a round, and what it names.
use Rattle.std.proofs.Common.{◌≡◌, ℕ, zero, suc, ◌+◌, ◌-◌, ◌<◌, ◌≤◌, ◌%◌, ◌^◌, inl, inr, Bool, true, false, cond, List, [], ◌∷◌, ◌++◌, map, filter, flat_map, length, get_or, sum_by, arith, Contains}
use Rattle.std.proofs.Common.{refl, sym, ap, subst, ◌∙◌, append_assoc, length-append, eqb}
use Rattle.std.specs.List.{range_with_len}
use Rattle.std.proofs.lemmas.List.Sums.{sum_by-cons}
use Rattle.std.proofs.lemmas.Grind.{flat_map-append}
use Rattle.std.proofs.lemmas.List.Kept.{AllPairs-from_increasing}
use Rattle.std.proofs.lemmas.List.Folds.{flat_map-map}
use Rattle.std.proofs.lemmas.List.{map-append}
use Rattle.std.proofs.lemmas.List.Elements.{Contains-append_cases}
use Rattle.g1_words.specs.Heap.{Heap, word, slots, object_at, card_of}
use Rattle.g1_words.specs.References.{named}
use Rattle.g1_words.specs.Survivors.{in_set, children, seeds}
use Rattle.g1_words.specs.Valid.{IsValid}
use Rattle.g1_words.proofs.Members.{map_cases, flat_map_cases, Contains-later, none_contains}
use Rattle.g1_words.proofs.Ordered.{Ordered, Ordered-from_pairs}
use Rattle.g1_words.proofs.Rising.{Ordered-append, Ordered-flat_map, Ordered-filter, Ordered-range}
use Rattle.g1_words.proofs.Computed.{range_above, range_below}
use Rattle.g1_rem.specs.Slots.{all_slots, slots_on}
use Rattle.g1_frontier.specs.declared.item.Item.{Item}
use Rattle.g1_frontier.specs.declared.item.Item.TheVariants.{Root, Card, Object}
use Rattle.g1_frontier.specs.Window.{AreCards, AreOutside, LeadIn}
use Rattle.g1_frontier.specs.Items.{aims, pairs, all_pairs, root_items, first_items, object_items, slot_count}
use Rattle.g1_frontier.proofs.Assembly.{RankLess}
use Rattle.g1_frontier.proofs.Names.{slot_in_words}
use Rattle.g1_frontier.proofs.Seeds.{filter_flat, map_flat, seeds_named, slots_ordered, apart}

module _ (h : Heap) (window : List ℕ) where
  -- ---- one word

  aims_rank : (rank x : ℕ) (q : ℕ × ℕ) → Contains (aims h window rank x) q → q.0 ≡ rank
  aims_rank rank x q i = let m = map_cases (λ a. (rank, a)) (filter (in_set h window) (named x)) q i in sym (ap (λ (r : ℕ × ℕ). r.0) m.2)

  aims_ordered_at : (rank a : ℕ) (b : Bool) → Ordered RankLess (map (λ a. (rank, a)) (cond b (a ∷ []) []))
  aims_ordered_at rank a true = ((λ y i. absurd (none_contains y i)), tt)
  aims_ordered_at rank a false = tt

  aims_ordered : (rank x : ℕ) → Ordered RankLess (aims h window rank x)
  aims_ordered rank zero = tt
  aims_ordered rank (suc a) = aims_ordered_at rank a (in_set h window a)

  addresses_back : (rank : ℕ) (xs : List ℕ) → map (λ (q : ℕ × ℕ). q.1) (map (λ a. (rank, a)) xs) ≡ xs
  addresses_back rank [] = refl
  addresses_back rank (x ∷ xs) = ap (λ l. x ∷ l) (addresses_back rank xs)

  -- ---- some slots, with a rank for each

  module _ (rank : ℕ → ℕ) (word_at : ℕ → ℕ) where
    abbrev aimed : List ℕ → List (ℕ × ℕ)
    aimed xs = flat_map (λ p. aims h window (rank p) (word_at p)) xs

    pub aimed_names : (xs : List ℕ) → map (λ (q : ℕ × ℕ). q.1) (flat_map (λ p. aims h window (rank p) (word_at p)) xs) ≡ filter (in_set h window) (flat_map (λ p. named (word_at p)) xs)
    aimed_names xs =
        map_flat (λ (q : ℕ × ℕ). q.1) (λ p. aims h window (rank p) (word_at p)) xs
        ∙ same xs
        ∙ sym (filter_flat (in_set h window) (λ p. named (word_at p)) xs)
      where
        same : (ys : List ℕ) → flat_map (λ p. map (λ (q : ℕ × ℕ). q.1) (aims h window (rank p) (word_at p))) ys ≡ flat_map (λ p. filter (in_set h window) (named (word_at p))) ys
        same [] = refl
        same (y ∷ ys) = λ i. addresses_back (rank y) (filter (in_set h window) (named (word_at y))) i ++ same ys i

    aimed_rank : (xs : List ℕ) (q : ℕ × ℕ) → Contains (flat_map (λ p. aims h window (rank p) (word_at p)) xs) q → (p : ℕ) × Contains xs p × (q.0 ≡ rank p)
    aimed_rank xs q i = let m = flat_map_cases (λ p. aims h window (rank p) (word_at p)) xs q i in (m.0, m.1, aims_rank (rank m.0) (word_at m.0) q m.2)

    aimed_ordered : (xs : List ℕ) → Ordered (λ x y. rank x < rank y) xs → Ordered RankLess (flat_map (λ p. aims h window (rank p) (word_at p)) xs)
    aimed_ordered xs o =
        Ordered-flat_map (λ x y. rank x < rank y) RankLess (λ p. aims h window (rank p) (word_at p)) xs o (λ p i. aims_ordered (rank p) (word_at p))
        (λ p r a b i j lt k l. omega (arith, lt, aims_rank (rank p) (word_at p) a k, aims_rank (rank r) (word_at r) b l))

  -- ---- objects

  range_ranks : (base a n : ℕ) (xs : List ℕ) → ((p : ℕ) → Contains xs p → a ≤ p) → Ordered (λ x y. x < y) xs → Ordered (λ x y. base + (x - a) < base + (y - a)) xs
  range_ranks base a n [] low o = tt
  range_ranks base a n (x ∷ xs) low o = ((λ y i. omega (arith, o.0 y i, low x (zero, omega arith, refl))), range_ranks base a n xs (λ p i. low p (suc i.0, omega (arith, i.1), i.2)) o.1)

  object_ordered : (a base : ℕ) → Ordered RankLess (pairs h window (Object a base))
  object_ordered a base =
      aimed_ordered (λ p. base + (p - (a + 1))) (word h) (slots (object_at h a))
      (range_ranks base (a + 1) (word h a % 2 ^ 32) (slots (object_at h a)) (λ p i. range_above (a + 1) (word h a % 2 ^ 32) p i) (Ordered-range (a + 1) (word h a % 2 ^ 32)))

  object_range : (a base : ℕ) (q : ℕ × ℕ) → Contains (pairs h window (Object a base)) q → (base ≤ q.0) × (q.0 < base + slot_count h a)
  object_range a base q i =
      let m = aimed_rank (λ p. base + (p - (a + 1))) (word h) (slots (object_at h a)) q i in
      let low = range_above (a + 1) (word h a % 2 ^ 32) m.0 m.1 in
      let high = range_below (a + 1) (word h a % 2 ^ 32) m.0 m.1 in
      let e = m.2 in
      (omega (arith, e), omega (arith, e, low, high))

  pub objects_range : (base : ℕ) (all_of : List ℕ) (q : ℕ × ℕ) → Contains (all_pairs h window (object_items h base all_of)) q → (base ≤ q.0) × (q.0 < base + sum_by (slot_count h) all_of)
  objects_range base [] q i = absurd (omega (arith, i.1))
  objects_range base (a ∷ rest) q i = elim (Contains-append_cases (pairs h window (Object a base)) (all_pairs h window (object_items h (base + slot_count h a) rest)) q i) [
    | inl k ↦ let r = object_range a base q k in let s = sum_by-cons (slot_count h) a rest in (r.0, omega (arith, r.1, s))
    | inr k ↦ let r = objects_range (base + slot_count h a) rest q k in let s = sum_by-cons (slot_count h) a rest in (omega (arith, r.0), omega (arith, r.1, s))
  ]

  pub objects_rise : (base : ℕ) (all_of : List ℕ) → Ordered RankLess (all_pairs h window (object_items h base all_of))
  objects_rise base [] = tt
  objects_rise base (a ∷ rest) =
      Ordered-append RankLess (pairs h window (Object a base)) (all_pairs h window (object_items h (base + slot_count h a) rest)) (object_ordered a base) (objects_rise (base + slot_count h a) rest)
      (λ q r i j. omega (arith, (object_range a base q i).1, (objects_range (base + slot_count h a) rest r j).0))

  pub objects_name : (base : ℕ) (all_of : List ℕ) → map (λ (q : ℕ × ℕ). q.1) (all_pairs h window (object_items h base all_of)) ≡ flat_map (children h window) all_of
  objects_name base [] = refl
  objects_name base (a ∷ rest) =
      map-append (λ (q : ℕ × ℕ). q.1) (pairs h window (Object a base)) (all_pairs h window (object_items h (base + slot_count h a) rest))
      ∙ (λ i. aimed_names (λ p. base + (p - (a + 1))) (word h) (slots (object_at h a)) i ++ objects_name (base + slot_count h a) rest i)

  pub objects_some : (base : ℕ) (all_of : List ℕ) (i : Item) → Contains (object_items h base all_of) i → (a : ℕ) × (b : ℕ) × Contains all_of a × (Object a b ≡ i)
  objects_some base [] i k = absurd (omega (arith, k.1))
  objects_some base (a ∷ rest) i (zero, b, e) = (a, base, (zero, omega arith, refl), e)
  objects_some base (a ∷ rest) i (suc j, b, e) = let m = objects_some (base + slot_count h a) rest i (j, omega (arith, b), e) in (m.0, m.1, Contains-later a rest m.0 m.2, m.3)

  pub objects_count : (base : ℕ) (all_of : List ℕ) → length (object_items h base all_of) ≡ length all_of
  objects_count base [] = refl
  objects_count base (a ∷ rest) = ap suc (objects_count (base + slot_count h a) rest)

  -- ---- roots

  roots_pairs : (ns : List ℕ) → all_pairs h window (map Root ns) ≡ flat_map (λ n. aims h window n (get_or h.roots n 0)) ns
  roots_pairs ns = flat_map-map (pairs h window) Root ns

  read_range : (f : ℕ → List ℕ) (pre xs : List ℕ) → flat_map (λ n. f (get_or (pre ++ xs) n 0)) (range_with_len (length pre) (length xs)) ≡ flat_map f xs
  read_range f pre [] = refl
  read_range f pre (x ∷ xs) =
      (λ i. f (at pre x xs i) ++ (ap (λ (l : List ℕ). flat_map (λ n. f (get_or l n 0)) (range_with_len (length pre + 1) (length xs)))
      (sym (append_assoc pre (x ∷ []) xs)) ∙ ap (λ m. flat_map (λ n. f (get_or ((pre ++ x ∷ []) ++ xs) n 0)) (range_with_len m (length xs)))
      (sym (length-append pre (x ∷ []))) ∙ read_range f (pre ++ x ∷ []) xs) i)
    where
      at : (ys : List ℕ) (y : ℕ) (zs : List ℕ) → get_or (ys ++ y ∷ zs) (length ys) 0 ≡ y
      at [] y zs = refl
      at (w ∷ ys) y zs = at ys y zs

  pub roots_name : map (λ (q : ℕ × ℕ). q.1) (all_pairs h window (root_items (length h.roots))) ≡ filter (in_set h window) (flat_map named h.roots)
  roots_name =
      ap (map (λ (q : ℕ × ℕ). q.1)) (roots_pairs (range_with_len 0 (length h.roots)))
      ∙ aimed_names (λ n. n) (λ n. get_or h.roots n 0) (range_with_len 0 (length h.roots))
      ∙ ap (filter (in_set h window)) (read_range named [] h.roots)

  roots_rank : (n : ℕ) (q : ℕ × ℕ) → Contains (all_pairs h window (root_items n)) q → q.0 < n
  roots_rank n q i =
      let m = aimed_rank (λ n. n) (λ n. get_or h.roots n 0) (range_with_len 0 n) q (subst (λ l. Contains l q) (roots_pairs (range_with_len 0 n)) i) in
      let k = range_below 0 n m.0 m.1 in let e = m.2 in omega (arith, k, e)

  roots_rise : (n : ℕ) → Ordered RankLess (all_pairs h window (root_items n))
  roots_rise n = subst (Ordered RankLess) (sym (roots_pairs (range_with_len 0 n))) (aimed_ordered (λ n. n) (λ n. get_or h.roots n 0) (range_with_len 0 n) (Ordered-range 0 n))

  -- ---- cards

  module _ (valid : IsValid h) (cards : List ℕ) (rising : AreCards h cards) (outside : AreOutside h window cards) (lead_in : LeadIn h window cards) (base : ℕ) where
    cards_pairs : all_pairs h window (map (λ c. Card c base) cards) ≡ flat_map (λ c. flat_map (λ p. aims h window (base + p) (word h p)) (slots_on h c)) cards
    cards_pairs = flat_map-map (pairs h window) (λ c. Card c base) cards

    card_rank : (c : ℕ) (q : ℕ × ℕ) → Contains (flat_map (λ p. aims h window (base + p) (word h p)) (slots_on h c)) q → (p : ℕ) × Contains (slots_on h c) p × (q.0 ≡ base + p)
    card_rank c q i = aimed_rank (λ p. base + p) (word h) (slots_on h c) q i

    shifted : (xs : List ℕ) → Ordered (λ x y. x < y) xs → Ordered (λ x y. base + x < base + y) xs
    shifted [] o = tt
    shifted (x ∷ xs) o = ((λ y i. omega (arith, o.0 y i)), shifted xs o.1)

    cards_rise : Ordered RankLess (all_pairs h window (map (λ c. Card c base) cards))
    cards_rise =
        subst (Ordered RankLess) (sym cards_pairs)
        (Ordered-flat_map (λ x y. x < y) RankLess (λ c. flat_map (λ p. aims h window (base + p) (word h p)) (slots_on h c)) cards
        (Ordered-from_pairs (λ x y. x < y) cards (AllPairs-from_increasing cards rising.rise))
        (λ c i. aimed_ordered (λ p. base + p) (word h) (slots_on h c) (shifted (slots_on h c)
        (Ordered-filter (λ x y. x < y) (λ p. eqb (card_of h p) c) (all_slots h) (slots_ordered h valid))))
        (λ c d a b i j lt k l.
        let m = card_rank c a k in
        let n = card_rank d b l in
        let less = apart h valid c d m.0 n.0 lt m.1 n.1 in
        let e = m.2 in let f = n.2 in omega (arith, less, e, f)))

    cards_range : (q : ℕ × ℕ) → Contains (all_pairs h window (map (λ c. Card c base) cards)) q → (base ≤ q.0) × (q.0 < base + length h.words)
    cards_range q i =
        let m = flat_map_cases (λ c. flat_map (λ p. aims h window (base + p) (word h p)) (slots_on h c)) cards q (subst (λ l. Contains l q) cards_pairs i) in
        let n = card_rank m.0 q m.2 in
        let low = slot_in_words h valid m.0 n.0 n.1 in
        let e = n.2 in (omega (arith, e), omega (arith, e, low))

    cards_name : map (λ (q : ℕ × ℕ). q.1) (all_pairs h window (map (λ c. Card c base) cards)) ≡ flat_map (λ c. filter (in_set h window) (flat_map (λ p. named (word h p)) (slots_on h c))) cards
    cards_name = ap (map (λ (q : ℕ × ℕ). q.1)) cards_pairs ∙ map_flat (λ (q : ℕ × ℕ). q.1) (λ c. flat_map (λ p. aims h window (base + p) (word h p)) (slots_on h c)) cards ∙ same cards
      where
        same : (cs : List ℕ) → flat_map (λ c. map (λ (q : ℕ × ℕ). q.1) (flat_map (λ p. aims h window (base + p) (word h p)) (slots_on h c))) cs
            ≡ flat_map (λ c. filter (in_set h window) (flat_map (λ p. named (word h p)) (slots_on h c))) cs
        same [] = refl
        same (c ∷ cs) = λ i. aimed_names (λ p. base + p) (word h) (slots_on h c) i ++ same cs i

  -- ---- the first round

  module _ (valid : IsValid h) (cards : List ℕ) (rising : AreCards h cards) (outside : AreOutside h window cards) (lead_in : LeadIn h window cards) where
    split : all_pairs h window (first_items (length h.roots) cards) ≡ all_pairs h window (root_items (length h.roots)) ++ all_pairs h window (map (λ c. Card c (length h.roots)) cards)
    split = flat_map-append (pairs h window) (root_items (length h.roots)) (map (λ c. Card c (length h.roots)) cards)

    pub first_rise : Ordered RankLess (all_pairs h window (first_items (length h.roots) cards))
    first_rise =
        subst (Ordered RankLess) (sym split)
        (Ordered-append RankLess (all_pairs h window (root_items (length h.roots))) (all_pairs h window (map (λ c. Card c (length h.roots)) cards))
        (roots_rise (length h.roots)) (cards_rise valid cards rising outside lead_in (length h.roots))
        (λ q r i j. let a = roots_rank (length h.roots) q i in let b = cards_range valid cards rising outside lead_in (length h.roots) r j in omega (arith, a, b.0)))

    pub first_range : (q : ℕ × ℕ) → Contains (all_pairs h window (first_items (length h.roots) cards)) q → q.0 < length h.roots + length h.words
    first_range q i = elim (Contains-append_cases (all_pairs h window (root_items (length h.roots))) (all_pairs h window (map (λ c. Card c (length h.roots)) cards)) q
        (subst (λ l. Contains l q) split i)) [
          | inl k ↦ let a = roots_rank (length h.roots) q k in omega (arith, a)
          | inr k ↦ (cards_range valid cards rising outside lead_in (length h.roots) q k).1
        ]

    pub first_name : map (λ (q : ℕ × ℕ). q.1) (all_pairs h window (first_items (length h.roots) cards)) ≡ seeds h window
    first_name =
        ap (map (λ (q : ℕ × ℕ). q.1)) split
        ∙ map-append (λ (q : ℕ × ℕ). q.1) (all_pairs h window (root_items (length h.roots))) (all_pairs h window (map (λ c. Card c (length h.roots)) cards))
        ∙ (λ i. roots_name i ++ cards_name valid cards rising outside lead_in (length h.roots) i)
        ∙ seeds_named h window cards valid rising outside lead_in
