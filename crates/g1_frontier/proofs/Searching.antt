-- A search from round to round.
use Rattle.std.proofs.Common.{◌≡◌, ◌≢◌, ℕ, suc, ◌+◌, ◌*◌, ◌<◌, ◌≤◌, ◌^◌, inl, inr, ◌⊎◌, List, [], ◌∷◌, ◌++◌, map, flat_map, length, take, drop, sum_by, refl, sym, ap, subst, ◌∙◌, zero}
use Rattle.std.proofs.Common.{arith, All, Contains, length-append, get_or, take-append-drop}
use Rattle.std.specs.List.{range_with_len}
use Rattle.std.proofs.Math.Nat.{div-le_self, mul-le-mul_right}
use Rattle.std.proofs.lemmas.Bool.Decides.{Decides-eqb}
use Rattle.std.proofs.lemmas.List.{take_more, map-append, length-map}
use Rattle.std.proofs.lemmas.List.Sums.{sum_by-cons, sum_by-append}
use Rattle.std.proofs.lemmas.Map.Made.{IsDistinct-from_AllPairs}
use Rattle.std.proofs.lemmas.Map.Steps.{length-le_from_distinct_below}
use Rattle.std.proofs.lemmas.List.Elements.{All-append, All-nil}
use Rattle.std.proofs.lemmas.List.FromFn.{length-range_with_len}
use Rattle.g1_words.specs.Geometry.{most_words}
use Rattle.g1_claim.specs.declared.rule.Offer.{Offer}
use Rattle.g1_claim.specs.Claims.{TableView, IsSeatOf}
use Rattle.g1_words.specs.Heap.{Heap, slots, object_at, objects}
use Rattle.g1_words.specs.declared.object.Object.{Object}
use Rattle.g1_words.specs.Survivors.{seeds, children, firsts}
use Rattle.g1_words.specs.Valid.{IsValid}
use Rattle.g1_words.proofs.Computed.{range_above, range_below}
use Rattle.g1_words.proofs.Firsts.{Distinct, Distinct-firsts}
use Rattle.g1_words.proofs.Members.{flat_map_cases, Contains-from_has}
use Rattle.g1_words.proofs.OneToOne.{reached_object}
use Rattle.g1_words.proofs.Ordered.{Ordered, Ordered-from_pairs, pairs_from_ordered}
use Rattle.g1_words.proofs.Rising.{Ordered-flat_map, Ordered-range, IsBefore, objects_apart}
use Rattle.g1_words.proofs.Sound.{sound}
use Rattle.g1_words.proofs.Lists.{Distinct-differ, range_push, all_in, all_from_in}
use Rattle.g1_rem.specs.Starts.{card_count}
use Rattle.g1_frontier.specs.declared.item.Item.{Item}
use Rattle.g1_frontier.specs.declared.item.Item.TheVariants.{Root, Card, Object as ObjectItem}
use Rattle.g1_frontier.specs.declared.survivors.Search.{Search}
use Rattle.g1_frontier.specs.Window.{AreRegions, AreCards, AreOutside, LeadIn}
use Rattle.g1_frontier.specs.Items.{IsItem, AreRanks, all_pairs, root_items, first_items, object_items, slot_count}
use Rattle.g1_frontier.specs.Round.{Rises, AreAbove, AddsOffers, winners}
use Rattle.g1_frontier.specs.Search.{IsSearchBy}
use Rattle.g1_frontier.proofs.Assembly.{RankLess}
use Rattle.g1_frontier.proofs.Finding.{found_on, claimed_on, ranks_on}
use Rattle.g1_frontier.proofs.Marks.{firsts_again}
use Rattle.g1_frontier.proofs.Names.{object_in_words}
use Rattle.g1_frontier.proofs.Claimed.{all_begin}
use Rattle.g1_frontier.specs.Numbers.{BeginsIn, IsNumbering}
use Rattle.g1_frontier.proofs.Ranks.{objects_range, objects_rise, objects_name, objects_some, objects_count, first_rise, first_range, first_name}
use Rattle.g1_frontier.proofs.Scopes.{all_map, rising_few, Contains-drop}
use Rattle.g1_frontier.proofs.Turns.{length_rest, take_front, begins, begins_reached, turn, turn_reached}

-- ---- lists of items

pub roots_more : (n : ℕ) → root_items n ++ Root n ∷ [] ≡ root_items (n + 1)
roots_more n =
    let e : suc n ≡ n + 1 = omega arith in
    let f : 0 + n ≡ n = omega arith in
    ap (λ m. root_items n ++ Root m ∷ []) (sym f) ∙ sym (map-append Root (range_with_len 0 n) ((0 + n) ∷ [])) ∙ ap (map Root) (range_push 0 n) ∙ ap root_items e

items_snoc : (h : Heap) (base : ℕ) (all_of : List ℕ) (a : ℕ) → object_items h base (all_of ++ a ∷ []) ≡ object_items h base all_of ++ ObjectItem a (base + sum_by (slot_count h) all_of) ∷ []
items_snoc h base [] a = ap (λ b. ObjectItem a b ∷ []) (let e : base ≡ base + 0 = omega arith in e)
items_snoc h base (x ∷ all_of) a =
    ap (λ l. ObjectItem x base ∷ l)
    (items_snoc h (base + slot_count h x) all_of a
    ∙ ap (λ b. object_items h (base + slot_count h x) all_of ++ ObjectItem a b ∷ []) (let s = sum_by-cons (slot_count h) x all_of in
    let e : base + slot_count h x + sum_by (slot_count h) all_of ≡ base + sum_by (slot_count h) (x ∷ all_of) = omega (arith, s) in e))

pub total_more : (h : Heap) (all_of : List ℕ) (i : ℕ) → i < length all_of → sum_by (slot_count h) (take (i + 1) all_of) ≡ sum_by (slot_count h) (take i all_of) + slot_count h (get_or all_of i 0)
total_more h all_of i lt =
    let a : ℕ = get_or all_of i 0 in
    ap (sum_by (slot_count h)) (take_more all_of i 0 lt) ∙ sum_by-append (slot_count h) (take i all_of) (a ∷ [])
    ∙ ap (λ n. sum_by (slot_count h) (take i all_of) + n) (let s = sum_by-cons (slot_count h) a [] in let e : sum_by (slot_count h) (a ∷ []) ≡ slot_count h a = omega (arith, s) in e)

pub items_more : (h : Heap) (base : ℕ) (all_of : List ℕ) (i : ℕ) → i < length all_of →
    object_items h base (take i all_of) ++ ObjectItem (get_or all_of i 0) (base + sum_by (slot_count h) (take i all_of)) ∷ [] ≡ object_items h base (take (i + 1) all_of)
items_more h base all_of i lt = sym (items_snoc h base (take i all_of) (get_or all_of i 0)) ∙ ap (object_items h base) (sym (take_more all_of i 0 lt))

-- ---- slots are few

-- different numbers below a bound are no more than it
pub distinct_few : (all_of : List ℕ) (bound : ℕ) → Distinct all_of → ((a : ℕ) → Contains all_of a → a < bound) → length all_of ≤ bound
distinct_few all_of bound d low =
    length-le_from_distinct_below all_of bound
    (IsDistinct-from_AllPairs Decides-eqb all_of (pairs_from_ordered (λ x y. x ≢ y) all_of (Distinct-differ all_of d))) (λ q e. low q (Contains-from_has all_of q e))

either : {A : Type 0} (R : A → A → Type 0) (xs : List A) (x y : A) → Ordered R xs → Contains xs x → Contains xs y → (x ≡ y) ⊎ (R x y ⊎ R y x)
either R [] x y o i j = absurd (omega (arith, i.1))
either R (z ∷ zs) x y o (zero, b, e) (zero, lt, f) = inl (sym e ∙ f)
either R (z ∷ zs) x y o (zero, b, e) (suc k, lt, eq) = inr (inl (subst (λ w. R w y) e (o.0 y (k, omega (arith, lt), eq))))
either R (z ∷ zs) x y o (suc k, b, e) (zero, lt, f) = inr (inr (subst (λ w. R w x) f (o.0 x (k, omega (arith, b), e))))
either R (z ∷ zs) x y o (suc k, b, e) (suc n, lt, eq) = either R zs x y o.1 (k, omega (arith, b), e) (n, omega (arith, lt), eq)

range_differs : (xs : List ℕ) → Ordered (λ x y. x < y) xs → Ordered (λ x y. x ≢ y) xs
range_differs [] o = tt
range_differs (x ∷ xs) o = ((λ y i e. let lt = o.0 y i in omega (arith, lt, e)), range_differs xs o.1)

module _ (h : Heap) (valid : IsValid h) where
  abbrev slots_at : ℕ → List ℕ
  slots_at a = slots (object_at h a)

  total_is : (all_of : List ℕ) → length (flat_map (λ a. slots (object_at h a)) all_of) ≡ sum_by (slot_count h) all_of
  total_is [] = refl
  total_is (a ∷ all_of) =
      let l = length-append (slots (object_at h a)) (flat_map (λ a. slots (object_at h a)) all_of) in
      let r = length-range_with_len (a + 1) (slot_count h a) in
      let s = sum_by-cons (slot_count h) a all_of in
      let t = total_is all_of in omega (arith, l, r, s, t)

  module _ (all_of : List ℕ) (distinct : Distinct all_of) (are : (a : ℕ) → Contains all_of a → Contains (objects h) (object_at h a)) where
    slots_differ : (a b p q : ℕ) → Contains all_of a → Contains all_of b → a ≢ b → Contains (slots_at a) p → Contains (slots_at b) q → p ≢ q
    slots_differ a b p q i j ne k l e =
        let ap_low = range_above (a + 1) (slot_count h a) p k in
        let ap_high = range_below (a + 1) (slot_count h a) p k in
        let bq_low = range_above (b + 1) (slot_count h b) q l in
        let bq_high = range_below (b + 1) (slot_count h b) q l in
        let fa = (sound h valid).slots_fit (object_at h a) (are a i) in
        let fb = (sound h valid).slots_fit (object_at h b) (are b j) in
        elim (either IsBefore (objects h) (object_at h a) (object_at h b) (Ordered-from_pairs IsBefore (objects h) (objects_apart h valid))
        (are a i) (are b j)) [
          | inl same ↦ ne (ap (λ (o : Object). o.at) same)
          | inr (inl before) ↦ omega (arith, ap_high, bq_low, fa, before, e)
          | inr (inr before) ↦ omega (arith, ap_low, bq_high, fb, before, e)
        ]

    pub slot_total : sum_by (slot_count h) all_of ≤ length h.words
    slot_total =
        let all : List ℕ = flat_map (λ a. slots (object_at h a)) all_of in
        let apart : Ordered (λ x y. x ≢ y) (flat_map (λ a. slots (object_at h a)) all_of) =
        Ordered-flat_map (λ x y. x ≢ y) (λ x y. x ≢ y) (λ a. slots (object_at h a)) all_of (Distinct-differ all_of distinct)
        (λ a i. range_differs (slots (object_at h a)) (Ordered-range (a + 1) (slot_count h a))) (λ a b p q i j ne k l. slots_differ a b p q i j ne k l) in
        let few = length-le_from_distinct_below all (length h.words) (IsDistinct-from_AllPairs Decides-eqb all (pairs_from_ordered (λ x y. x ≢ y) all apart))
        (λ q e. let m = flat_map_cases (λ a. slots (object_at h a)) all_of q (Contains-from_has all q e) in
        let high = range_below (m.0 + 1) (slot_count h m.0) q m.2 in
        let fit = object_in_words h valid m.0 (are m.0 m.1) in omega (arith, high, fit.1)) in
        let t = total_is all_of in omega (arith, few, t)

    pub object_total : length all_of ≤ length h.words
    object_total = distinct_few all_of (length h.words) distinct (λ q i. (object_in_words h valid q (are q i)).0)

  -- the window's words are no more than the heap's
  pub window_few : (window : List ℕ) → AreRegions h window → length window * h.geometry.w ≤ most_words
  window_few window regions =
      let few = rising_few h.geometry.n window regions in
      let m : length window * h.geometry.w ≤ h.geometry.n * h.geometry.w = mul-le-mul_right h.geometry.w few in
      omega (arith, m, valid.limits.words_most)

  -- ---- the first round

  module _ (window cards : List ℕ) (regions : AreRegions h window) (rising : AreCards h cards) (outside : AreOutside h window cards) (lead_in : LeadIn h window cards) where
    abbrev firsts_of : List Item
    firsts_of = first_items (length h.roots) cards

    in_first : (P : Item → Type 0) → ((n : ℕ) → n < length h.roots → P (Root n)) → ((c : ℕ) → Contains cards c → P (Card c (length h.roots))) → All P (first_items (length h.roots) cards)
    in_first P f g =
        All-append P (root_items (length h.roots)) (map (λ c. Card c (length h.roots)) cards)
        (all_map P Root (range_with_len 0 (length h.roots)) (λ n i. f n (range_below_zero n i)))
        (all_map P (λ c. Card c (length h.roots)) cards g)
      where
        range_below_zero : (n : ℕ) → Contains (range_with_len 0 (length h.roots)) n → n < length h.roots
        range_below_zero n i = let k = range_below 0 (length h.roots) n i in omega (arith, k)

    pub first_are_items : All (IsItem h) (first_items (length h.roots) cards)
    first_are_items = in_first (IsItem h) (λ n lt. lt) (λ c i. all_in (λ x. x < card_count h) cards c rising.below i)

    pub first_few : length (first_items (length h.roots) cards) < 2 ^ 32
    first_few =
        let len = length-append (root_items (length h.roots)) (map (λ c. Card c (length h.roots)) cards) in
        let a : length (root_items (length h.roots)) ≡ length h.roots = length-map (range_with_len 0 (length h.roots)) Root ∙ length-range_with_len 0 (length h.roots) in
        let b : length (map (λ c. Card c (length h.roots)) cards) ≡ length cards = length-map cards (λ c. Card c (length h.roots)) in
        let few = rising_few (card_count h) cards rising in
        let most = div-le_self (h.geometry.n * h.geometry.w) h.geometry.k in
        omega (arith, len, a, b, few, most, valid.root_count, valid.limits.words_most)

    abbrev ps : List (ℕ × ℕ)
    ps = all_pairs h window (first_items (length h.roots) cards)

    pub first_rises : Rises (all_pairs h window (first_items (length h.roots) cards))
    first_rises = pairs_from_ordered RankLess (all_pairs h window (first_items (length h.roots) cards)) (first_rise h window valid cards rising outside lead_in)

    small : (q : ℕ × ℕ) → Contains ps q → q.0 < length h.roots + length h.words
    small q i = first_range h window valid cards rising outside lead_in q i

    pub first_ranks : AreRanks (all_pairs h window (first_items (length h.roots) cards))
    first_ranks = all_from_in (λ q. q.0 < 2 ^ 32) (all_pairs h window (first_items (length h.roots) cards)) (λ q i. let k = small q i in
        omega (arith, k, valid.root_count, valid.word_count, valid.limits.words_most))

    pub first_search : (count : ℕ) (number : ℕ → ℕ) → IsNumbering h window count number → (s : Search) → IsSeatOf s.claims s.seat → s.seat.hand.shares ≡ 64 → s.claims.places ≡ count →
        AddsOffers number (all_pairs h window (first_items (length h.roots) cards)) [] s.seat.hand.offers
        → s.found.items ≡ map (λ q. q.1) (winners number s.seat.hand.offers (all_pairs h window (first_items (length h.roots) cards))) →
        s.from ≡ 0 → s.next ≡ length h.roots + length h.words → IsSearchBy h window count number s
    first_search count number numbers s seat whole places adds found from next =
        let apart : (a b : ℕ) → BeginsIn h window a → BeginsIn h window b → number b ≡ number a → b ≡ a = λ a b t u e. numbers.apart a b t u e in
        let rise : Ordered RankLess ps = first_rise h window valid cards rising outside lead_in in
        let within : (q : ℕ × ℕ) → Contains ps q → BeginsIn h window q.1 = λ q i. all_begin h window (first_items (length h.roots) cards) q valid first_are_items i in
        let low : (q : ℕ × ℕ) → Contains ps q → q.0 < 18446744073709551615 = λ q i. let k = small q i in omega (arith, k, valid.root_count, valid.word_count, valid.limits.words_most) in
        let on = found_on number (BeginsIn h window) apart ps [] [] s.seat.hand.offers 0 adds rise low within (All-nil (λ (o : Offer). o.rank < 0)) (λ q i. omega arith) (λ a t. refl) refl in
        let named : map (λ (q : ℕ × ℕ). q.1) ps ≡ seeds h window = first_name h window valid cards rising outside lead_in in
        let e : s.found.items ≡ firsts ([] ++ seeds h window) = found ∙ on ∙ ap (λ l. firsts ([] ++ l)) named in
        let none : take s.from s.found.items ≡ [] = ap (λ n. take n s.found.items) from in record {
          seat = seat;
          whole = whole;
          places = places;
          claimed = claimed_on number (BeginsIn h window) apart ps [] [] s.seat.hand.offers 0 adds rise low within
              (All-nil (λ (o : Offer). o.rank < 0)) (λ q i. omega arith) (λ a t. refl) s.found.items (found ∙ on);
          ranks = ranks_on number (BeginsIn h window) apart ps [] [] s.seat.hand.offers 0 adds rise low within
              (All-nil (λ (o : Offer). o.rank < 0)) (λ q i. omega arith) (λ a t. refl) s.next (omega arith) (λ q i. let k = small q i in omega (arith, k, next));
          next = let z : sum_by (slot_count h) (take s.from s.found.items) ≡ 0 = ap (sum_by (slot_count h)) none in omega (arith, next, z);
          from = omega (arith, from);
          in_order = begins (seeds h window) (children h window) s.found.items e ∙ ap (λ l. firsts (seeds h window ++ flat_map (children h window) l)) (sym none);
          reached = begins_reached (seeds h window) (children h window) s.found.items e;
        }

  -- ---- a further round

  module _ (window : List ℕ) (regions : AreRegions h window) {count : ℕ} {number : ℕ → ℕ} (s : Search) (r : IsSearchBy h window count number s) where
    abbrev found : List ℕ
    found = s.found.items

    abbrev rest : List ℕ
    rest = drop s.from s.found.items

    pub distinct : Distinct s.found.items
    distinct = subst Distinct (sym r.in_order) (Distinct-firsts (seeds h window ++ flat_map (children h window) (take s.from s.found.items)))

    once : s.found.items ≡ firsts s.found.items
    once = r.in_order ∙ sym (firsts_again (seeds h window ++ flat_map (children h window) (take s.from s.found.items))) ∙ ap firsts (sym r.in_order)

    pub found_objects : (a : ℕ) → Contains s.found.items a → Contains (objects h) (object_at h a)
    found_objects a i = reached_object h window (sound h valid) a (r.reached a i)

    pub found_few : length s.found.items ≤ length h.words
    found_few = object_total s.found.items distinct found_objects

    total_parts : sum_by (slot_count h) (take s.from s.found.items) + sum_by (slot_count h) (drop s.from s.found.items) ≡ sum_by (slot_count h) s.found.items
    total_parts = sym (sum_by-append (slot_count h) (take s.from s.found.items) (drop s.from s.found.items)) ∙ ap (sum_by (slot_count h)) (take-append-drop s.from s.found.items)

    pub rest_objects : All (λ a. Contains (objects h) (object_at h a)) (drop s.from s.found.items)
    rest_objects = all_from_in (λ a. Contains (objects h) (object_at h a)) (drop s.from s.found.items) (λ a i. found_objects a (Contains-drop s.from s.found.items a i))

    pub ranks_fit : s.next + sum_by (slot_count h) (drop s.from s.found.items) < 2 ^ 32
    ranks_fit =
        let t = slot_total s.found.items distinct found_objects in
        let p = total_parts in
        let n = r.next in omega (arith, t, p, n, valid.root_count, valid.word_count, valid.limits.words_most)

    abbrev items : List Item
    items = object_items h s.next (drop s.from s.found.items)

    abbrev qs : List (ℕ × ℕ)
    qs = all_pairs h window (object_items h s.next (drop s.from s.found.items))

    pub rest_are_items : All (IsItem h) (object_items h s.next (drop s.from s.found.items))
    rest_are_items = all_from_in (IsItem h) items (λ i k. let m = objects_some h window s.next rest i k in subst (IsItem h) m.3 (found_objects m.0 (Contains-drop s.from found m.0 m.2)))

    pub rest_few : length (object_items h s.next (drop s.from s.found.items)) < 2 ^ 32
    rest_few =
        let c = objects_count h window s.next rest in
        let l = length_rest s.from found in
        let f = found_few in omega (arith, c, l, f, valid.word_count, valid.limits.words_most)

    pub rest_rises : Rises (all_pairs h window (object_items h s.next (drop s.from s.found.items)))
    rest_rises = pairs_from_ordered RankLess qs (objects_rise h window s.next rest)

    range_of : (q : ℕ × ℕ) → Contains qs q → (s.next ≤ q.0) × (q.0 < s.next + sum_by (slot_count h) (drop s.from s.found.items))
    range_of q i = objects_range h window s.next rest q i

    pub rest_ranks : AreRanks (all_pairs h window (object_items h s.next (drop s.from s.found.items)))
    rest_ranks = all_from_in (λ q. q.0 < 2 ^ 32) qs (λ q i. let k = (range_of q i).1 in let f = ranks_fit in omega (arith, k, f))

    pub rest_above : AreAbove s.seat.hand.offers (all_pairs h window (object_items h s.next (drop s.from s.found.items)))
    rest_above =
        all_from_in (λ (o : Offer). All (λ (q : ℕ × ℕ). o.rank < q.0) qs) s.seat.hand.offers
        (λ o i. all_from_in (λ (q : ℕ × ℕ). o.rank < q.0) qs (λ q j. let a = all_in (λ (o : Offer). o.rank < s.next) s.seat.hand.offers o r.ranks i in let b = (range_of q j).0 in omega (arith, a, b)))

    pub next_search : IsNumbering h window count number → (t : Search) → IsSeatOf t.claims t.seat → t.seat.hand.shares ≡ 64 → t.claims ≡ s.claims →
        AddsOffers number (all_pairs h window (object_items h s.next (drop s.from s.found.items))) s.seat.hand.offers t.seat.hand.offers
        → t.found.items ≡ s.found.items ++ map (λ q. q.1) (winners number t.seat.hand.offers
        (all_pairs h window (object_items h s.next (drop s.from s.found.items)))) → t.from ≡ length s.found.items
        → t.next ≡ s.next + sum_by (slot_count h) (drop s.from s.found.items) → IsSearchBy h window count number t
    next_search numbers t seat whole same adds more from next =
        let apart : (a b : ℕ) → BeginsIn h window a → BeginsIn h window b → number b ≡ number a → b ≡ a = λ a b t u e. numbers.apart a b t u e in
        let rise : Ordered RankLess qs = objects_rise h window s.next rest in
        let within : (q : ℕ × ℕ) → Contains qs q → BeginsIn h window q.1 = λ q i. all_begin h window (object_items h s.next rest) q valid rest_are_items i in
        let low : (q : ℕ × ℕ) → Contains qs q → q.0 < 18446744073709551615 = λ q i. let k = (range_of q i).1 in let f = ranks_fit in omega (arith, k, f) in
        let above : (q : ℕ × ℕ) → Contains qs q → s.next ≤ q.0 = λ q i. (range_of q i).0 in
        let on = found_on number (BeginsIn h window) apart qs found s.seat.hand.offers t.seat.hand.offers s.next adds rise low within r.ranks above r.claimed once in
        let named : map (λ (q : ℕ × ℕ). q.1) qs ≡ flat_map (children h window) rest = objects_name h window s.next rest in
        let e : t.found.items ≡ firsts (found ++ flat_map (children h window) rest) = more ∙ on ∙ ap (λ l. firsts (found ++ l)) named in
        let front : take (length found) t.found.items ≡ found = ap (take (length found)) more ∙ take_front found (map (λ q. q.1) (winners number t.seat.hand.offers qs)) in
        let long : length t.found.items ≡ length found + length (map (λ (q : ℕ × ℕ). q.1) (winners number t.seat.hand.offers qs)) =
        ap length more ∙ length-append found (map (λ q. q.1) (winners number t.seat.hand.offers qs)) in record {
          seat = seat;
          whole = whole;
          places = ap (λ (c : TableView). c.places) same ∙ r.places;
          claimed = claimed_on number (BeginsIn h window) apart qs found s.seat.hand.offers t.seat.hand.offers s.next adds rise low within r.ranks above r.claimed t.found.items (more ∙ on);
          ranks = ranks_on number (BeginsIn h window) apart qs found s.seat.hand.offers t.seat.hand.offers s.next adds rise low within r.ranks
              above r.claimed t.next (omega (arith, next)) (λ q i. let k = (range_of q i).1 in omega (arith, k, next));
          next =
              let z : sum_by (slot_count h) (take t.from t.found.items) ≡ sum_by (slot_count h) found =
              ap (λ n. sum_by (slot_count h) (take n t.found.items)) from ∙ ap (sum_by (slot_count h)) front in
              let p = total_parts in
              let n = r.next in omega (arith, next, z, p, n);
          from = omega (arith, from, long, t.found.ok);
          in_order = turn (seeds h window) (children h window) found t.found.items s.from r.in_order e
              ∙ ap (λ n. firsts (seeds h window ++ flat_map (children h window) (take n t.found.items))) (sym from);
          reached = turn_reached (seeds h window) (children h window) found t.found.items s.from r.reached e;
        }
