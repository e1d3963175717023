-- The cards of slots that lead into each region, slot by slot.
use Rattle.std.proofs.Common.{◌≡◌, ◌≢◌, ◌≤◌, ◌<◌, ℕ, zero, suc, ◌+◌, ◌-◌, ◌*◌, ◌/◌, Bool, true, false, not, ◌&&◌, ◌||◌, List, [], ◌∷◌, ◌++◌, map, filter, replicate, length, get_or, Contains}
use Rattle.std.proofs.Common.{set, take, All, inl, inr, arith, refl, sym, ap, subst, ◌∙◌, eqb, eqb-true, eq-eqb, ne_eqb}
use Rattle.std.specs.List.{range_with_len}
use Rattle.std.specs.List.Sorted.{IsStrictlyIncreasing}
use Rattle.std.proofs.lemmas.List.{get_or-map, get_or-take, get_or_default, length-map, length-take}
use Rattle.std.proofs.lemmas.List.Folds.{list_any-append}
use Rattle.std.proofs.lemmas.List.Kept.{AllPairs-from_increasing}
use Rattle.std.proofs.lemmas.List.FromFn.{get_or-map-range_with_len}
use Rattle.std.proofs.Math.Nat.{le-div_iff_mul-le, div-mul-le_self, div-lt_iff_lt-mul}
use Rattle.std.proofs.lemmas.List.Elements.{Contains-get_or}
use Rattle.g1_words.specs.Valid.{IsValid}
use Rattle.g1_words.proofs.Bounds.{card_below, cards_in_region}
use Rattle.g1_words.specs.Heap.{Heap, card_of, region_of}
use Rattle.g1_words.proofs.Indices.{range_bounds}
use Rattle.g1_words.proofs.Lists.{all_in, filter_same_in, none_passes}
use Rattle.g1_words.proofs.Members.{any_member, and_true, or_true, filter_member}
use Rattle.g1_words.proofs.Sound.{k_positive, w_positive}
use Rattle.g1_image.specs.Cards.{cards_where, leads_into}
use Rattle.g1_layout.proofs.Lists.{filter_more_no, filter_more_yes}
use Rattle.g1_rem.specs.Entering.{with_card}
use Rattle.g1_copy.specs.Links.{cards_by_region, is_linked, link}
-- as crates above import it
pub use Rattle.g1_words.proofs.Lists.{none_passes as none_pass}

-- ---- lists

-- one element of a table written anew
table_set : (f g : ℕ → List ℕ) (a n i : ℕ) (y : List ℕ) → i < n → y ≡ g (a + i) → ((r : ℕ) → r ≢ a + i → f r ≡ g r) → set (map f (range_with_len a n)) i y ≡ map g (range_with_len a n)
table_set f g a zero i y lt e same = absurd (omega (arith, lt))
table_set f g a (suc n) zero y lt e same =
    let here : a + 0 ≡ a = omega arith in
    let head : y ≡ g a = e ∙ ap g here in
    ap (λ z. z ∷ map f (range_with_len (a + 1) n)) head ∙ ap (λ ys. g a ∷ ys) (rest (a + 1) n (omega arith))
  where
    rest : (b m : ℕ) → a < b → map f (range_with_len b m) ≡ map g (range_with_len b m)
    rest b zero less = refl
    rest b (suc m) less = let e : f b ≡ g b = same b (λ s. omega (arith, less, s)) in ap (λ z. z ∷ map f (range_with_len (b + 1) m)) e ∙ ap (λ ys. g b ∷ ys) (rest (b + 1) m (omega (arith, less)))
table_set f g a (suc n) (suc i) y lt e same =
    let shift : a + 1 + i ≡ a + suc i = omega arith in
    let head : f a ≡ g a = same a (λ s. omega (arith, s)) in
    ap (λ z. z ∷ set (map f (range_with_len (a + 1) n)) i y) head
    ∙ ap (λ ys. g a ∷ ys) (table_set f g (a + 1) n i y (omega (arith, lt)) (e ∙ ap g (sym shift)) (λ r d. same r (λ s. d (s ∙ sym shift))))

-- two tables that agree everywhere
table_same : (f g : ℕ → List ℕ) (a n : ℕ) → ((r : ℕ) → f r ≡ g r) → map f (range_with_len a n) ≡ map g (range_with_len a n)
table_same f g a zero same = refl
table_same f g a (suc n) same = ap (λ z. z ∷ map f (range_with_len (a + 1) n)) (same a) ∙ ap (λ ys. g a ∷ ys) (table_same f g (a + 1) n same)

-- a table of empty lists
abbrev none_at : ℕ → List ℕ
none_at r = []

table_none : (a n : ℕ) → replicate n [] ≡ map none_at (range_with_len a n)
table_none a zero = refl
table_none a (suc n) = ap (λ ys. [] ∷ ys) (table_none (a + 1) n)

-- ---- the cards of one region

-- cards that pass a test that none above c passes
cards_up_to : (h : Heap) (test : ℕ → Bool) (c : ℕ) → c < h.geometry.n * h.geometry.w / h.geometry.k → ((d : ℕ) → test d ≡ true → d ≤ c) →
    cards_where h test ≡ with_card (filter test (range_with_len 0 c)) c (test c)
cards_up_to h test c lt most =
    let count : ℕ = h.geometry.n * h.geometry.w / h.geometry.k in
    let more : ℕ = count - (c + 1) in
    let whole : count ≡ c + 1 + more = omega (arith, lt) in
    ap (λ m. filter test (range_with_len 0 m)) whole ∙ behind more ∙ last (test c) refl
  where
    above : (d : ℕ) → c + 1 ≤ d → test d ≡ false
    above d le = go (test d) refl where
      go : (b : Bool) → test d ≡ b → b ≡ false
      go true e = absurd (omega (arith, most d e, le))
      go false e = refl

    behind : (m : ℕ) → filter test (range_with_len 0 (c + 1 + m)) ≡ filter test (range_with_len 0 (c + 1))
    behind zero = let e : c + 1 + 0 ≡ c + 1 = omega arith in ap (λ n. filter test (range_with_len 0 n)) e
    behind (suc m) =
        let e : c + 1 + suc m ≡ c + 1 + m + 1 = omega arith in
        ap (λ n. filter test (range_with_len 0 n)) e ∙ filter_more_no test (c + 1 + m) (above (c + 1 + m) (omega arith)) ∙ behind m

    last : (b : Bool) → test c ≡ b → filter test (range_with_len 0 (c + 1)) ≡ with_card (filter test (range_with_len 0 c)) c b
    last true e = filter_more_yes test c e
    last false e = filter_more_no test c e

-- those below c are below c
pub cards_below : (test : ℕ → Bool) (c : ℕ) → All (λ d. d < c) (filter test (range_with_len 0 c))
cards_below test c = λ k d lt. omega (
  arith,
  range_bounds 0 c (get_or (filter test (range_with_len 0 c)) k d)
      (filter_member test (range_with_len 0 c) (get_or (filter test (range_with_len 0 c)) k d) (Contains-get_or (filter test (range_with_len 0 c)) k d lt)).0,
)

-- ---- one slot more

or_false : (b : Bool) → (b || false) ≡ b
or_false true = refl
or_false false = refl

module _ (h : Heap) (before : List (ℕ × ℕ)) (p x : ℕ) where
  abbrev after : List (ℕ × ℕ)
  after = before ++ (p, x) ∷ []

  -- a card is linked as before, or by the new slot
  linked_more : (r c : ℕ) → is_linked h after r c ≡ (is_linked h before r c || (leads_into h r (link (p, x)) && eqb (card_of h p) c))
  linked_more r c =
      list_any-append (λ y. leads_into h r (link y) && eqb (card_of h y.0) c) before ((p, x) ∷ [])
      ∙ ap (λ b. is_linked h before r c || b) (or_false (leads_into h r (link (p, x)) && eqb (card_of h p) c))

  -- a card that the new slot doesn't link to a region
  unlinked : (r c : ℕ) → (leads_into h r (link (p, x)) && eqb (card_of h p) c) ≡ false → is_linked h before r c ≡ is_linked h after r c
  unlinked r c e = sym (linked_more r c ∙ ap (λ b. is_linked h before r c || b) e ∙ or_false (is_linked h before r c))

  -- the slot leads into this region alone
  leads_elsewhere : (r : ℕ) → r ≢ region_of h (x - 1) → leads_into h r (link (p, x)) ≡ false
  leads_elsewhere r d = let e = ne_eqb (region_of h (x - 1)) r (λ s. d (sym s)) in ap (λ b. b && not (eqb (region_of h p) r)) e

  -- a slot that leads into its own region leads into no other
  leads_nowhere : region_of h (x - 1) ≡ region_of h p → (r : ℕ) → leads_into h r (link (p, x)) ≡ false
  leads_nowhere e r = ap (λ z. eqb z r && not (eqb (region_of h p) r)) e ∙ clash (eqb (region_of h p) r) where
    clash : (b : Bool) → (b && not b) ≡ false
    clash true = refl
    clash false = refl

  -- a slot that leads into its own region adds no card
  pub stays : region_of h (x - 1) ≡ region_of h p → cards_by_region h before ≡ cards_by_region h after
  stays e = table_same (λ r. cards_where h (is_linked h before r)) (λ r. cards_where h (is_linked h after r)) 0 h.geometry.n
      (λ r. filter_same_in (is_linked h before r) (is_linked h after r) (range_with_len 0 (h.geometry.n * h.geometry.w / h.geometry.k))
      (λ c i. unlinked r c (ap (λ b. b && eqb (card_of h p) c) (leads_nowhere e r))))

  module _ (below : All (λ y. y.0 ≤ p) before) (some : 0 < h.geometry.k) where
    -- the cards of slots that stand no higher are no higher
    linked_most : (r c : ℕ) → is_linked h before r c ≡ true → c ≤ card_of h p
    linked_most r c e =
        let m = any_member (λ y. leads_into h r (link y) && eqb (card_of h y.0) c) before e in
        let y : ℕ × ℕ = m.0 in
        let same : card_of h y.0 ≡ c = eqb-true (card_of h y.0) c (and_true (leads_into h r (link y)) (eqb (card_of h y.0) c) m.2).1 in
        let le : y.0 ≤ p = all_in (λ (z : ℕ × ℕ). z.0 ≤ p) before y below m.1 in
        let f = div-mul-le_self y.0 h.geometry.k in
        let g : card_of h y.0 ≤ card_of h p = (le-div_iff_mul-le some).1 (omega (arith, le, f)) in
        omega (arith, same, g)

    module _ (inside : card_of h p < h.geometry.n * h.geometry.w / h.geometry.k) where
      abbrev so_far : ℕ → List ℕ
      so_far r = filter (is_linked h before r) (range_with_len 0 (card_of h p))

      -- a region's list ends with the slot's card, or below it
      pub list_before : (r : ℕ) → cards_where h (is_linked h before r) ≡ with_card (so_far r) (card_of h p) (is_linked h before r (card_of h p))
      list_before r = cards_up_to h (is_linked h before r) (card_of h p) inside (linked_most r)

      list_after : (r : ℕ) → leads_into h r (link (p, x)) ≡ true → cards_where h (is_linked h after r) ≡ with_card (so_far r) (card_of h p) true
      list_after r leads =
          let c : ℕ = card_of h p in
          let now : is_linked h after r c ≡ true = linked_more r c ∙ ap (λ b. is_linked h before r c || (b && eqb c c)) leads
          ∙ ap (λ b. is_linked h before r c || b) (eq-eqb c c refl) ∙ or_true_right (is_linked h before r c) in
          cards_up_to h (is_linked h after r) c inside most
          ∙ ap (λ ys. with_card ys c (is_linked h after r c)) (filter_same_in (is_linked h after r) (is_linked h before r) (range_with_len 0 c) (λ d i. sym (unlinked r d (lower d i))))
          ∙ ap (with_card (so_far r) c) now
        where
          or_true_right : (b : Bool) → (b || true) ≡ true
          or_true_right true = refl
          or_true_right false = refl

          lower : (d : ℕ) → Contains (range_with_len 0 (card_of h p)) d → (leads_into h r (link (p, x)) && eqb (card_of h p) d) ≡ false
          lower d i =
              let b = range_bounds 0 (card_of h p) d i in
              let e : eqb (card_of h p) d ≡ false = ne_eqb (card_of h p) d (λ s. omega (arith, s, b.1)) in
              ap (λ t. leads_into h r (link (p, x)) && t) e ∙ and_false (leads_into h r (link (p, x)))
            where
              and_false : (t : Bool) → (t && false) ≡ false
              and_false true = refl
              and_false false = refl

          most : (d : ℕ) → is_linked h after r d ≡ true → d ≤ card_of h p
          most d e = elim (or_true (is_linked h before r d) (leads_into h r (link (p, x)) && eqb (card_of h p) d) (sym (linked_more r d) ∙ e)) [
            | inl old ↦ linked_most r d old
            | inr new ↦ let same = eqb-true (card_of h p) d (and_true (leads_into h r (link (p, x))) (eqb (card_of h p) d) new).1 in omega (arith, same)
          ]

      -- a slot that leads into another region adds its card there
      pub pushed : (items : List ℕ) → region_of h (x - 1) ≢ region_of h p → region_of h (x - 1) < h.geometry.n → items ≡ with_card (so_far (region_of h (x - 1))) (card_of h p) true
          → set (cards_by_region h before) (region_of h (x - 1)) items ≡ cards_by_region h after
      pushed items apart lt e =
          let t : ℕ = region_of h (x - 1) in
          let leads : leads_into h t (link (p, x)) ≡ true =
          ap (λ b. b && not (eqb (region_of h p) t)) (eq-eqb t t refl) ∙ ap not (ne_eqb (region_of h p) t (λ s. apart (sym s))) in
          table_set (λ r. cards_where h (is_linked h before r)) (λ r. cards_where h (is_linked h after r)) 0 h.geometry.n t items lt (e
          ∙ sym (list_after t leads) ∙ ap (λ z. cards_where h (is_linked h after z)) (here t))
          (λ r d. filter_same_in (is_linked h before r) (is_linked h after r) (range_with_len 0 (h.geometry.n * h.geometry.w / h.geometry.k))
          (λ c i. unlinked r c (ap (λ b. b && eqb (card_of h p) c) (leads_elsewhere r (λ s. d (s ∙ here (region_of h (x - 1))))))))
        where
          here : (z : ℕ) → z ≡ 0 + z
          here z = omega arith

-- before the first slot the lists are empty
pub linked_none : (h : Heap) → replicate h.geometry.n [] ≡ cards_by_region h []
linked_none h = table_none 0 h.geometry.n ∙ table_same none_at (λ r. cards_where h (is_linked h [] r)) 0 h.geometry.n
    (λ r. sym (none_passes (is_linked h [] r) (range_with_len 0 (h.geometry.n * h.geometry.w / h.geometry.k)) (λ c i. refl)))

-- the list of a region
pub list_of : (h : Heap) (xs : List (ℕ × ℕ)) (r : ℕ) → r < h.geometry.n → get_or (cards_by_region h xs) r [] ≡ cards_where h (is_linked h xs r)
list_of h xs r lt = get_or-map-range_with_len (λ r. cards_where h (is_linked h xs r)) 0 h.geometry.n r r [] lt (omega arith)

-- the card of a slot is one of the heap's
card_inside : (h : Heap) (p : ℕ) → IsValid h → p < h.geometry.n * h.geometry.w → card_of h p < h.geometry.n * h.geometry.w / h.geometry.k
card_inside h p valid lt =
    let m = cards_in_region h.geometry.w h.geometry.k h.geometry.n valid.limits in
    card_below h.geometry.w h.geometry.k m.0 h.geometry.n p (k_positive h valid) m.1 lt

-- the region of what a word names
pub target_region : (h : Heap) (x : ℕ) → IsValid h → 0 < x → x ≤ h.geometry.n * h.geometry.w → region_of h (x - 1) < h.geometry.n
target_region h x valid some le =
    (div-lt_iff_lt-mul (w_positive h valid)).1 (omega (arith, some, le))

-- the lists after a slot that leads into another region, as they are written
pub pushed_at : (h : Heap) (before : List (ℕ × ℕ)) (p x r card : ℕ) (lists : List (List ℕ)) (old new : List ℕ) → IsValid h → p < h.geometry.n * h.geometry.w → 0 < x → x ≤ h.geometry.n * h.geometry.w
    → r ≡ region_of h (x - 1) → card ≡ card_of h p → region_of h (x - 1) ≢ region_of h p → All (λ y. y.0 ≤ p) before → lists ≡ cards_by_region h before → old ≡ get_or lists r []
    → ((cards : List ℕ) (b : Bool) → All (λ c. c < card) cards → old ≡ with_card cards card b → new ≡ with_card cards card true)
    → set lists r new ≡ cards_by_region h (before ++ (p, x) ∷ [])
pushed_at h before p x r card lists old new valid here some le er ec apart below e o push =
    let t : ℕ = region_of h (x - 1) in
    let lt : t < h.geometry.n = target_region h x valid some le in
    let k = k_positive h valid in
    let inside = card_inside h p valid here in
    let first : List ℕ = filter (is_linked h before t) (range_with_len 0 (card_of h p)) in
    let there : Bool = is_linked h before t (card_of h p) in
    let read : old ≡ with_card first card there =
    o ∙ (λ i. get_or (e i) (er i) []) ∙ list_of h before t lt ∙ list_before h before p x below k inside t ∙ ap (λ z. with_card first z there) (sym ec) in
    let now : new ≡ with_card first (card_of h p) true =
    push first there (subst (λ z. All (λ d. d < z) first) (sym ec) (cards_below (is_linked h before t) (card_of h p))) read ∙ ap (λ z. with_card first z true) ec in
    (λ i. set (e i) (er i) new) ∙ pushed h before p x below k inside new apart lt now

-- the slots before one of a rising list don't stand above it
pub before_below : (xs : List (ℕ × ℕ)) (i : ℕ) → IsStrictlyIncreasing (map (λ x. x.0) xs) → i < length xs → All (λ y. y.0 ≤ (get_or xs i (0, 0)).0) (take i xs)
before_below xs i rising lt = λ k d less.
    let below : k < i = omega (arith, less, length-take i xs) in
    let count = length-map xs (λ (x : ℕ × ℕ). x.0) in
    let r = AllPairs-from_increasing (map (λ x. x.0) xs) rising k i 0 below (omega (arith, lt, count)) in
    let a = get_or-map (λ (x : ℕ × ℕ). x.0) xs k (0, 0) 0 (omega (arith, below, lt)) in
    let b = get_or-map (λ (x : ℕ × ℕ). x.0) xs i (0, 0) 0 lt in
    let same : get_or (take i xs) k d ≡ get_or xs k (0, 0) = get_or-take i xs k d below ∙ get_or_default xs k d (0, 0) (omega (arith, below, lt)) in
    let at : (get_or (take i xs) k d).0 ≡ (get_or xs k (0, 0)).0 = ap (λ (x : ℕ × ℕ). x.0) same in
    omega (arith, r, a, b, at)
