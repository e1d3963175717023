-- The dirty cards that lead into each region, card by card and slot by slot.
use Rattle.std.proofs.Common.{◌≡◌, ◌≢◌, ◌≤◌, ◌<◌, ℕ, zero, suc, ◌+◌, ◌-◌, inl, inr, Bool, true, false, not, cond, ◌&&◌, ◌||◌, List, [], ◌∷◌, ◌++◌, length, slice_index, slice_index_or}
use Rattle.std.proofs.Common.{replicate, map, take, drop, filter, All, Contains, arith, refl, sym, ap, subst, ◌∙◌, eqb, eqb-true, eq-eqb, append-nil, get_or-set_same}
use Rattle.std.proofs.Common.{get_or-set_other}
use Rattle.std.specs.Prelude.{Some, None, Result, Ok, Err, IfOk}
use Rattle.std.specs.Global.{Vec}
use Rattle.std.proofs.lemmas.List.Kept.{IsStrictlyIncreasing-filter}
use Rattle.g1_words.specs.declared.fault.Fault.{Fault}
use Rattle.std.specs.List.{list_any, range_with_len, AllZip}
use Rattle.std.specs.List.Sorted.{IsStrictlyIncreasing}
use Rattle.std.proofs.Math.ListN.{set, length-set}
use Rattle.std.proofs.Math.ListN.{drop_of_length-le}
use Rattle.std.proofs.lemmas.Bool.{cases_lt, ne_eqb, and_parts, or_cases}
use Rattle.std.proofs.lemmas.List.{get_or_push, take_all, length-append, length-replicate, get_or-replicate}
use Rattle.std.proofs.lemmas.List.Elements.{filter-append, Contains-get_or}
use Rattle.std.proofs.lemmas.List.Folds.{list_any-append}
use Rattle.std.proofs.Math.Nat.{mul-le-mul_right}
use Rattle.g1_words.specs.declared.object.Object.{Object}
use Rattle.g1_words.specs.Heap.{Heap, word, objects, regions, slots, region_of, card_of}
use Rattle.g1_words.specs.Lists.{has}
use Rattle.g1_words.specs.Valid.{IsReference, IsValid}
use Rattle.g1_words.specs.References.{named, refs_at}
use Rattle.g1_words.proofs.Members.{Contains-filter, filter_member, flat_map_cases, has_from_contains, Contains-from_has}
use Rattle.g1_words.proofs.Sound.{sound}
use Rattle.g1_words.proofs.Computed.{Contains-range, contains_has, range_above, range_below}
use Rattle.g1_words.proofs.Lists.{all_from_in, all_in}
use Rattle.g1_words.proofs.Logic.{same_test}
use Rattle.g1_image.specs.Image.{Image, IsImage, IsUsedCard, remembered_of}
use Rattle.g1_image.specs.Cards.{leads_into, is_exact, is_refined, refined}
use Rattle.g1_rem.specs.Starts.{card_count}
use Rattle.g1_rem.specs.Slots.{slots_on, all_slots}
use Rattle.g1_rem.specs.Leads.{IsLedInto}
use Rattle.g1_rem.specs.Entering.{enters, with_card, IsGrown, AreEntering, IsRefining, AreRefining}
use Rattle.g1_rem.specs.Merging.{IsMerged}
use Rattle.g1_rem.proofs.Rising.{Rises-range, Rises-filter, Rises-one, increasing-Rises}
use Rattle.g1_rem.proofs.Order.{object_fits}
use Rattle.g1_rem.proofs.Marks.{cards_fill}
use Rattle.g1_rem.proofs.Exact.{exact_by_slots}

-- ---- one slot

-- what the slot's reference tells of a region
pub leads_none : (h : Heap) (p r : ℕ) → IsLedInto h p None → list_any (leads_into h r) (refs_at h p) ≡ false
leads_none h p r none = by_word (word h p) refl where
  by_word : (x : ℕ) → word h p ≡ x → list_any (leads_into h r) (refs_at h p) ≡ false
  by_word zero e = ap (λ x. list_any (leads_into h r) (map (λ a. record { slot = p; target = a }) (named x))) e
  by_word (suc a) e =
      ap (λ x. list_any (leads_into h r) (map (λ a. record { slot = p; target = a }) (named x))) e
      ∙ ap (λ z. (eqb (region_of h a) r && not (eqb z r)) || false) (none a e) ∙ clash (eqb (region_of h a) r)
    where
      clash : (b : Bool) → ((b && not b) || false) ≡ false
      clash true = refl
      clash false = refl

-- a slot that leads into a region counts for that region alone
pub leads_some : (h : Heap) (p t r : ℕ) → IsLedInto h p (Some t) → list_any (leads_into h r) (refs_at h p) ≡ eqb t r
leads_some h p t r (a, named_is, into, out, there) =
    ap (λ x. list_any (leads_into h r) (map (λ a. record { slot = p; target = a }) (named x))) named_is
    ∙ ap (λ z. (eqb z r && not (eqb (region_of h p) r)) || false) into ∙ one (eqb t r) refl
  where
    one : (b : Bool) → eqb t r ≡ b → ((b && not (eqb (region_of h p) r)) || false) ≡ b
    one false e = refl
    one true e =
        let apart : eqb (region_of h p) r ≡ false = ne_eqb (region_of h p) r (λ f. out (f ∙ sym (eqb-true t r e))) in
        ap (λ z. (true && not z) || false) apart

-- one slot more
enters_more : (h : Heap) (r p : ℕ) (ps : List ℕ) (b : Bool) → list_any (leads_into h r) (refs_at h p) ≡ b → enters h r (ps ++ p ∷ []) ≡ (enters h r ps || (b || false))
enters_more h r p ps b e = list_any-append (λ p. list_any (leads_into h r) (refs_at h p)) ps (p ∷ []) ∙ ap (λ z. enters h r ps || (z || false)) e

-- one more slot that does not count
or_none : (b : Bool) → (b || (false || false)) ≡ b
or_none true = refl
or_none false = refl

-- one more slot that counts
or_one : (b : Bool) → (b || (true || false)) ≡ true
or_one true = refl
or_one false = refl

-- a slot that doesn't lead into the region
pub enters_pass : (h : Heap) (r p : ℕ) (ps : List ℕ) → enters h r ps ≡ false → list_any (leads_into h r) (refs_at h p) ≡ false → enters h r (ps ++ p ∷ []) ≡ false
enters_pass h r p ps none e = enters_more h r p ps false e ∙ or_none (enters h r ps) ∙ none

-- one of the slots leads into the region
pub enters_found : (h : Heap) (r p : ℕ) (ps : List ℕ) → Contains ps p → list_any (leads_into h r) (refs_at h p) ≡ true → enters h r ps ≡ true
enters_found h r p [] i e = absurd (omega (arith, i.1))
enters_found h r p (q ∷ qs) (zero, b, same) e = ap (λ z. z || enters h r qs) (ap (λ x. list_any (leads_into h r) (refs_at h x)) same ∙ e)
enters_found h r p (q ∷ qs) (suc k, lt, eq) e = ap (λ z. list_any (leads_into h r) (refs_at h q) || z) (enters_found h r p qs (k, omega (arith, lt), eq) e) ∙ or_last (list_any (leads_into h r) (refs_at h q)) where
  or_last : (b : Bool) → (b || true) ≡ true
  or_last true = refl
  or_last false = refl

-- before the first slot nothing is added
pub grown_start : (h : Heap) (card : ℕ) (lists : List (List ℕ)) → IsGrown h card [] lists lists
grown_start h card lists = record { one_each = refl; each = λ r lt. refl }

-- a slot that leads nowhere
pub grown_pass : (h : Heap) (card p : ℕ) (ps : List ℕ) (old new : List (List ℕ)) → IsGrown h card ps old new → IsLedInto h p None → IsGrown h card (ps ++ p ∷ []) old new
grown_pass h card p ps old new g none = record {
  one_each = g.one_each;
  each = λ r lt.
      let e : enters h r (ps ++ p ∷ []) ≡ enters h r ps = enters_more h r p ps false (leads_none h p r none) ∙ or_none (enters h r ps) in
      g.each r lt ∙ ap (λ b. with_card (slice_index_or old r []) card b) (sym e);
}

-- a slot that leads into a region
pub grown_push : (h : Heap) (card p t : ℕ) (ps items : List ℕ) (old mid : List (List ℕ)) → IsGrown h card ps old mid → IsLedInto h p (Some t) → t < length old
    → items ≡ with_card (slice_index_or old t []) card true → IsGrown h card (ps ++ p ∷ []) old (set mid t items)
grown_push h card p t ps items old mid g led lt pushed = record {
  one_each = length-set mid t items ∙ g.one_each;
  each = λ r lt'. at r lt' (eqb t r) refl;
} where
  at : (r : ℕ) → r < length old → (b : Bool) → eqb t r ≡ b → slice_index_or (set mid t items) r [] ≡ with_card (slice_index_or old r []) card (enters h r (ps ++ p ∷ []))
  at r lt' true e =
      let same : t ≡ r = eqb-true t r e in
      let more : enters h r (ps ++ p ∷ []) ≡ true = enters_more h r p ps true (leads_some h p t r led ∙ e) ∙ or_one (enters h r ps) in
      let now : slice_index_or (set mid t items) t [] ≡ items = get_or-set_same mid t items [] (omega (arith, lt, g.one_each)) in
      ap (λ z. slice_index_or (set mid t items) z []) (sym same) ∙ now ∙ pushed ∙ ap (λ z. with_card (slice_index_or old z []) card true) same
      ∙ ap (λ b. with_card (slice_index_or old r []) card b) (sym more)
  at r lt' false e =
      let less : enters h r (ps ++ p ∷ []) ≡ enters h r ps = enters_more h r p ps false (leads_some h p t r led ∙ e) ∙ or_none (enters h r ps) in
      let other : r ≢ t = λ f. apart (sym f) e in
      get_or-set_other mid t r items [] other ∙ g.each r lt' ∙ ap (λ b. with_card (slice_index_or old r []) card b) (sym less)
    where
      apart : t ≡ r → eqb t r ≡ false → ⊥
      apart f e = let g : eqb t r ≡ true = eqb_same t r f in cc
        where
          eqb_same : (x y : ℕ) → x ≡ y → eqb x y ≡ true
          eqb_same x y e = eq-eqb x y e

-- ---- one card at the end of a list

-- the card stands at the end already
pub once_there : (before xs : List ℕ) (card : ℕ) (b : Bool) → All (λ c. c < card) before → xs ≡ with_card before card b → 0 < length xs →
    slice_index xs (length xs - 1) ≡ card → xs ≡ with_card before card true
once_there before xs card true below e some last = e
once_there before xs card false below e some last =
    let lt = below (length xs - 1) 0 (omega (arith, some, ap length e)) in
    let at = ap (λ l. slice_index l (length xs - 1)) e in
    absurd (omega (arith, lt, at, last))

-- the card is added at the end
pub once_pushed : (before xs : List ℕ) (card : ℕ) (b : Bool) → xs ≡ with_card before card b → (0 < length xs → slice_index xs (length xs - 1) ≡ card → ⊥) → xs ++ card ∷ [] ≡ with_card before card true
once_pushed before xs card false e never = ap (λ l. l ++ card ∷ []) e
once_pushed before xs card true e never =
    let len : length xs ≡ length before + 1 = ap length e ∙ length-append before (card ∷ []) in
    let at : slice_index xs (length xs - 1) ≡ card = ap (λ l. slice_index l (length xs - 1)) e ∙ get_or_push before card 0 (length xs - 1) (omega (arith, len)) in
    absurd (never (omega (arith, len)) at)

-- ---- one card

-- before the first card the lists are empty
pub entering_start : (h : Heap) (lists : List (List ℕ)) → lists ≡ replicate h.geometry.n [] → AreEntering h [] lists
entering_start h lists e = record {
  one_each = ap length e ∙ length-replicate h.geometry.n [];
  each = λ r lt. ap (λ l. slice_index_or l r []) e ∙ get_or-replicate h.geometry.n r [] [] lt;
}

-- all cards so far are below the next
pub entering_below : (h : Heap) (ds : List ℕ) (lists : List (List ℕ)) (card : ℕ) → AreEntering h ds lists → All (λ c. c < card) ds → (r : ℕ) →
    r < h.geometry.n → All (λ c. c < card) (slice_index_or lists r [])
entering_below h ds lists card a below r lt =
    subst (All (λ c. c < card)) (sym (a.each r lt)) (all_from_in (λ c. c < card) (filter (is_exact h r) ds) (λ c i. all_in (λ c. c < card) ds c below (filter_member (is_exact h r) ds c i).0))

-- a list with a card, as two lists
one_card : (before : List ℕ) (card : ℕ) (b : Bool) → with_card before card b ≡ before ++ cond b (card ∷ []) []
one_card before card true = refl
one_card before card false = sym (append-nil before)

-- one card more, told by the slots on it
pub entering_step : (h : Heap) (ds : List ℕ) (card : ℕ) (old new : List (List ℕ)) → AreEntering h ds old → IsGrown h card (slots_on h card) old new → AreEntering h (ds ++ card ∷ []) new
entering_step h ds card old new a g = record {
  one_each = g.one_each ∙ a.one_each;
  each = λ r lt.
      g.each r (omega (arith, lt, a.one_each)) ∙ ap (λ l. with_card l card (enters h r (slots_on h card))) (a.each r lt)
      ∙ ap (λ b. with_card (filter (is_exact h r) ds) card b) (sym (exact_by_slots h r card)) ∙ one_card (filter (is_exact h r) ds) card (is_exact h r card)
      ∙ sym (filter-append (is_exact h r) ds (card ∷ []));
}

-- what the slots on a card hold can be read
pub slot_good : (h : Heap) (card p : ℕ) → IsValid h → Contains (slots_on h card) p → (p < length h.words) × IsReference h (slice_index h.words p)
slot_good h card p valid c =
    let m = filter_member (λ p. eqb (card_of h p) card) (all_slots h) p c in
    let q = flat_map_cases slots (objects h) p m.0 in
    let o : Object = q.0 in
    let mine : Contains (objects h) o = q.1 in
    let fit = object_fits h valid o mine in
    let from = range_above (o.at + 1) o.refs p q.2 in
    let to = range_below (o.at + 1) o.refs p q.2 in
    let has = contains_has h o valid.shaped mine in
    (omega (arith, fit, to, (sound h valid).slots_fit o q.1, valid.word_count), valid.slots o p has (omega (arith, from), omega (arith, to)))

-- so can what one of some slots holds, where each can
pub slot_read : (h : Heap) (ps : List ℕ) (k : ℕ) → ((p : ℕ) → Contains ps p → (p < length h.words) × IsReference h (slice_index h.words p)) → k < length ps
    → (slice_index ps k < length h.words) × IsReference h (slice_index h.words (slice_index ps k))
slot_read h ps k each lt = each (slice_index ps k) (Contains-get_or ps k 0 lt)

-- ---- the refined set

-- the members of a filter are those that pass
has_filter : (p : ℕ → Bool) (xs : List ℕ) (x : ℕ) → has (filter p xs) x ≡ (has xs x && p x)
has_filter p xs x = same_test (has (filter p xs) x) (has xs x && p x)
    (λ e. let m = filter_member p xs x (Contains-from_has (filter p xs) x e) in both (has xs x) (p x) (has_from_contains xs x m.0) m.1)
    (λ e. let b = and_parts (has xs x) (p x) e in has_from_contains (filter p xs) x (Contains-filter p xs x (Contains-from_has xs x b.0) b.1))
  where
    both : (a b : Bool) → a ≡ true → b ≡ true → (a && b) ≡ true
    both true b e f = f
    both false b e f = e

-- a used card is one of the heap's
pub card_inside : (h : Heap) (c : ℕ) → IsValid h → IsUsedCard h c → c < card_count h
card_inside h c valid used = elim (cases_lt c (card_count h)) [
  | inl lt ↦ lt
  | inr ge ↦ absurd (omega (arith, used.in_heap, cards_fill h valid, mul-le-mul_right h.geometry.k ge))
]

-- a refined card is one of the heap's
refined_inside : (i : Image) (r c : ℕ) → IsImage i → r < i.heap.geometry.n → is_refined i r c ≡ true → c < card_count i.heap
refined_inside i r c valid lt e = elim (or_cases (has (remembered_of i r) c) (has i.log c && is_exact i.heap r c) e) [
  | inl f ↦ card_inside i.heap c valid.heap (in_set (Contains-from_has (remembered_of i r) c f))
  | inr f ↦ card_inside i.heap c valid.heap (all_in (IsUsedCard i.heap) i.log c valid.log.used (Contains-from_has i.log c (and_parts (has i.log c) (is_exact i.heap r c) f).0))
] where
  in_set : Contains (remembered_of i r) c → IsUsedCard i.heap c
  in_set k = all_in (IsUsedCard i.heap) (remembered_of i r) c (λ j d lt'. ((valid.remembered r lt).elsewhere j d lt').0) k

-- the one rising list with these members is the refined set
pub refined_is : (i : Image) (r : ℕ) (zs : List ℕ) → IsImage i → r < i.heap.geometry.n → IsStrictlyIncreasing zs → ((c : ℕ) → has zs c ≡ is_refined i r c) → zs ≡ refined i r
refined_is i r zs valid lt rising members =
    Rises-one 0 0 zs (refined i r) (increasing-Rises zs 0 rising (λ lt'. omega arith))
    (Rises-filter (is_refined i r) 0 (range_with_len 0 (card_count i.heap)) (Rises-range 0 (card_count i.heap)))
    (λ c m.
    let e : is_refined i r c ≡ true = sym (members c) ∙ has_from_contains zs c m in
    Contains-filter (is_refined i r) (range_with_len 0 (card_count i.heap)) c (Contains-range 0 (card_count i.heap) c (omega arith) (omega (arith, refined_inside i r c valid lt e))) e)
    (λ c m.
    let e = (filter_member (is_refined i r) (range_with_len 0 (card_count i.heap)) c m).1 in
    Contains-from_has zs c (members c ∙ e))

-- ---- what was lent

-- a vector whose elements were lent whole and written
pub lent_back : {A : Type 0} (len : ℕ) (now new items : List A) → now ≡ items → length new ≡ length now → length now ≡ len → take len (new ++ drop (length new) items) ≡ new
lent_back len now new items e same f =
    let all : length items ≤ length new = omega (arith, same, ap length e) in
    let none : drop (length new) items ≡ [] = drop_of_length-le items all in
    ap (λ l. take len (new ++ l)) none ∙ ap (take len) (append-nil new) ∙ take_all len new (omega (arith, same, f))

-- ---- all regions

-- the lists that were made are those that refine the sets
pub refining_all : (i : Image) (dirty : List ℕ) (lists : List (List ℕ)) → IsStrictlyIncreasing dirty → ((c : ℕ) → has dirty c ≡ has i.log c) → AreEntering i.heap dirty lists → AreRefining i lists
refining_all i dirty lists rising same a = record {
  one_each = a.one_each;
  each = λ r lt. subst (IsRefining i r) (sym (a.each r lt)) (record {
    rising = IsStrictlyIncreasing-filter (is_exact i.heap r) dirty rising;
    members = λ c. has_filter (is_exact i.heap r) dirty c ∙ ap (λ b. b && is_exact i.heap r c) (same c);
  });
}

-- a merged set is the refined one
pub refined_ok : (i : Image) (r : ℕ) (set entering : List ℕ) (answer : Result (Vec ℕ) Fault) → IsImage i → r < i.heap.geometry.n → set ≡ remembered_of i r → IsRefining i r entering
    → IfOk answer (λ v. IsMerged set entering v.items) → IfOk answer (λ v. v.items ≡ refined i r)
refined_ok i r set entering (Ok v) valid lt e new ok =
    refined_is i r v.items valid lt ok.rising (λ c. ok.members c ∙ ap (λ l. has l c || has entering c) e ∙ ap (λ b. has (remembered_of i r) c || b) (new.members c))
refined_ok i r set entering (Err fault) valid lt e new ok = tt

-- where each list is the refined set of its region
all_refined : (i : Image) (rs : List ℕ) (ys : List (Vec ℕ)) → AllZip (λ r y. y.items ≡ refined i r) rs ys → map (λ s. s.items) ys ≡ map (refined i) rs
all_refined i [] [] z = refl
all_refined i [] (y ∷ ys) z = absurd z
all_refined i (r ∷ rs) [] z = absurd z
all_refined i (r ∷ rs) (y ∷ ys) z = let rest = all_refined i rs ys z.1 in λ t. z.0 t ∷ rest t

-- the same of the answer for all regions
pub refined_each : (i : Image) (n : ℕ) (answer : Result (Vec (Vec ℕ)) Fault) → n ≡ i.heap.geometry.n → IfOk answer (λ v. AllZip (λ r y. y.items ≡ refined i r) (range_with_len 0 n) v.items)
    → IfOk answer (λ v. map (λ s. s.items) v.items ≡ map (refined i) (regions i.heap))
refined_each i n (Ok v) e z = all_refined i (range_with_len 0 n) v.items z ∙ ap (λ k. map (refined i) (range_with_len 0 k)) e
refined_each i n (Err fault) e z = tt
