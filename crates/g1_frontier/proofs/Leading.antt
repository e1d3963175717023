-- The refined sets of a covered image lead into a window.
use Rattle.std.proofs.lemmas.List.{length-map}
use Rattle.std.proofs.lemmas.List.FromFn.{length-range_with_len, get_or-range_with_len}
use Rattle.std.proofs.Common.{zero, suc, ◌+◌, length, map, get_or, ◌≡◌, ◌≢◌, ◌<◌, ℕ, ◌*◌, ◌/◌, inl, inr, false, List, [], ◌∷◌, Contains, arith, refl, sym, ap, subst, ◌∙◌}
use Rattle.std.proofs.lemmas.Bool.{false≢true, false_from_ne_true}
use Rattle.g1_words.specs.Heap.{Heap, card_of, region_of, regions}
use Rattle.g1_words.specs.Lists.{has}
use Rattle.g1_words.specs.References.{Ref, refs}
use Rattle.g1_words.specs.Survivors.{in_set}
use Rattle.g1_words.proofs.Bounds.{cards_in_region, card_in_region}
use Rattle.g1_words.proofs.Computed.{range_below}
use Rattle.g1_words.proofs.Members.{filter_member, Contains-from_has}
use Rattle.g1_words.proofs.Lists.{all_in, all_from_in}
use Rattle.g1_image.specs.Image.{Image, IsImage, remembered_of, region_of_card}
use Rattle.g1_image.specs.Cards.{refined, is_refined, Covered}
use Rattle.g1_image.proofs.Covers.{cards_rise, exact_tells, refined_tells, covered_tells}
use Rattle.g1_rem.specs.Starts.{card_count}
use Rattle.g1_frontier.specs.Laws.{AreRefinedOf, RefinedLeadIn, RefinedLeadsIn}
use Rattle.g1_frontier.specs.Window.{AreCards, AreOutside, LeadIn}
use Rattle.g1_frontier.proofs.Marks.{one_member, only_one}

module _ (i : Image) (good : IsImage i) where
  -- a card of a slot lies in the slot's region
  card_home : (p : ℕ) → card_of i.heap p * i.heap.geometry.k / i.heap.geometry.w ≡ region_of i.heap p
  card_home p =
      let l = good.heap.limits in
      let m = cards_in_region i.heap.geometry.w i.heap.geometry.k i.heap.geometry.n l in
      card_in_region i.heap.geometry.w i.heap.geometry.k m.0 p (omega (arith, l.k_least)) m.1

  -- a covered reference from outside lies on a card of the refined set
  on_refined : Covered i → (e : Ref) → Contains (refs i.heap) e → region_of i.heap e.target < i.heap.geometry.n →
      region_of i.heap e.slot ≢ region_of i.heap e.target → Contains (refined i (region_of i.heap e.target)) (card_of i.heap e.slot)
  on_refined covered e c lt d = elim ((covered_tells i).0 covered e c) [
    | inl same ↦ absurd (d same)
    | inr (inl k) ↦ (refined_tells i good (region_of i.heap e.target) (card_of i.heap e.slot) lt).1 (inl k)
    | inr (inr k) ↦ (refined_tells i good (region_of i.heap e.target) (card_of i.heap e.slot) lt).1
        (inr (k, (exact_tells i.heap good.heap (region_of i.heap e.target) (card_of i.heap e.slot)).1 (e, c, refl, d, refl)))
  ]

  -- no card of a refined set lies in its region
  refined_elsewhere : (r c : ℕ) → r < i.heap.geometry.n → Contains (refined i r) c → c * i.heap.geometry.k / i.heap.geometry.w ≢ r
  refined_elsewhere r c lt k = elim ((refined_tells i good r c lt).0 k) [
    | inl m ↦ (all_in (λ x. Rattle.g1_image.specs.Image.IsUsedCard i.heap x × (region_of_card i.heap x ≢ r)) (remembered_of i r) c
        (good.remembered r lt).elsewhere m).1
    | inr m ↦ (let e = (exact_tells i.heap good.heap r c).0 m.1 in λ z. e.3 (sym (card_home e.0.slot) ∙ ap (λ x. x * i.heap.geometry.k / i.heap.geometry.w) e.4 ∙ z))
  ]

  refined_below : (r c : ℕ) → Contains (refined i r) c → c < card_count i.heap
  refined_below r c k = omega (
    arith,
    range_below 0 (card_count i.heap) c
        (filter_member (is_refined i r) (Rattle.std.specs.List.range_with_len 0 (card_count i.heap)) c k).0,
  )

pub refined_lead_in : RefinedLeadIn
refined_lead_in i window cards good covered below are = (
  (λ c k. ((are c).0 k).1),
  (λ e c t f.
      let h : Heap = i.heap in
      let there : Contains window (region_of i.heap e.target) = Contains-from_has window (region_of i.heap e.target) t in
      let lt : region_of i.heap e.target < i.heap.geometry.n = all_in (λ r. r < i.heap.geometry.n) window (region_of i.heap e.target) below there in
      let d : region_of i.heap e.slot ≢ region_of i.heap e.target = λ z. false≢true (sym f ∙ ap (has window) z ∙ t) in
      let out : in_set i.heap window (card_of i.heap e.slot * i.heap.geometry.k) ≡ false = ap (has window) (card_home i good e.slot) ∙ f in
      (are (card_of i.heap e.slot)).1 ((region_of i.heap e.target, there, on_refined i good covered e c lt d), out)),
)

pub refined_leads_in : RefinedLeadsIn
refined_leads_in i r good covered lt =
    let one : List ℕ = r ∷ [] in
    let are : AreRefinedOf i (r ∷ []) (refined i r) = λ c. (
      (λ k. (
        (r, (zero, omega arith, refl), k),
        false_from_ne_true (has (r ∷ []) (c * i.heap.geometry.k / i.heap.geometry.w))
            (λ t. refined_elsewhere i good r c lt k (only_one r (c * i.heap.geometry.k / i.heap.geometry.w) t)),
      )),
      (λ k. subst (λ q. Contains (refined i q) c) (sym (one_member r k.0.0 k.0.1)) k.0.2),
    ) in
    let lead = refined_lead_in i (r ∷ []) (refined i r) good covered (all_from_in (λ q. q < i.heap.geometry.n) (r ∷ []) (λ q k. subst (λ z. z < i.heap.geometry.n) (one_member r q k) lt)) are in (
      record {
        rise = cards_rise i.heap (is_refined i r);
        below = all_from_in (λ c. c < card_count i.heap) (refined i r) (refined_below i good r);
      },
      lead.0,
      lead.1,
    )

-- ---- one region's refined set, read from the list of all

get_of_map : {A : Type 0} (f : A → List ℕ) (xs : List A) (n : ℕ) (v : A) (d : List ℕ) → n < length xs → get_or (map f xs) n d ≡ f (get_or xs n v)
get_of_map f [] n v d lt = absurd (omega (arith, lt))
get_of_map f (x ∷ xs) zero v d lt = refl
get_of_map f (x ∷ xs) (suc n) v d lt = get_of_map f xs n v d (omega (arith, lt))

module _ {A : Type 0} (f : A → List ℕ) (t i : Image) (h : Heap) (remembered : List A) (same : i ≡ t) (heap : h ≡ i.heap) (all : map f remembered ≡ map (refined t) (regions t.heap)) where
  pub remembered_one_each : length remembered ≡ h.geometry.n
  remembered_one_each =
      let a : length (map f remembered) ≡ length remembered = length-map remembered f in
      let b : length (map (refined t) (regions t.heap)) ≡ t.heap.geometry.n = length-map (regions t.heap) (refined t) ∙ length-range_with_len 0 t.heap.geometry.n in
      sym a ∙ ap length all ∙ b ∙ ap (λ (j : Image). j.heap.geometry.n) (sym same) ∙ ap (λ (j : Heap). j.geometry.n) (sym heap)

  pub one_leads_in : (r : ℕ) (v : A) (cards : List ℕ) → IsImage i → Covered t → r < h.geometry.n → v ≡ get_or remembered r v → cards ≡ f v
      → AreCards h cards × AreOutside h (r ∷ []) cards × LeadIn h (r ∷ []) cards
  one_leads_in r v cards good covered lt at its =
      let low : r < length remembered = omega (arith, lt, remembered_one_each) in
      let there : r < t.heap.geometry.n = subst (λ n. r < n) (ap (λ (j : Heap). j.geometry.n) heap ∙ ap (λ (j : Image). j.heap.geometry.n) same) lt in
      let count : length (regions t.heap) ≡ t.heap.geometry.n = length-range_with_len 0 t.heap.geometry.n in
      let number : get_or (regions t.heap) r 0 ≡ r = get_or-range_with_len 0 t.heap.geometry.n r 0 there ∙ (let e : 0 + r ≡ r = omega arith in e) in
      let read : cards ≡ refined t r =
      its ∙ ap f at ∙ sym (get_of_map f remembered r v [] low) ∙ ap (λ l. get_or l r []) all ∙ read_at t (regions t.heap) r (omega (arith, there, count)) ∙ ap (refined t) number in
      let good' : IsImage t = subst IsImage same good in
      let k = refined_leads_in t r good' covered there in
      let to_heap : t.heap ≡ h = ap (λ (j : Image). j.heap) (sym same) ∙ sym heap in
      subst (λ q. AreCards q cards × AreOutside q (r ∷ []) cards × LeadIn q (r ∷ []) cards) to_heap
      (subst (λ l. AreCards t.heap l × AreOutside t.heap (r ∷ []) l × LeadIn t.heap (r ∷ []) l) (sym read) k)
    where
      read_at : (t : Image) (xs : List ℕ) (r : ℕ) → r < length xs → get_or (map (refined t) xs) r [] ≡ refined t (get_or xs r 0)
      read_at t xs r lt = get_of_map (refined t) xs r 0 [] lt
