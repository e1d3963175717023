-- What one round of claims gives.
use Rattle.std.proofs.Common.{◌≡◌, ◌≢◌, ℕ, ◌+◌, ◌-◌, ◌<◌, ◌≤◌, ◌^◌, length, true, false, cond, eqb, List, [], ◌∷◌, map, filter, sym, refl, ap, ◌∙◌, subst, arith, zero, suc}
use Rattle.std.proofs.Common.{Contains, IsPermutation, All, AllPairs, Vec, Global}
use Rattle.std.specs.List.{flat_map}
use Rattle.std.proofs.lemmas.List.Sorted.{IsPermutation-sym, IsPermutation-map, Contains-permutation}
use Rattle.std.proofs.lemmas.Map.Keys.{IsDistinct-IsPermutation}
use Rattle.std.proofs.lemmas.Map.Made.{AllPairs-from_IsDistinct, IsDistinct-from_AllPairs}
use Rattle.std.proofs.lemmas.Bool.Decides.{Decides-eqb}
use Rattle.g1_claim.specs.declared.rule.Offer.{Offer}
use Rattle.g1_claim.specs.Claims.{TableView, SeatView}
use Rattle.g1_words.specs.Heap.{Heap, word, slots, object_at, objects}
use Rattle.g1_words.specs.Valid.{IsValid, IsReference}
use Rattle.g1_words.proofs.Sound.{reference_named}
use Rattle.g1_words.specs.References.{named}
use Rattle.g1_words.specs.Survivors.{in_set}
use Rattle.g1_words.proofs.Members.{Contains-map, map_cases, flat_map_cases, filter_member}
use Rattle.g1_words.proofs.Ordered.{Ordered, Ordered-from_pairs, pairs_from_ordered}
use Rattle.g1_words.proofs.Rising.{Ordered-map}
use Rattle.g1_words.proofs.Logic.{eqb_sym}
use Rattle.g1_words.proofs.Lists.{Ordered-unmap, all_in, all_from_in}
use Rattle.g1_rem.specs.Slots.{slots_on}
use Rattle.g1_frontier.specs.declared.item.Item.{Item}
use Rattle.g1_frontier.specs.declared.item.Item.TheVariants.{Root, Card, Object}
use Rattle.g1_frontier.specs.Items.{IsItem, AreRanks, aims, pairs, all_pairs}
use Rattle.g1_frontier.specs.Numbers.{BeginsIn}
use Rattle.g1_frontier.proofs.Names.{root_reference, card_reference, slot_reference}
use Rattle.g1_frontier.specs.Offering.{Try, pair_of, answered_true, offer_of}
use Rattle.g1_frontier.specs.Round.{Rises, AreAbove, bid_of, bid, AddsOffers, winners, HasOffered, IsByRank}
use Rattle.g1_frontier.proofs.Assembly.{RankLess, in_kept}
use Rattle.g1_frontier.proofs.Winning.{RanksDiffer, merged_won}
use Rattle.g1_frontier.proofs.Merges.{rises_strictly}

pub lists_rise : (vs : List (Vec (ℕ × ℕ) Global)) → All Rises (map (λ v. v.items) vs) → All (λ v. Rises v.items) vs
lists_rise vs h = all_from_in (λ v. Rises v.items) vs (λ v i. all_in Rises (map (λ v. v.items) vs) v.items h (Contains-map (λ v. v.items) vs v i))

-- ---- what is offered lies in the window

aims_in_window : (h : Heap) (window : List ℕ) (rank x : ℕ) (q : ℕ × ℕ) → Contains (aims h window rank x) q → in_set h window q.1 ≡ true
aims_in_window h window rank x q i =
    let m = map_cases (λ a. (rank, a)) (filter (in_set h window) (named x)) q i in
    subst (λ (r : ℕ × ℕ). in_set h window r.1 ≡ true) m.2 (filter_member (in_set h window) (named x) m.0 m.1).1

pairs_in_window : (h : Heap) (window : List ℕ) (i : Item) (q : ℕ × ℕ) → Contains (pairs h window i) q → in_set h window q.1 ≡ true
pairs_in_window h window (Root n) q i = aims_in_window h window n _ q i
pairs_in_window h window (Card c b) q i = let m = flat_map_cases (λ p. aims h window (b + p) (word h p)) (slots_on h c) q i in aims_in_window h window (b + m.0) (word h m.0) q m.2
pairs_in_window h window (Object a b) q i =
    let m = flat_map_cases (λ p. aims h window (b + (p - (a + 1))) (word h p)) (slots (object_at h a)) q i in
    aims_in_window h window (b + (m.0 - (a + 1))) (word h m.0) q m.2

pub all_in_window : (h : Heap) (window : List ℕ) (items : List Item) (q : ℕ × ℕ) → Contains (all_pairs h window items) q → in_set h window q.1 ≡ true
all_in_window h window items q i = let m = flat_map_cases (pairs h window) items q i in pairs_in_window h window m.0 q m.2

-- ---- and names objects

aims_object : (h : Heap) (window : List ℕ) (rank x : ℕ) (q : ℕ × ℕ) → IsValid h → IsReference h x → Contains (aims h window rank x) q → Contains (objects h) (object_at h q.1)
aims_object h window rank x q valid r i =
    let m = map_cases (λ a. (rank, a)) (filter (in_set h window) (named x)) q i in
    subst (λ (r : ℕ × ℕ). Contains (objects h) (object_at h r.1)) m.2 (reference_named h x m.0 valid r (filter_member (in_set h window) (named x) m.0 m.1).0)

pairs_object : (h : Heap) (window : List ℕ) (i : Item) (q : ℕ × ℕ) → IsValid h → IsItem h i → Contains (pairs h window i) q → Contains (objects h) (object_at h q.1)
pairs_object h window (Root n) q valid ok i = aims_object h window n _ q valid (root_reference h valid n ok) i
pairs_object h window (Card c b) q valid ok i =
    let m = flat_map_cases (λ p. aims h window (b + p) (word h p)) (slots_on h c) q i in
    aims_object h window (b + m.0) (word h m.0) q valid (card_reference h valid c m.0 m.1) m.2
pairs_object h window (Object a b) q valid ok i =
    let m = flat_map_cases (λ p. aims h window (b + (p - (a + 1))) (word h p)) (slots (object_at h a)) q i in
    aims_object h window (b + (m.0 - (a + 1))) (word h m.0) q valid (slot_reference h valid (object_at h a) m.0 ok m.1) m.2

-- what is offered are objects of the window
pub all_begin : (h : Heap) (window : List ℕ) (items : List Item) (q : ℕ × ℕ) → IsValid h → All (IsItem h) items → Contains (all_pairs h window items) q → BeginsIn h window q.1
all_begin h window items q valid ok i =
    let m = flat_map_cases (pairs h window) items q i in
    (all_in_window h window items q i, pairs_object h window m.0 q valid (all_in (IsItem h) items m.0 ok m.1) m.2)

-- ---- ranks that differ

weaken : {A : Type 0} (R S : A → A → Type 0) (xs : List A) → ((x y : A) → R x y → S x y) → Ordered R xs → Ordered S xs
weaken R S [] h o = tt
weaken R S (x ∷ xs) h o = ((λ y i. h x y (o.0 y i)), weaken R S xs h o.1)

rank_of : ℕ × ℕ → ℕ
rank_of q = q.0

-- however they are ordered
pub differ_permuted : (ps qs : List (ℕ × ℕ)) → IsPermutation ps qs → Ordered RanksDiffer ps → Ordered RanksDiffer qs
unfolding rank_of
differ_permuted ps qs p o =
    let before : AllPairs (λ x y. x ≢ y) (map rank_of ps) = pairs_from_ordered (λ x y. x ≢ y) (map rank_of ps) (Ordered-map (λ x y. x ≢ y) rank_of ps o) in
    let after : AllPairs (λ x y. x ≢ y) (map rank_of qs) =
    AllPairs-from_IsDistinct Decides-eqb (map rank_of qs) (IsDistinct-IsPermutation eqb eqb_sym (map rank_of ps) (map rank_of qs)
    (IsPermutation-map rank_of ps qs p) (IsDistinct-from_AllPairs Decides-eqb (map rank_of ps) before)) in
    Ordered-unmap (λ x y. x ≢ y) rank_of qs (Ordered-from_pairs (λ x y. x ≢ y) (map rank_of qs) after)

pub rises_differ : (ps : List (ℕ × ℕ)) → Ordered RankLess ps → Ordered RanksDiffer ps
rises_differ ps o = weaken RankLess RanksDiffer ps (λ x y lt e. omega (arith, lt, e)) o

-- some of what differs differs
some_differ : (ms : List Try) → Ordered RanksDiffer (map pair_of ms) → Ordered RanksDiffer (map pair_of (filter answered_true ms))
some_differ [] o = tt
some_differ (m ∷ ms) o =
    elim m.1 as (λ b. Ordered RanksDiffer (map pair_of (cond b (m ∷ filter answered_true ms) (filter answered_true ms)))) [
      | true ↦ ((λ q i. o.0 q (in_kept ms q i)), some_differ ms o.1)
      | false ↦ some_differ ms o.1
    ]

-- rising ranks between two bounds
rises_few : (qs : List (ℕ × ℕ)) (low n : ℕ) → low ≤ n → Ordered RankLess qs → ((q : ℕ × ℕ) → Contains qs q → low ≤ q.0) → ((q : ℕ × ℕ) → Contains qs q → q.0 < n) → low + length qs ≤ n
rises_few [] low n le o above below = omega (arith, le)
rises_few (q ∷ qs) low n le o above below =
    let lt = below q (zero, omega arith, refl) in
    let more = rises_few qs (q.0 + 1) n (omega (arith, lt)) o.1 (λ x i. let k = o.0 x i in omega (arith, k)) (λ x i. below x (suc i.0, omega (arith, i.1), i.2)) in
    let here = above q (zero, omega arith, refl) in omega (arith, more, here)

-- ---- the round

module _ (t : TableView) (place : ℕ → ℕ) (ps : List (ℕ × ℕ)) (before after : SeatView) (lists : List (List (ℕ × ℕ))) (o : HasOffered t place ps before after lists) where
  bids : (ms : List Try) → map bid_of (map (offer_of place) ms) ≡ map (bid place) (map pair_of ms)
  bids [] = refl
  bids (m ∷ ms) = ap (λ l. (place m.0.1, m.0.0) ∷ l) (bids ms)

  pub adds : (now : List Offer) → now ≡ after.hand.offers → AddsOffers place ps before.hand.offers now
  adds now e = (
    map (offer_of place) o.made,
    subst (λ l. IsPermutation l (map (bid place) ps)) (sym (bids o.made)) (IsPermutation-map (bid place) (map pair_of o.made) ps o.each),
    e ∙ o.offers,
  )

  module _ (merged : List (ℕ × ℕ)) (perm : IsPermutation (flat_map (λ l. l) lists) merged) where
    kept_all : IsPermutation (map pair_of (filter answered_true o.made)) merged
    kept_all = subst (λ l. IsPermutation l merged) o.kept perm

    pub merged_from : (q : ℕ × ℕ) → Contains merged q → Contains ps q
    merged_from q i = Contains-permutation (map pair_of o.made) ps q o.each (in_kept o.made q
        (Contains-permutation merged (map pair_of (filter answered_true o.made)) q (IsPermutation-sym (map pair_of (filter answered_true o.made)) merged kept_all) i))

    made_differ : Ordered RankLess ps → Ordered RanksDiffer (map pair_of o.made)
    made_differ risen = differ_permuted ps (map pair_of o.made) (IsPermutation-sym (map pair_of o.made) ps o.each) (rises_differ ps risen)

    strictly_by_rank : Ordered RankLess ps → IsByRank merged → Ordered RankLess merged
    strictly_by_rank risen in_order =
        rises_strictly merged (Ordered-from_pairs (λ (q r : ℕ × ℕ). q.0 ≤ r.0) merged in_order)
        (differ_permuted (map pair_of (filter answered_true o.made)) merged kept_all (some_differ o.made (made_differ risen)))

    -- they are no more than there are ranks
    pub merged_few : Rises ps → AreRanks ps → IsByRank merged → length merged ≤ 2 ^ 32
    merged_few rise small in_order =
        let few = rises_few merged 0 (2 ^ 32) (omega arith) (strictly_by_rank (Ordered-from_pairs RankLess ps rise) in_order) (λ q i. omega arith)
        (λ q i. all_in (λ q. q.0 < 2 ^ 32) ps q small (merged_from q i)) in omega (arith, few)

    pub round_won : Rises ps → AreAbove before.hand.offers ps → IsByRank merged → winners place after.hand.offers merged ≡ winners place after.hand.offers ps
    round_won rise above in_order =
        let risen : Ordered RankLess ps = Ordered-from_pairs RankLess ps rise in
        let differ : Ordered RanksDiffer (map pair_of o.made) = made_differ risen in
        let strictly : Ordered RankLess merged = strictly_by_rank risen in_order in
        merged_won place ps merged before.hand.offers after.hand.offers o.made o.offers o.each risen differ
        (λ a q i j e. let lt = all_in (λ q. a.rank < q.0) ps q (all_in (λ a. All (λ q. a.rank < q.0) ps) before.hand.offers a above i) j in omega (arith, lt, e)) o.settled kept_all strictly
