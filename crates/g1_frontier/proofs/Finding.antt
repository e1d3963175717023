-- What a round finds.
use Rattle.std.proofs.Common.{◌≡◌, ℕ, suc, ◌<◌, ◌≤◌, inl, inr, Bool, true, false, not, eqb, eqb-true, eq-eqb, List, [], ◌∷◌, ◌++◌, map, filter, length, refl, sym, ap, subst, ◌∙◌, Contains, zero}
use Rattle.std.proofs.Common.{arith, All, true≢false}
use Rattle.std.proofs.lemmas.List.{map-append}
use Rattle.std.proofs.lemmas.List.Sorted.{IsPermutation-sym, Contains-permutation}
use Rattle.std.proofs.lemmas.List.Elements.{All-append, Contains-append_cases, Contains-append_left, Contains-append_right}
use Rattle.std.proofs.lemmas.Bool.{false_from_ne_true}
use Rattle.g1_claim.specs.declared.rule.Offer.{Offer}
use Rattle.g1_claim.specs.Claims.{least_rank, empty}
use Rattle.g1_words.specs.Lists.{has}
use Rattle.g1_words.specs.Survivors.{firsts}
use Rattle.g1_words.proofs.Members.{Contains-map, map_cases, has_from_contains, Contains-from_has, filter_member, Contains-later}
use Rattle.g1_words.proofs.Firsts.{Contains-firsts, firsts_member, firsts-append}
use Rattle.g1_words.proofs.Logic.{same_test as one_test}
use Rattle.g1_words.proofs.Ordered.{Ordered}
use Rattle.g1_words.proofs.Lists.{filter_same_in, all_in, all_from_in}
use Rattle.g1_frontier.specs.Round.{bid_of, bid, AddsOffers, is_least, winners}
use Rattle.g1_frontier.specs.Search.{places_of}
use Rattle.g1_frontier.proofs.Assembly.{RankLess}
use Rattle.g1_frontier.proofs.Links.{place_of, Each, Climbs, won_are_firsts}
use Rattle.g1_frontier.proofs.Seeds.{filter_map}
use mathlib.Core.List.{map-map}

-- ---- maps and tests

module _ (place : ℕ → ℕ) (Inside : ℕ → Type 0) (apart : (a b : ℕ) → Inside a → Inside b → place b ≡ place a → b ≡ a) where
  pub same_test : (a b : ℕ) → Inside a → Inside b → eqb (place a) (place b) ≡ eqb a b
  same_test a b s t = at (eqb a b) refl
    where
      at : (c : Bool) → eqb a b ≡ c → eqb (place a) (place b) ≡ c
      at true e = eq-eqb (place a) (place b) (ap place (eqb-true a b e))
      at false e = false_from_ne_true (eqb (place a) (place b)) (λ u. true≢false (sym (eq-eqb a b (sym (apart a b s t (sym (eqb-true (place a) (place b) u))))) ∙ e))

  -- first occurrences of places are those of addresses
  firsts_places : (xs : List ℕ) → ((a : ℕ) → Contains xs a → Inside a) → firsts (map place xs) ≡ map place (firsts xs)
  firsts_places [] h = refl
  firsts_places (x ∷ xs) h =
      ap (λ l. place x ∷ l)
      (ap (filter (λ y. not (eqb (place x) y))) (firsts_places xs (λ a i. h a (suc i.0, omega (arith, i.1), i.2)))
      ∙ filter_map (λ y. not (eqb (place x) y)) place (firsts xs)
      ∙ ap (map place) (filter_same_in (λ y. not (eqb (place x) (place y))) (λ y. not (eqb x y)) (firsts xs)
      (λ y i. ap not (same_test x y (h x (zero, omega arith, refl)) (h y (Contains-later x xs y (firsts_member xs y i)))))))

  map_apart : (xs ys : List ℕ) → ((a : ℕ) → Contains xs a → Inside a) → ((a : ℕ) → Contains ys a → Inside a) → map place xs ≡ map place ys → xs ≡ ys
  map_apart [] [] h k e = refl
  map_apart [] (y ∷ ys) h k e = let n : ◌≡◌ {A = ℕ} 0 (suc (length (map place ys))) = ap length e in absurd (omega (arith, n))
  map_apart (x ∷ xs) [] h k e = let n : ◌≡◌ {A = ℕ} (suc (length (map place xs))) 0 = ap length e in absurd (omega (arith, n))
  map_apart (x ∷ xs) (y ∷ ys) h k e =
      let heads : x ≡ y = apart y x (k y (zero, omega arith, refl)) (h x (zero, omega arith, refl)) (ap head e) in
      let tails = map_apart xs ys (λ a i. h a (suc i.0, omega (arith, i.1), i.2)) (λ a i. k a (suc i.0, omega (arith, i.1), i.2)) (ap tail e) in λ i. heads i ∷ tails i
    where
      head : List ℕ → ℕ
      head [] = 0
      head (z ∷ zs) = z

      tail : List ℕ → List ℕ
      tail [] = []
      tail (z ∷ zs) = zs

  module _ (ps : List (ℕ × ℕ)) (found : List ℕ) (before after : List Offer) (next : ℕ) (adds : AddsOffers place ps before after)
      (rise : Ordered RankLess ps) (low : (q : ℕ × ℕ) → Contains ps q → q.0 < empty) (within : (q : ℕ × ℕ) → Contains ps q → Inside q.1)
      (below : All (λ o. o.rank < next) before) (above : (q : ℕ × ℕ) → Contains ps q → next ≤ q.0) (claimed : (a : ℕ) → Inside a → has (places_of before) (place a) ≡ has found a) where
    abbrev bids : List (ℕ × ℕ)
    bids = map (bid place) ps

    each_all : {X : Type 0} (P : X → Type 0) (xs : List X) → ((x : X) → Contains xs x → P x) → Each P xs
    each_all P [] h = tt
    each_all P (x ∷ xs) h = (h x (zero, omega arith, refl), each_all P xs (λ y i. h y (suc i.0, omega (arith, i.1), i.2)))

    climbs : (qs : List (ℕ × ℕ)) → Ordered RankLess qs → Climbs (map (bid place) qs)
    climbs [] o = tt
    climbs (q ∷ qs) o = (each_all (λ (j : ℕ × ℕ). q.0 < j.1) (map (bid place) qs) (λ j i. let m = map_cases (bid place) qs j i in subst (λ (j : ℕ × ℕ). q.0 < j.1) m.2 (o.0 m.0 m.1)), climbs qs o.1)

    places_bids : (os : List Offer) → map place_of (map bid_of os) ≡ places_of os
    places_bids os = map-map place_of bid_of os

    in_addresses : (a : ℕ) → Contains (map (λ (q : ℕ × ℕ). q.1) ps) a → Inside a
    in_addresses a i = let m = map_cases (λ (q : ℕ × ℕ). q.1) ps a i in subst Inside m.2 (within m.0 m.1)

    -- what won are the first occurrences of what was not found before
    pub new_found : map (λ (q : ℕ × ℕ). q.1) (winners place after ps) ≡ filter (λ a. not (has found a)) (firsts (map (λ (q : ℕ × ℕ). q.1) ps))
    new_found =
        let xs : List ℕ = map (λ (q : ℕ × ℕ). q.1) ps in
        let link = won_are_firsts before adds.0 (map (bid place) ps) adds.1 (climbs ps rise)
        (each_all (λ (j : ℕ × ℕ). j.1 < empty) (map (bid place) ps) (λ j i. let m = map_cases (bid place) ps j i in subst (λ (j : ℕ × ℕ). j.1 < empty) m.2 (low m.0 m.1)))
        (each_all (λ (j : ℕ × ℕ). Each (λ (i : ℕ × ℕ). i.1 < j.1) (map bid_of before)) (map (bid place) ps)
        (λ j i. let m = map_cases (bid place) ps j i in
        each_all (λ (k : ℕ × ℕ). k.1 < j.1) (map bid_of before) (λ k l.
        let o = map_cases bid_of before k l in
        let lt = all_in (λ o. o.rank < next) before o.0 below o.1 in
        let le = above m.0 m.1 in
        let ej : m.0.0 ≡ j.1 = ap (λ (x : ℕ × ℕ). x.1) m.2 in
        let ek : o.0.rank ≡ k.1 = ap (λ (x : ℕ × ℕ). x.1) o.2 in omega (arith, lt, le, ej, ek)))) in
        let left : map place_of (filter (λ j. eqb (least_rank j.0 (before ++ adds.0)) j.1) (map (bid place) ps)) ≡ map place (map (λ (q : ℕ × ℕ). q.1) (winners place after ps)) =
        ap (map place_of) (filter_map (λ (j : ℕ × ℕ). eqb (least_rank j.0 (before ++ adds.0)) j.1) (bid place) ps)
        ∙ map-map place_of (bid place) (filter (λ (q : ℕ × ℕ). eqb (least_rank (place q.1) (before ++ adds.0)) q.0) ps)
        ∙ ap (λ (os : List Offer). map (λ (q : ℕ × ℕ). place q.1) (filter (is_least place os) ps)) (sym adds.2)
        ∙ sym (map-map place (λ (q : ℕ × ℕ). q.1) (winners place after ps)) in
        let places : map place_of (map (bid place) ps) ≡ map place xs = map-map place_of (bid place) ps ∙ sym (map-map place (λ (q : ℕ × ℕ). q.1) ps) in
        let right : filter (λ p. not (has (map place_of (map bid_of before)) p)) (firsts (map place_of (map (bid place) ps))) ≡ map place (filter (λ a. not (has found a)) (firsts xs)) =
        (λ i. filter (λ p. not (has (places_bids before i) p)) (firsts (places i)))
        ∙ ap (filter (λ p. not (has (places_of before) p))) (firsts_places xs in_addresses)
        ∙ filter_map (λ p. not (has (places_of before) p)) place (firsts xs)
        ∙ ap (map place) (filter_same_in (λ a. not (has (places_of before) (place a))) (λ a. not (has found a)) (firsts xs) (λ a i. ap not (claimed a (in_addresses a (firsts_member xs a i))))) in
        map_apart (map (λ (q : ℕ × ℕ). q.1) (winners place after ps)) (filter (λ a. not (has found a)) (firsts xs))
        (λ a i. let m = map_cases (λ (q : ℕ × ℕ). q.1) (winners place after ps) a i in subst Inside m.2 (within m.0 (filter_member (is_least place after) ps m.0 m.1).0))
        (λ a i. in_addresses a (firsts_member xs a (filter_member (λ a. not (has found a)) (firsts xs) a i).0))
        (sym left ∙ link ∙ right)

    pub found_on : found ≡ firsts found → found ++ map (λ (q : ℕ × ℕ). q.1) (winners place after ps) ≡ firsts (found ++ map (λ (q : ℕ × ℕ). q.1) ps)
    found_on once = (λ i. once i ++ new_found i) ∙ sym (firsts-append found (map (λ (q : ℕ × ℕ). q.1) ps))

    -- the places that are offered are again those of what was found
    pub claimed_on : (more : List ℕ) → more ≡ firsts (found ++ map (λ (q : ℕ × ℕ). q.1) ps) → (a : ℕ) → Inside a → has (places_of after) (place a) ≡ has more a
    claimed_on more e a t =
        let xs : List ℕ = map (λ (q : ℕ × ℕ). q.1) ps in
        let made : List Offer = adds.0 in
        let all : places_of after ≡ places_of before ++ places_of made = ap places_of adds.2 ∙ map-append (λ (o : Offer). o.place) before made in
        ap (λ l. has l (place a)) all
        ∙ has_from (places_of before ++ places_of made) (place a) (firsts (found ++ xs)) a
        (λ i. elim (Contains-append_cases (places_of before) (places_of made) (place a) i) [
          | inl k ↦ Contains-firsts (found ++ xs) a (Contains-append_left found xs a (Contains-from_has found a (sym (claimed a t) ∙ has_from_contains (places_of before) (place a) k)))
          | inr k ↦
              let m = map_cases (λ (o : Offer). o.place) made (place a) k in
              let b = Contains-permutation (map bid_of made) (map (bid place) ps) (bid_of m.0) adds.1 (Contains-map bid_of made m.0 m.1) in
              let q = map_cases (bid place) ps (bid_of m.0) b in
              let at : place q.0.1 ≡ place a = ap (λ (x : ℕ × ℕ). x.0) q.2 ∙ m.2 in
              Contains-firsts (found ++ xs) a (Contains-append_right found xs a (subst (Contains xs) (apart a q.0.1 t (within q.0 q.1) at) (Contains-map (λ (q : ℕ × ℕ). q.1) ps q.0 q.1)))
        ])
        (λ i. elim (Contains-append_cases found xs a (firsts_member (found ++ xs) a i)) [
          | inl k ↦ Contains-append_left (places_of before) (places_of made) (place a) (Contains-from_has (places_of before) (place a) (claimed a t ∙ has_from_contains found a k))
          | inr k ↦
              let q = map_cases (λ (q : ℕ × ℕ). q.1) ps a k in
              let b = Contains-permutation (map (bid place) ps) (map bid_of made) (bid place q.0)
              (IsPermutation-sym (map bid_of made) (map (bid place) ps) adds.1) (Contains-map (bid place) ps q.0 q.1) in
              let o = map_cases bid_of made (bid place q.0) b in
              Contains-append_right (places_of before) (places_of made) (place a)
              (subst (Contains (places_of made)) (ap (λ (x : ℕ × ℕ). x.0) o.2 ∙ ap place q.2) (Contains-map (λ (o : Offer). o.place) made o.0 o.1))
        ])
        ∙ ap (λ l. has l a) (sym e)
      where
        has_from : (us : List ℕ) (u : ℕ) (vs : List ℕ) (v : ℕ) → (Contains us u → Contains vs v) → (Contains vs v → Contains us u) → has us u ≡ has vs v
        has_from us u vs v f g = one_test (has us u) (has vs v) (λ x. has_from_contains vs v (f (Contains-from_has us u x))) (λ x. has_from_contains us u (g (Contains-from_has vs v x)))

    -- the ranks offered are below those of the next round
    pub ranks_on : (end : ℕ) → next ≤ end → ((q : ℕ × ℕ) → Contains ps q → q.0 < end) → All (λ o. o.rank < end) after
    ranks_on end le high =
        subst (All (λ o. o.rank < end)) (sym adds.2)
        (All-append (λ (o : Offer). o.rank < end) before adds.0 (λ k d lt. let b = below k d lt in omega (arith, b, le))
        (all_from_in (λ o. o.rank < end) adds.0 (λ o i.
        let b = Contains-permutation (map bid_of adds.0) (map (bid place) ps) (bid_of o) adds.1 (Contains-map bid_of adds.0 o i) in
        let q = map_cases (bid place) ps (bid_of o) b in
        let e : q.0.0 ≡ o.rank = ap (λ (x : ℕ × ℕ). x.1) q.2 in
        let lt = high q.0 q.1 in omega (arith, e, lt))))
