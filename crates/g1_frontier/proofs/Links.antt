-- From the least rank at each place to first occurrences.
use Rattle.std.proofs.Common.{◌≡◌, ℕ, suc, ◌<◌, ◌≤◌, Bool, true, false, cond, not, ◌&&◌, ◌||◌, min, List, [], ◌∷◌, ◌++◌, map, filter, refl, sym, ◌∙◌, ap, arith, eqb, Contains, zero}
use Rattle.std.proofs.Common.{eq-eqb, ne_eqb, append_assoc, true≢false, IsPermutation}
use Rattle.std.specs.List.{All}
use Rattle.std.proofs.lemmas.List.Elements.{All-cons, All-nil}
use Rattle.std.proofs.lemmas.List.Sorted.{All-permutation, IsPermutation-sym}
use Rattle.g1_claim.specs.declared.rule.Offer.{Offer}
use Rattle.g1_claim.specs.Claims.{empty, least_rank}
use Rattle.g1_words.specs.Lists.{has}
use Rattle.g1_words.specs.Survivors.{firsts}
use Rattle.g1_words.proofs.Members.{has_from_contains, Contains-from_has, Contains-later}
use Rattle.g1_words.proofs.Firsts.{filter_twice, filter-same}
use Rattle.g1_words.proofs.Logic.{eqb_sym}
use Rattle.g1_words.proofs.Lists.{has_more}
use Rattle.g1_frontier.specs.Round.{bid_of}

-- of a place and a rank the place
abbrev pub place_of : ℕ × ℕ → ℕ
place_of b = b.0

-- the least rank at the place, or empty
abbrev pub least_bid : ℕ → List (ℕ × ℕ) → ℕ
least_bid p [] = empty
least_bid p (b ∷ bs) = min (cond (eqb b.0 p) b.1 empty) (least_bid p bs)

-- a fact on each of a list, by recursion
abbrev pub Each : {X : Type 0} → (X → Type 0) → List X → Type 0
Each P [] = Unit {0}
Each P (x ∷ xs) = P x × Each P xs

-- the ranks rise
abbrev pub Climbs : List (ℕ × ℕ) → Type 0
Climbs [] = Unit {0}
Climbs (i ∷ is) = Each (λ (j : ℕ × ℕ). i.1 < j.1) is × Climbs is

-- least ranks of offers are those of their items
pub least_of_offers : (p : ℕ) (os : List Offer) → least_rank p os ≡ least_bid p (map bid_of os)
least_of_offers p [] = refl
least_of_offers p (o ∷ os) = ap (λ n. min (cond (eqb o.place p) o.rank empty) n) (least_of_offers p os)

pub least_append : (p : ℕ) (is js : List (ℕ × ℕ)) → least_bid p (is ++ js) ≡ min (least_bid p is) (least_bid p js)
least_append p [] js = at_top p js
  where
    few : (q : ℕ) (ks : List (ℕ × ℕ)) → least_bid q ks ≤ empty
    few q [] = omega arith
    few q (k ∷ ks) = let r = few q ks in omega (arith, r)

    at_top : (q : ℕ) (ks : List (ℕ × ℕ)) → least_bid q ks ≡ min empty (least_bid q ks)
    at_top q ks = let r = few q ks in omega (arith, r)
least_append p (i ∷ is) js = let r = least_append p is js in omega (arith, r)

-- a place that stands nowhere in the list has no rank there
none_there : (p : ℕ) (is : List (ℕ × ℕ)) → (Contains (map place_of is) p → ⊥) → least_bid p is ≡ empty
none_there p [] h = refl
none_there p (i ∷ is) h =
    let r = none_there p is (λ k. h (Contains-later (place_of i) (map place_of is) p k)) in
    let e : ◌≡◌ {A = ℕ} (cond (eqb i.0 p) i.1 empty) empty = ap (λ b. cond b i.1 empty) (ne_eqb i.0 p (λ k. h (zero, omega arith, k))) in
    omega (arith, r, e)

-- a place that stands in a list of ranks below m has a rank below m there
low_there : (p m : ℕ) (is : List (ℕ × ℕ)) → Each (λ (i : ℕ × ℕ). i.1 < m) is → Contains (map place_of is) p → least_bid p is < m
low_there p m [] h k = absurd (omega (arith, k.1))
low_there p m (i ∷ is) h (zero, lt, e) =
    let c : ◌≡◌ {A = ℕ} (cond (eqb i.0 p) i.1 empty) i.1 = ap (λ b. cond b i.1 empty) (eq-eqb i.0 p e) in
    let l = h.0 in omega (arith, c, l)
low_there p m (i ∷ is) h (suc j, b, e) = let r = low_there p m is h.1 (j, omega (arith, b), e) in omega (arith, r)

-- ranks above m
high_there : (p m : ℕ) (is : List (ℕ × ℕ)) → m < empty → Each (λ (i : ℕ × ℕ). m < i.1) is → m < least_bid p is
high_there p m [] lt h = lt
high_there p m (i ∷ is) lt h = let r = high_there p m is lt h.1 in let l = h.0 in at (eqb i.0 p) r l
  where
    at : (b : Bool) → m < least_bid p is → m < i.1 → m < min (cond b i.1 empty) (least_bid p is)
    at true r l = omega arith
    at false r l = omega arith

map_snoc : (pre : List (ℕ × ℕ)) (i : ℕ × ℕ) → map place_of (pre ++ i ∷ []) ≡ map place_of pre ++ i.0 ∷ []
map_snoc [] i = refl
map_snoc (j ∷ pre) i = ap (λ l. j.0 ∷ l) (map_snoc pre i)

next_test : (pre : List (ℕ × ℕ)) (i : ℕ × ℕ) (y : ℕ) → (not (eqb i.0 y) && not (has (map place_of pre) y)) ≡ not (has (map place_of (pre ++ i ∷ [])) y)
next_test pre i y = ap (λ b. not b && not (has (map place_of pre) y)) (eqb_sym i.0 y) ∙ at (eqb y i.0) (has (map place_of pre) y)
    ∙ sym (ap not (ap (λ l. has l y) (map_snoc pre i) ∙ has_more (map place_of pre) i.0 y))
  where
    at : (a b : Bool) → (not a && not b) ≡ not (b || a)
    at true true = refl
    at true false = refl
    at false true = refl
    at false false = refl

least_test : List (ℕ × ℕ) → ℕ × ℕ → Bool
least_test all j = eqb (least_bid j.0 all) j.1

head_test : (pre : List (ℕ × ℕ)) (i : ℕ × ℕ) (is : List (ℕ × ℕ)) → i.1 < empty → Each (λ (j : ℕ × ℕ). j.1 < i.1) pre → Each (λ (j : ℕ × ℕ). i.1 < j.1) is
    → eqb (least_bid i.0 (pre ++ i ∷ is)) i.1 ≡ not (has (map place_of pre) i.0)
head_test pre i is lt low high =
    let a = least_append i.0 pre (i ∷ is) in
    let h : i.1 < least_bid i.0 is = high_there i.0 i.1 is lt high in
    let c : ◌≡◌ {A = ℕ} (cond (eqb i.0 i.0) i.1 empty) i.1 = ap (λ b. cond b i.1 empty) (eq-eqb i.0 i.0 refl) in
    at (has (map place_of pre) i.0) refl a h c
  where
    at : (b : Bool) → has (map place_of pre) i.0 ≡ b → least_bid i.0 (pre ++ i ∷ is) ≡ min (least_bid i.0 pre) (min (cond (eqb i.0 i.0) i.1 empty) (least_bid i.0 is)) → i.1 < least_bid i.0 is
        → ◌≡◌ {A = ℕ} (cond (eqb i.0 i.0) i.1 empty) i.1 → eqb (least_bid i.0 (pre ++ i ∷ is)) i.1 ≡ not b
    at true e a h c = let l = low_there i.0 i.1 pre low (Contains-from_has (map place_of pre) i.0 e) in ne_eqb (least_bid i.0 (pre ++ i ∷ is)) i.1 (λ k. omega (arith, l, a, k))
    at false e a h c =
        let n = none_there i.0 pre (λ k. true≢false (sym (has_from_contains (map place_of pre) i.0 k) ∙ e)) in
        eq-eqb (least_bid i.0 (pre ++ i ∷ is)) i.1 (omega (arith, n, a, h, c))

each_snoc : {X : Type 0} (P : X → Type 0) (xs : List X) (x : X) → Each P xs → P x → Each P (xs ++ x ∷ [])
each_snoc P [] x h p = (p, tt)
each_snoc P (y ∷ ys) x h p = (h.0, each_snoc P ys x h.1 p)

weaken : {X : Type 0} (P Q : X → Type 0) (xs : List X) → ((x : X) → P x → Q x) → Each P xs → Each Q xs
weaken P Q [] f h = tt
weaken P Q (x ∷ xs) f h = (f x h.0, weaken P Q xs f h.1)

both : {X : Type 0} (P Q R : X → Type 0) (xs : List X) → ((x : X) → P x → Q x → R x) → Each P xs → Each Q xs → Each R xs
both P Q R [] f h k = tt
both P Q R (x ∷ xs) f h k = (f x h.0 k.0, both P Q R xs f h.1 k.1)

-- of items by rising rank, those of the least rank at their place are the first occurrences of the places that no lower rank has
pub least_are_firsts : (pre is : List (ℕ × ℕ)) → Climbs is → Each (λ (j : ℕ × ℕ). j.1 < empty) is → Each (λ (j : ℕ × ℕ). Each (λ (i : ℕ × ℕ). i.1 < j.1) pre) is
    → map place_of (filter (λ j. eqb (least_bid j.0 (pre ++ is)) j.1) is) ≡ filter (λ p. not (has (map place_of pre) p)) (firsts (map place_of is))
least_are_firsts pre [] climbs low above = refl
least_are_firsts pre (i ∷ is) climbs low above =
    let next : List (ℕ × ℕ) = pre ++ i ∷ [] in
    let same : next ++ is ≡ pre ++ i ∷ is = append_assoc pre (i ∷ []) is in
    let rest = least_are_firsts next is climbs.1 low.1
    (both (λ (j : ℕ × ℕ). Each (λ (k : ℕ × ℕ). k.1 < j.1) pre) (λ (j : ℕ × ℕ). i.1 < j.1) (λ (j : ℕ × ℕ). Each (λ (k : ℕ × ℕ). k.1 < j.1) next) is
    (λ j a b. each_snoc (λ (k : ℕ × ℕ). k.1 < j.1) pre i a b) above.1 climbs.0) in
    let fs : List ℕ = firsts (map place_of is) in
    let tail : map place_of (filter (λ j. eqb (least_bid j.0 (pre ++ i ∷ is)) j.1) is) ≡ filter (λ p. not (has (map place_of pre) p)) (filter (λ y. not (eqb i.0 y)) fs) =
    ap (λ (l : List (ℕ × ℕ)). map place_of (filter (λ j. eqb (least_bid j.0 l) j.1) is)) (sym same) ∙ rest
    ∙ sym (filter_twice (λ p. not (has (map place_of pre) p)) (λ y. not (eqb i.0 y)) fs
    ∙ filter-same (λ y. not (eqb i.0 y) && not (has (map place_of pre) y)) (λ y. not (has (map place_of next) y)) fs (next_test pre i)) in
    ap (λ b. map place_of (cond b (i ∷ filter (λ j. eqb (least_bid j.0 (pre ++ i ∷ is)) j.1) is)
    (filter (λ j. eqb (least_bid j.0 (pre ++ i ∷ is)) j.1) is))) (head_test pre i is low.0 above.0 climbs.0)
    ∙ at (not (has (map place_of pre) i.0)) (filter (λ j. eqb (least_bid j.0 (pre ++ i ∷ is)) j.1) is) (filter (λ p. not (has (map place_of pre) p)) (filter (λ y. not (eqb i.0 y)) fs)) tail
  where
    at : (b : Bool) (l : List (ℕ × ℕ)) (m : List ℕ) → map place_of l ≡ m → map place_of (cond b (i ∷ l) l) ≡ cond b (i.0 ∷ m) m
    at true l m e = ap (λ n. i.0 ∷ n) e
    at false l m e = e

cost : ℕ → ℕ × ℕ → ℕ
cost p i = cond (eqb i.0 p) i.1 empty

least_below : (p m : ℕ) (is : List (ℕ × ℕ)) → m ≤ empty → All (λ (i : ℕ × ℕ). m ≤ cond (eqb i.0 p) i.1 empty) is → m ≤ least_bid p is
least_below p m [] le h = le
least_below p m (i ∷ is) le h = let a = h 0 i (omega arith) in let r = least_below p m is le (λ k d lt. h (suc k) d (omega (arith, lt))) in omega (arith, a, r)

least_bounds : (p : ℕ) (is : List (ℕ × ℕ)) → All (λ (i : ℕ × ℕ). least_bid p is ≤ cond (eqb i.0 p) i.1 empty) is
least_bounds p [] = All-nil (λ (i : ℕ × ℕ). empty ≤ cond (eqb i.0 p) i.1 empty)
least_bounds p (i ∷ is) = All-cons (λ (j : ℕ × ℕ). least_bid p (i ∷ is) ≤ cond (eqb j.0 p) j.1 empty) i is (omega arith)
    (λ k d lt. let r = least_bounds p is k d lt in omega (arith, r))

least_top : (p : ℕ) (is : List (ℕ × ℕ)) → least_bid p is ≤ empty
least_top p [] = omega arith
least_top p (i ∷ is) = let r = least_top p is in omega (arith, r)

-- the order of items changes no least rank
pub least_permuted : (p : ℕ) (is js : List (ℕ × ℕ)) → IsPermutation is js → least_bid p is ≡ least_bid p js
least_permuted p is js e =
    let a = least_below p (least_bid p is) js (least_top p is) (All-permutation (λ (i : ℕ × ℕ). least_bid p is ≤ cond (eqb i.0 p) i.1 empty) is js e (least_bounds p is)) in
    let b = least_below p (least_bid p js) is (least_top p js) (All-permutation (λ (i : ℕ × ℕ). least_bid p js ≤ cond (eqb i.0 p) i.1 empty) js is (IsPermutation-sym is js e) (least_bounds p js)) in
    omega (arith, a, b)

pub map_both : (before made : List Offer) → map bid_of (before ++ made) ≡ map bid_of before ++ map bid_of made
map_both [] made = refl
map_both (o ∷ os) made = ap (λ l. bid_of o ∷ l) (map_both os made)

-- what won of a round by rising rank: the first occurrences of the places at which nobody had offered
pub won_are_firsts : (before made : List Offer) (is : List (ℕ × ℕ)) → IsPermutation (map bid_of made) is → Climbs is → Each (λ (j : ℕ × ℕ). j.1 < empty) is
    → Each (λ (j : ℕ × ℕ). Each (λ (i : ℕ × ℕ). i.1 < j.1) (map bid_of before)) is
    → map place_of (filter (λ j. eqb (least_rank j.0 (before ++ made)) j.1) is) ≡ filter (λ p. not (has (map place_of (map bid_of before)) p)) (firsts (map place_of is))
won_are_firsts before made is e climbs low above =
    let b : List (ℕ × ℕ) = map bid_of before in
    ap (map place_of) (filter-same (λ j. eqb (least_rank j.0 (before ++ made)) j.1) (λ j. eqb (least_bid j.0 (b ++ is)) j.1) is
    (λ j. ap (λ n. eqb n j.1)
    (least_of_offers j.0 (before ++ made) ∙ ap (least_bid j.0) (map_both before made) ∙ least_append j.0 b (map bid_of made)
    ∙ ap (λ n. min (least_bid j.0 b) n) (least_permuted j.0 (map bid_of made) is e) ∙ sym (least_append j.0 b is))))
    ∙ least_are_firsts b is climbs low above
