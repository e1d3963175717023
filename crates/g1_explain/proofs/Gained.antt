-- Cards that sets gain, each with the region's number: by region, and sorted.
use Rattle.std.proofs.Common.{◌≡◌, ◌≢◌, ◌⊎◌, ℕ, zero, suc, ◌+◌, ◌<◌, ◌≤◌, inl, inr, Vec, Global, Bool, true, false, not, ◌&&◌, cond, List, [], ◌∷◌, ◌++◌, length, map, filter, flat_map, take, get_or, All, AllPairs, refl, sym, ◌∙◌, ap, subst, arith, eqb, eqb-true, eq-eqb, append-nil, Contains}
use Rattle.std.specs.Prelude.{slice_index_or, min, decimal}
use Rattle.std.specs.List.{range_with_len}
use Rattle.std.specs.List.Sorted.{IsPermutation, IsSorted, IsStrictlyIncreasing, IsNonDecreasingBy}
use Rattle.std.specs.Bool.{Decides}
use Rattle.std.specs.Ordering.{nat_cmp, ordering_then, is_lt}
use Rattle.std.specs.declared.cmp.Ordering.TheVariants.{Less, Equal}
use Rattle.std.specs.Cmp.{nat_cmp_is}
use Rattle.std.proofs.lemmas.Bool.{cases_lt, cases_order, false≢true}
use Rattle.std.proofs.lemmas.Bool.Decides.{same_from_decides}
use Rattle.std.proofs.lemmas.List.Kept.{AllPairs-from_increasing}
use Rattle.std.proofs.lemmas.List.Sorted.{IsPermutation-sym, Contains-permutation, IsNonDecreasingBy-from_all_adjacent}
use Rattle.std.proofs.lemmas.Map.Keys.{IsDistinct-IsPermutation}
use Rattle.std.proofs.lemmas.Map.Made.{AllPairs-from_IsDistinct, IsDistinct-from_AllPairs}
use Rattle.g1_words.specs.Lists.{has}
use Rattle.g1_words.proofs.Members.{Contains-map, map_cases, Contains-filter, filter_member, Contains-flat_map, flat_map_cases, has_from_contains, Contains-from_has, cons_cases, none_contains}
use Rattle.g1_words.proofs.Ordered.{Ordered, Ordered-from_pairs, pairs_from_ordered, same_order}
use Rattle.g1_words.proofs.Rising.{Ordered-filter, Ordered-flat_map, Ordered-range}
use Rattle.g1_words.proofs.Lists.{range_more}
use Rattle.std.proofs.lemmas.List.{length-map, map-append, take_more, append_assoc}
use Rattle.std.proofs.lemmas.List.Concat.{flat_map-append}
use Rattle.std.proofs.lemmas.List.Folds.{flat_map-map}
use Rattle.g1_text.specs.Lines.{further}
use Rattle.g1_text.proofs.Printed.{take_all, further_words}
use Rattle.g1_explain.specs.Cards.{number_words}
use Rattle.g1_explain.specs.Remembered.{joined, gaining}
use Rattle.g1_explain.proofs.Candidates.{get_items}

-- the cards that the set of a region gains, with its number
abbrev pub pairs_of : List (List ℕ) → List (List ℕ) → ℕ → List (ℕ × ℕ)
pairs_of before after r = map (λ c. (c, r)) (joined (slice_index_or before r []) (slice_index_or after r []))

-- ---- pairs in order

-- the first pair is not behind the second
abbrev pub UpTo : ℕ × ℕ → ℕ × ℕ → Type 0
UpTo x y = (x.0 < y.0) ⊎ ((x.0 ≡ y.0) × (x.1 ≤ y.1))

up_to : (x y : ℕ × ℕ) → is_lt (ordering_then (nat_cmp y.0 x.0) (nat_cmp y.1 x.1)) ≡ false → UpTo x y
up_to x y e = elim (cases_order y.0 x.0) [
  | inl same ↦ inr (
    sym same,
    elim (cases_lt y.1 x.1) [
      | inl lt ↦ absurd (false≢true (sym e ∙ (λ i. is_lt (ordering_then (sym (nat_cmp_is y.0 x.0 Equal same) i) (sym (nat_cmp_is y.1 x.1 Less lt) i)))))
      | inr ge ↦ ge
    ],
  )
  | inr (inl lt) ↦ absurd (false≢true (sym e ∙ ap (λ o. is_lt (ordering_then o (nat_cmp y.1 x.1))) (sym (nat_cmp_is y.0 x.0 Less lt))))
  | inr (inr gt) ↦ inl gt
]

up_to_trans : (x y z : ℕ × ℕ) → UpTo x y → UpTo y z → UpTo x z
up_to_trans x y z (inl a) (inl b) = inl (omega (arith, a, b))
up_to_trans x y z (inl a) (inr b) = inl (omega (arith, a, b.0))
up_to_trans x y z (inr a) (inl b) = inl (omega (arith, a.0, b))
up_to_trans x y z (inr a) (inr b) = inr (a.0 ∙ b.0, omega (arith, a.1, b.1))

-- neighbours in order, all in order
chain : (xs : List (ℕ × ℕ)) (x : ℕ × ℕ) → ((k : ℕ) (d : ℕ × ℕ) → k + 1 < length (x ∷ xs) → UpTo (get_or (x ∷ xs) k d) (get_or (x ∷ xs) (k + 1) d)) → Ordered UpTo (x ∷ xs)
chain [] x h = ((λ y i. absurd (none_contains y i)), tt)
chain (y ∷ xs) x h =
    let rest = chain xs y (λ k d lt. let e : suc k + 1 ≡ suc (k + 1) = omega arith in subst (λ n. UpTo (get_or (y ∷ xs) k d) (get_or (x ∷ y ∷ xs) n d)) e (h (suc k) d (omega (arith, lt)))) in
    let here = h 0 x (omega arith) in
    ((λ z i. elim (cons_cases y xs z i) [ inl e ↦ subst (UpTo x) e here | inr j ↦ up_to_trans x y z here (rest.0 z j) ]), rest)

pub in_order : (xs : List (ℕ × ℕ)) → IsSorted (λ x y. ordering_then (nat_cmp x.0 y.0) (nat_cmp x.1 y.1)) xs → Ordered UpTo xs
in_order [] s = tt
in_order (x ∷ xs) s = chain xs x (λ k d lt. up_to (get_or (x ∷ xs) k d) (get_or (x ∷ xs) (k + 1) d) (s k d (omega arith) lt))

pub firsts_rise : (xs : List (ℕ × ℕ)) → IsSorted (λ x y. ordering_then (nat_cmp x.0 y.0) (nat_cmp x.1 y.1)) xs → IsNonDecreasingBy (λ (x : ℕ × ℕ). x.0) xs
firsts_rise xs s = IsNonDecreasingBy-from_all_adjacent (λ (x : ℕ × ℕ). x.0) xs
    (λ k d lt. elim (up_to (get_or xs k d) (get_or xs (k + 1) d) (s k d (omega arith) lt)) [ inl l ↦ omega (arith, l) | inr e ↦ omega (arith, e.0) ])

-- ---- pairs, each once

abbrev pub pair_eq : ℕ × ℕ → ℕ × ℕ → Bool
pair_eq x y = eqb x.0 y.0 && eqb x.1 y.1

pair_eq_at : (x y : ℕ × ℕ) (a b : Bool) → eqb x.0 y.0 ≡ a → eqb x.1 y.1 ≡ b → Decides (a && b) (x ≡ y)
pair_eq_at x y true true e f = ((λ t. λ i. (eqb-true x.0 y.0 e i, eqb-true x.1 y.1 f i)), (λ t. refl))
pair_eq_at x y true false e f = ((λ t. absurd (false≢true t)), (λ t. absurd (false≢true (sym f ∙ eq-eqb x.1 y.1 (ap (λ (p : ℕ × ℕ). p.1) t)))))
pair_eq_at x y false b e f = ((λ t. absurd (false≢true t)), (λ t. absurd (false≢true (sym e ∙ eq-eqb x.0 y.0 (ap (λ (p : ℕ × ℕ). p.0) t)))))

pair_eq-Decides : (x y : ℕ × ℕ) → Decides (pair_eq x y) (x ≡ y)
pair_eq-Decides x y = pair_eq_at x y (eqb x.0 y.0) (eqb x.1 y.1) refl refl

pair_eq_flips : (x y : ℕ × ℕ) → pair_eq x y ≡ pair_eq y x
pair_eq_flips x y = same_from_decides (pair_eq x y) (pair_eq y x) (pair_eq-Decides x y) ((λ t. sym ((pair_eq-Decides y x).0 t)), (λ t. (pair_eq-Decides y x).1 (sym t)))

apart_permuted : (xs ys : List (ℕ × ℕ)) → IsPermutation xs ys → AllPairs (λ x y. x ≢ y) xs → AllPairs (λ x y. x ≢ y) ys
apart_permuted xs ys p apart =
    AllPairs-from_IsDistinct pair_eq-Decides ys (IsDistinct-IsPermutation pair_eq pair_eq_flips xs ys p (IsDistinct-from_AllPairs pair_eq-Decides xs apart))

-- a set that rises gains each card once
once : (r : ℕ) (cards : List ℕ) → Ordered (λ x y. x < y) cards → Ordered (λ (x y : ℕ × ℕ). x ≢ y) (map (λ c. (c, r)) cards)
once r [] o = tt
once r (c ∷ cs) o = (
  (λ y i e.
      let m = map_cases (λ (c : ℕ). (c, r)) cs y i in
      let lt = o.0 m.0 m.1 in
      let same : c ≡ m.0 = ap (λ (p : ℕ × ℕ). p.0) (e ∙ sym m.2) in
      omega (arith, lt, same)),
  once r cs o.1,
)

rises_at : (after : List (List ℕ)) (r : ℕ) → All IsStrictlyIncreasing after → IsStrictlyIncreasing (slice_index_or after r [])
rises_at after r all = elim (cases_lt r (length after)) [
  | inl lt ↦ all r [] lt
  | inr ge ↦ subst IsStrictlyIncreasing (sym (past after r ge)) (λ k lt. absurd (omega (arith, lt)))
] where
  past : (xs : List (List ℕ)) (n : ℕ) → length xs ≤ n → get_or xs n [] ≡ []
  past [] n le = refl
  past (x ∷ xs) zero le = absurd (omega (arith, le))
  past (x ∷ xs) (suc n) le = past xs n (omega (arith, le))

-- ---- the regions of the pairs of a card

abbrev pub regions_of : ℕ → List (ℕ × ℕ) → List ℕ
regions_of c ys = map (λ x. x.1) (filter (λ x. eqb x.0 c) ys)

below_rest : (c : ℕ) (y : ℕ × ℕ) (ys : List (ℕ × ℕ)) → ((z : ℕ × ℕ) → Contains ys z → UpTo y z) → ((z : ℕ × ℕ) → Contains ys z → y ≢ z) → y.0 ≡ c → (q : ℕ) → Contains (regions_of c ys) q → y.1 < q
below_rest c y ys o d e q i =
    let m = map_cases (λ (x : ℕ × ℕ). x.1) (filter (λ (x : ℕ × ℕ). eqb x.0 c) ys) q i in
    let f = filter_member (λ (x : ℕ × ℕ). eqb x.0 c) ys m.0 m.1 in
    let here : m.0.0 ≡ c = eqb-true m.0.0 c f.1 in
    elim (o m.0 f.0) [
      | inl l ↦ absurd (omega (arith, l, e, here))
      | inr l ↦ elim (cases_lt y.1 m.0.1) [
        | inl lt ↦ let k = m.2 in omega (arith, lt, k)
        | inr ge ↦ let s : y.1 ≡ m.0.1 = omega (arith, ge, l.1) in absurd (d m.0 f.0 (λ j. ((e ∙ sym here) j, s j)))
      ]
    ]

rise_at : (c : ℕ) (y : ℕ × ℕ) (ys : List (ℕ × ℕ)) (b : Bool) → (b ≡ true → (q : ℕ) → Contains (regions_of c ys) q → y.1 < q) → Ordered (λ r q. r < q) (regions_of c ys)
    → Ordered (λ r q. r < q) (map (λ x. x.1) (cond b (y ∷ filter (λ x. eqb x.0 c) ys) (filter (λ x. eqb x.0 c) ys)))
rise_at c y ys true f rest = (f refl, rest)
rise_at c y ys false f rest = rest

of_card : (c : ℕ) (ys : List (ℕ × ℕ)) → Ordered UpTo ys → Ordered (λ (x y : ℕ × ℕ). x ≢ y) ys → Ordered (λ r q. r < q) (regions_of c ys)
of_card c [] o d = tt
of_card c (y ∷ ys) o d = rise_at c y ys (eqb y.0 c) (λ t. below_rest c y ys o.0 d.0 (eqb-true y.0 c t)) (of_card c ys o.1 d.1)

module _ (before after : List (List ℕ)) (n : ℕ) (rise : All IsStrictlyIncreasing after) where
  abbrev pub raw : List (ℕ × ℕ)
  raw = flat_map (pairs_of before after) (range_with_len 0 n)

  raw_apart : Ordered (λ (x y : ℕ × ℕ). x ≢ y) raw
  raw_apart = Ordered-flat_map (λ r q. r < q) (λ x y. x ≢ y) (pairs_of before after) (range_with_len 0 n) (Ordered-range 0 n)
      (λ r i. once r (joined (slice_index_or before r []) (slice_index_or after r []))
      (Ordered-filter (λ x y. x < y) (λ c. not (has (slice_index_or before r []) c)) (slice_index_or after r [])
      (Ordered-from_pairs (λ x y. x < y) (slice_index_or after r []) (AllPairs-from_increasing (slice_index_or after r []) (rises_at after r rise)))))
      (λ r q x y i j lt k l e.
      let a = map_cases (λ (c : ℕ). (c, r)) (joined (slice_index_or before r []) (slice_index_or after r [])) x k in
      let b = map_cases (λ (c : ℕ). (c, q)) (joined (slice_index_or before q []) (slice_index_or after q [])) y l in
      let same : r ≡ q = ap (λ (p : ℕ × ℕ). p.1) (a.2 ∙ e ∙ sym b.2) in
      omega (arith, lt, same))

  pub gained_are : (ys : List (ℕ × ℕ)) → IsPermutation raw ys → IsSorted (λ x y. ordering_then (nat_cmp x.0 y.0) (nat_cmp x.1 y.1)) ys → (c : ℕ)
      → map (λ x. x.1) (filter (λ x. eqb x.0 c) ys) ≡ filter (λ r. has (joined (slice_index_or before r []) (slice_index_or after r [])) c) (range_with_len 0 n)
  gained_are ys p s c =
      let gains : ℕ → Bool = λ r. has (joined (slice_index_or before r []) (slice_index_or after r [])) c in
      let apart = Ordered-from_pairs (λ (x y : ℕ × ℕ). x ≢ y) ys (apart_permuted raw ys p (pairs_from_ordered (λ (x y : ℕ × ℕ). x ≢ y) raw raw_apart)) in
      same_order (λ r q. r < q) (λ r q a b. omega (arith, a, b)) (map (λ x. x.1) (filter (λ x. eqb x.0 c) ys)) (filter gains (range_with_len 0 n))
      (of_card c ys (in_order ys s) apart)
      (Ordered-filter (λ r q. r < q) gains (range_with_len 0 n) (Ordered-range 0 n))
      (λ r i.
      let m = map_cases (λ (x : ℕ × ℕ). x.1) (filter (λ (x : ℕ × ℕ). eqb x.0 c) ys) r i in
      let f = filter_member (λ (x : ℕ × ℕ). eqb x.0 c) ys m.0 m.1 in
      let k = flat_map_cases (pairs_of before after) (range_with_len 0 n) m.0 (Contains-permutation ys raw m.0 (IsPermutation-sym raw ys p) f.0) in
      let a = map_cases (λ (c : ℕ). (c, k.0)) (joined (slice_index_or before k.0 []) (slice_index_or after k.0 [])) m.0 k.2 in
      let region : k.0 ≡ r = ap (λ (q : ℕ × ℕ). q.1) a.2 ∙ m.2 in
      let card : a.0 ≡ c = ap (λ (q : ℕ × ℕ). q.0) a.2 ∙ eqb-true m.0.0 c f.1 in
      subst (Contains (filter gains (range_with_len 0 n))) region
      (Contains-filter gains (range_with_len 0 n) k.0 k.1
      (has_from_contains (joined (slice_index_or before k.0 []) (slice_index_or after k.0 [])) c (subst (Contains (joined (slice_index_or before k.0 []) (slice_index_or after k.0 []))) card a.1))))
      (λ r i.
      let f = filter_member gains (range_with_len 0 n) r i in
      let k : Contains (pairs_of before after r) (c, r) =
      Contains-map (λ (c : ℕ). (c, r)) (joined (slice_index_or before r []) (slice_index_or after r [])) c (Contains-from_has (joined (slice_index_or before r []) (slice_index_or after r [])) c f.1) in
      let there = Contains-permutation raw ys (c, r) p (Contains-flat_map (pairs_of before after) (range_with_len 0 n) r (c, r) f.0 k) in
      Contains-map (λ (x : ℕ × ℕ). x.1) (filter (λ (x : ℕ × ℕ). eqb x.0 c) ys) (c, r) (Contains-filter (λ (x : ℕ × ℕ). eqb x.0 c) ys (c, r) there (eq-eqb c c refl)))

-- ---- one pair, or one region more

pub pairs_more : (r : ℕ) (old now after : List (ℕ × ℕ)) (xs : List ℕ) (i : ℕ) → i < length xs → now ≡ old ++ map (λ c. (c, r)) (take i xs) → after ≡ now ++ (get_or xs i 0, r) ∷ []
    → after ≡ old ++ map (λ c. (c, r)) (take (i + 1) xs)
pairs_more r old now after xs i lt e p =
    let pair : ℕ → ℕ × ℕ = λ c. (c, r) in
    let more : map pair (take (i + 1) xs) ≡ map pair (take i xs) ++ pair (get_or xs i 0) ∷ [] = ap (map pair) (take_more xs i 0 lt) ∙ map-append pair (take i xs) (get_or xs i 0 ∷ []) in
    p ∙ ap (λ l. l ++ pair (get_or xs i 0) ∷ []) e ∙ append_assoc old (map pair (take i xs)) (pair (get_or xs i 0) ∷ []) ∙ ap (λ l. old ++ l) (sym more)

pub region_more : (f : ℕ → List (ℕ × ℕ)) (now after : List (ℕ × ℕ)) (n : ℕ) → now ≡ flat_map f (range_with_len 0 n) → after ≡ now ++ f n → after ≡ flat_map f (range_with_len 0 (n + 1))
region_more f now after n e p =
    let z : 0 + n ≡ n = omega arith in
    let more : flat_map f (range_with_len 0 (n + 1)) ≡ flat_map f (range_with_len 0 n) ++ f n =
    ap (flat_map f) (range_more 0 n ∙ ap (λ x. range_with_len 0 n ++ x ∷ []) z) ∙ flat_map-append f (range_with_len 0 n) (n ∷ [])
    ∙ ap (λ l. flat_map f (range_with_len 0 n) ++ l) (append-nil (f n)) in
    p ∙ ap (λ l. l ++ f n) e ∙ sym more

-- a set at a place
pub set_at : (xs : List (Vec ℕ Global)) (n : ℕ) (d : Vec ℕ Global) (now : List ℕ) → n < length xs → d ≡ get_or xs n d → now ≡ d.items → now ≡ get_or (map (λ s. s.items) xs) n []
set_at xs n d now lt e p = p ∙ ap (λ (v : Vec ℕ Global). v.items) e ∙ sym (get_items xs n d lt)

pub rises_there : (xs : List (Vec ℕ Global)) (n : ℕ) (now : List ℕ) → All IsStrictlyIncreasing (map (λ s. s.items) xs) → now ≡ get_or (map (λ s. s.items) xs) n [] → IsStrictlyIncreasing now
rises_there xs n now all e = subst IsStrictlyIncreasing (sym e) (rises_at (map (λ s. s.items) xs) n all)

pub sets_many : (xs ys : List (Vec ℕ Global)) (n : ℕ) → n ≡ min (length xs) (length ys) → n ≡ min (length (map (λ s. s.items) xs)) (length (map (λ s. s.items) ys))
sets_many xs ys n e = e ∙ (λ i. min (sym (length-map xs (λ (s : Vec ℕ Global). s.items)) i) (sym (length-map ys (λ (s : Vec ℕ Global). s.items)) i))

pub gained_end : (before after : List (List ℕ)) (n : ℕ) (now ys : List (ℕ × ℕ)) → n ≡ min (length before) (length after) → All IsStrictlyIncreasing after → now ≡ flat_map (pairs_of before after) (range_with_len 0 n)
    → IsPermutation now ys → IsSorted (λ x y. ordering_then (nat_cmp x.0 y.0) (nat_cmp x.1 y.1)) ys → (c : ℕ) → map (λ x. x.1) (filter (λ x. eqb x.0 c) ys) ≡ gaining before after c
gained_end before after n now ys e rise is p s c =
    gained_are before after n rise ys (subst (λ l. IsPermutation l ys) is p) s c
    ∙ ap (λ k. filter (λ r. has (joined (slice_index_or before r []) (slice_index_or after r [])) c) (range_with_len 0 k)) e

-- ---- the regions of the pairs of a card, written

pub regions_end : (old now last : List ℕ) (ps : List (ℕ × ℕ)) (i : ℕ) → length ps ≤ i → false ≡ eqb (length ps) 0 → now ≡ old ++ flat_map (λ x. 32 ∷ decimal x.1) (take i ps) → last ≡ now ++ 10 ∷ []
    → last ≡ old ++ further (number_words (map (λ x. x.1) ps))
regions_end old now last [] i le some e p = cc
regions_end old now last (x ∷ xs) i le some e p =
    let ps : List (ℕ × ℕ) = x ∷ xs in
    p ∙ ap (λ l. l ++ 10 ∷ []) e ∙ append_assoc old (flat_map (λ x. 32 ∷ decimal x.1) (take i ps)) (10 ∷ [])
    ∙ ap (λ (l : List (ℕ × ℕ)). old ++ (flat_map (λ x. 32 ∷ decimal x.1) l ++ 10 ∷ [])) (take_all i ps le)
    ∙ ap (λ l. old ++ (l ++ 10 ∷ [])) (sym (flat_map-map (λ x. 32 ∷ decimal x) (λ (q : ℕ × ℕ). q.1) ps))
    ∙ ap (λ l. old ++ l) (sym (further_words decimal (map (λ q. q.1) ps)))
