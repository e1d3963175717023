-- Ranks with addresses in the order of pairs, and lists of them that are merged.
use Rattle.std.proofs.Common.{◌≡◌, ◌≢◌, ℕ, suc, ◌+◌, ◌<◌, ◌≤◌, Bool, true, false, List, [], ◌∷◌, ◌++◌, map, length, get_or, sym, refl, ap, ◌∙◌, subst, inl, inr, ◌⊎◌, arith, IsPermutation}
use Rattle.std.proofs.Common.{All, AllPairs, append-nil, nat_cmp, Vec, Global, vec_len}
use Rattle.std.specs.Prelude.{Option, Some}
use Rattle.std.specs.Ordering.{partial_ordering_then, partial_lt}
use Rattle.std.specs.Cmp.{IsStrictWeakOrder, nat_cmp_is}
use Rattle.std.specs.declared.cmp.Ordering.{Ordering}
use Rattle.std.specs.declared.cmp.Ordering.TheVariants.{Less, Equal, Greater}
use Rattle.std.specs.List.Sorted.{IsSortedBy}
use Rattle.std.proofs.lemmas.Bool.{cases_lt, false≢true}
use Rattle.std.specs.List.{flat_map}
use Rattle.std.specs.Iterator.{DrainsIf}
use Rattle.std.specs.Iterator.Runs.{Run, YieldsRun}
use Rattle.std.specs.Vec.Iter.{into_iter_items, into_iter_len, into_iter_steps}
use Rattle.std.specs.declared.vec.IntoIter.{IntoIter}
use Rattle.std.proofs.lemmas.Iterator.Adapters.{YieldsList-from_vec}
use Rattle.std.proofs.lemmas.List.Folds.{flat_map-map}
use Rattle.itertools.specs.KMerge.{SourcesGive, joined_lists}
use Rattle.g1_frontier.proofs.Scopes.{all_map}
use Rattle.g1_words.proofs.Ordered.{Ordered, pairs_from_ordered}
use Rattle.g1_words.proofs.Lists.{all_in}
use Rattle.g1_words.proofs.Members.{cons_cases, none_contains}

-- the order of pairs
abbrev pub pair_cmp : ℕ × ℕ → ℕ × ℕ → Option Ordering
pair_cmp x y = partial_ordering_then (Some (nat_cmp x.0 y.0)) (Some (nat_cmp x.1 y.1))

abbrev pub pair_lt : ℕ × ℕ → ℕ × ℕ → Bool
pair_lt x y = partial_lt pair_cmp x y

three : (x y : ℕ) → ((x < y) × (nat_cmp x y ≡ Less)) ⊎ (((x ≡ y) × (nat_cmp x y ≡ Equal)) ⊎ ((y < x) × (nat_cmp x y ≡ Greater)))
three x y = elim (cases_lt x y) [
  | inl lt ↦ inl (lt, sym (nat_cmp_is x y Less lt))
  | inr ge ↦ elim (cases_lt y x) [
    | inl lt ↦ inr (inr (lt, sym (nat_cmp_is x y Greater lt)))
    | inr le ↦ let e : x ≡ y = omega (arith, ge, le) in inr (inl (e, sym (nat_cmp_is x y Equal e)))
  ]
]

-- the one pair does not come before the other
abbrev NotBefore : ℕ × ℕ → ℕ × ℕ → Type 0
NotBefore x y = (y.0 < x.0) ⊎ ((x.0 ≡ y.0) × (y.1 ≤ x.1))

abbrev Before : ℕ × ℕ → ℕ × ℕ → Type 0
Before x y = (x.0 < y.0) ⊎ ((x.0 ≡ y.0) × (x.1 < y.1))

tells : (x y : ℕ × ℕ) → ((pair_lt x y ≡ true) × Before x y) ⊎ ((pair_lt x y ≡ false) × NotBefore x y)
tells x y =
    let lt : (o p : Ordering) → nat_cmp x.0 y.0 ≡ o → nat_cmp x.1 y.1 ≡ p → pair_lt x y ≡ partial_lt (λ (a b : ℕ × ℕ). partial_ordering_then (Some o) (Some p)) x y =
    λ o p e f. (λ i. partial_lt (λ (a b : ℕ × ℕ). partial_ordering_then (Some (e i)) (Some (f i))) x y) in
    elim (three x.0 y.0) [
      | inl a ↦ inl (lt Less (nat_cmp x.1 y.1) a.1 refl, inl a.0)
      | inr (inl a) ↦ elim (three x.1 y.1) [
        | inl b ↦ inl (lt Equal Less a.1 b.1, inr (a.0, b.0))
        | inr (inl b) ↦ inr (lt Equal Equal a.1 b.1, inr (a.0, omega (arith, b.0)))
        | inr (inr b) ↦ inr (lt Equal Greater a.1 b.1, inr (a.0, omega (arith, b.0)))
      ]
      | inr (inr a) ↦ inr (lt Greater (nat_cmp x.1 y.1) a.1 refl, inl a.0)
    ]

is_before : (x y : ℕ × ℕ) → pair_lt x y ≡ true → Before x y
is_before x y t = elim (tells x y) [ inl a ↦ a.1 | inr b ↦ absurd (false≢true (sym b.0 ∙ t)) ]

is_not : (x y : ℕ × ℕ) → pair_lt x y ≡ false → NotBefore x y
is_not x y f = elim (tells x y) [ inl a ↦ absurd (false≢true (sym f ∙ a.0)) | inr b ↦ b.1 ]

not_before : (x y : ℕ × ℕ) → NotBefore x y → pair_lt x y ≡ false
not_before x y n = elim (tells x y) [
  | inl a ↦ absurd (elim a.1 [
    | inl l ↦ elim n [ inl m ↦ omega (arith, l, m) | inr m ↦ omega (arith, l, m.0) ]
    | inr l ↦ elim n [ inl m ↦ omega (arith, l.0, m) | inr m ↦ omega (arith, l.1, m.1) ]
  ])
  | inr b ↦ b.0
]

pub pairs_ordered : IsStrictWeakOrder (partial_lt pair_cmp)
pairs_ordered = record {
  one_way = λ x y t. not_before y x (elim (is_before x y t) [ inl l ↦ inl l | inr l ↦ inr (sym l.0, omega (arith, l.1)) ]);
  chain = λ x y z f g. not_before x z (elim (is_not x y f) [
    | inl l ↦ elim (is_not y z g) [ inl m ↦ inl (omega (arith, l, m)) | inr m ↦ inl (omega (arith, l, m.0)) ]
    | inr l ↦ elim (is_not y z g) [ inl m ↦ inl (omega (arith, l.0, m)) | inr m ↦ inr (l.0 ∙ m.0, omega (arith, l.1, m.1)) ]
  ]);
}

-- ranks that rise are in order
pub sorted_from_rising : (ps : List (ℕ × ℕ)) → AllPairs (λ q r. q.0 < r.0) ps → IsSortedBy (partial_lt pair_cmp) ps
sorted_from_rising ps rise = λ k d low lt. not_before (get_or ps (k + 1) d) (get_or ps k d) (inl (rise k (k + 1) d (omega arith) lt))

-- in order, no rank is above a later one
steps_up : (ps : List (ℕ × ℕ)) (x : ℕ × ℕ) → ((k : ℕ) (d : ℕ × ℕ) → k + 1 < length (x ∷ ps) → (get_or (x ∷ ps) k d).0 ≤ (get_or (x ∷ ps) (k + 1) d).0) → Ordered (λ q r. q.0 ≤ r.0) (x ∷ ps)
steps_up [] x h = ((λ y i. absurd (none_contains y i)), tt)
steps_up (y ∷ ps) x h =
    let rest = steps_up ps y (λ k d lt. let e : suc k + 1 ≡ suc (k + 1) = omega arith in subst (λ n. (get_or (y ∷ ps) k d).0 ≤ (get_or (x ∷ y ∷ ps) n d).0) e (h (suc k) d (omega (arith, lt)))) in
    let here = h 0 x (omega arith) in
    ((λ z i. elim (cons_cases y ps z i) [ inl e ↦ let k : y.0 ≡ z.0 = ap (λ (q : ℕ × ℕ). q.0) e in omega (arith, here, k) | inr j ↦ let k = rest.0 z j in omega (arith, here, k) ]), rest)

all_up : (ps : List (ℕ × ℕ)) → ((k : ℕ) (d : ℕ × ℕ) → k + 1 < length ps → (get_or ps k d).0 ≤ (get_or ps (k + 1) d).0) → Ordered (λ q r. q.0 ≤ r.0) ps
all_up [] h = tt
all_up (x ∷ ps) h = steps_up ps x h

pub risen_from_sorted : (ps : List (ℕ × ℕ)) → IsSortedBy (partial_lt pair_cmp) ps → AllPairs (λ q r. q.0 ≤ r.0) ps
risen_from_sorted ps s =
    pairs_from_ordered (λ (q r : ℕ × ℕ). q.0 ≤ r.0) ps (all_up ps (λ k d lt. elim
    (is_not (get_or ps (k + 1) d) (get_or ps k d) (s k d (omega arith) lt)) [ inl l ↦ omega (arith, l) | inr l ↦ omega (arith, l.0) ]))

-- ---- ranks that differ

abbrev pub Differ : ℕ × ℕ → ℕ × ℕ → Type 0
Differ q r = q.0 ≢ r.0

-- with ranks that differ, they rise
pub rises_strictly : (ps : List (ℕ × ℕ)) → Ordered (λ q r. q.0 ≤ r.0) ps → Ordered Differ ps → Ordered (λ q r. q.0 < r.0) ps
rises_strictly [] o d = tt
rises_strictly (x ∷ ps) o d = ((λ y i. let le = o.0 y i in let ne = d.0 y i in elim (cases_lt x.0 y.0) [ inl lt ↦ lt | inr ge ↦ absurd (ne (omega (arith, le, ge))) ]), rises_strictly ps o.1 d.1)

-- ---- what a merge of lists gives

pub drained : {S A : Type 0} {steps : S → Option A → S → Type 0} (p : Run steps) (s : S) → p.from ≡ s → DrainsIf steps (p.whole ≡ true) s p.items
unfolding YieldsRun
drained {S} {A} {steps} p s e = subst (λ u. DrainsIf steps (p.whole ≡ true) u p.items) e p.gave.0

pub sources : (gives : Vec (ℕ × ℕ) Global → IntoIter (ℕ × ℕ) Global → Type 0) →
    ((v : Vec (ℕ × ℕ) Global) (r : IntoIter (ℕ × ℕ) Global) → gives v r → (into_iter_items r ≡ v.items) × (into_iter_len r ≡ vec_len v))
    → (vs : List (Vec (ℕ × ℕ) Global)) → SourcesGive gives (into_iter_steps {X = ℕ × ℕ} {Z = Global}) vs (map (λ v. v.items) vs)
sources gives h [] = tt
sources gives h (v ∷ vs) = (
  (λ r g. let k = h v r g in (YieldsList-from_vec v.items k.0 (omega (arith, k.1, v.ok))).runs),
  sources gives h vs,
)

pub all_given : (merged : List (ℕ × ℕ)) (vs : List (Vec (ℕ × ℕ) Global)) (got rest : List (ℕ × ℕ)) →
    IsPermutation (joined_lists (map (λ v. v.items) vs)) (got ++ rest) → rest ≡ [] → merged ≡ got → IsPermutation (flat_map (λ v. v.items) vs) merged
all_given merged vs got rest p e f =
    subst (λ (q : List (ℕ × ℕ) × List (ℕ × ℕ)). IsPermutation q.0 q.1) (λ i.
    (flat_map-map (λ (l : List (ℕ × ℕ)). l) (λ (v : Vec (ℕ × ℕ) Global). v.items) vs i, (ap (λ l. got ++ l) e ∙ append-nil got ∙ sym f) i)) p

pub all_sorted : (vs : List (Vec (ℕ × ℕ) Global)) → All (λ v. AllPairs (λ q r. q.0 < r.0) v.items) vs → All (IsSortedBy (partial_lt pair_cmp)) (map (λ v. v.items) vs)
all_sorted vs h = all_map (IsSortedBy (partial_lt pair_cmp)) (λ v. v.items) vs (λ v i. sorted_from_rising v.items (all_in (λ v. AllPairs (λ q r. q.0 < r.0) v.items) vs v h i))
