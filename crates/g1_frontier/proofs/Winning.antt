-- Which offers have the least rank of their place.
use Rattle.std.proofs.Common.{◌≡◌, ◌≢◌, ℕ, Bool, true, false, ◌&&◌, eqb, List, [], ◌∷◌, ◌++◌, map, filter, sym, refl, ap, ◌∙◌, subst, ⊎_elim, arith, eq-eqb, ne_eqb, eqb-true, Contains, zero, suc}
use Rattle.std.proofs.Common.{append_assoc, IsPermutation}
use Rattle.std.proofs.lemmas.List.Sorted.{IsPermutation-sym, Contains-permutation}
use Rattle.std.proofs.lemmas.Bool.{cases_Bool}
use Rattle.std.proofs.lemmas.List.Elements.{Contains-push_cases}
use Rattle.g1_claim.specs.declared.rule.Offer.{Offer}
use Rattle.g1_claim.specs.Claims.{least_rank, times_offered, times_won, one_if, IsSettled}
use Rattle.g1_claim.proofs.Totals.{times_offered-append, times_won-append}
use Rattle.g1_words.proofs.Members.{Contains-map, map_cases, Contains-filter, filter_member, Contains-later}
use Rattle.g1_words.proofs.Ordered.{Ordered, same_order}
use Rattle.g1_words.proofs.Rising.{Ordered-filter}
use Rattle.g1_frontier.specs.Offering.{Try, pair_of, answered_true, offer_of}
use Rattle.g1_frontier.specs.Round.{is_least, winners}
use Rattle.g1_frontier.proofs.Assembly.{RankLess}

-- no offer of this rank has won
none_won : (p r : ℕ) (os : List Offer) → ((o : Offer) → Contains os o → o.rank ≢ r) → times_won p r os ≡ 0
none_won p r [] h = refl
none_won p r (o ∷ os) h =
    let a = none_won p r os (λ x i. h x (suc i.0, omega (arith, i.1), i.2)) in
    let b : one_if (eqb o.place p && (eqb o.rank r && o.won)) ≡ 0 = subst (λ (t : Bool). one_if (eqb o.place p && (t && o.won)) ≡ 0)
    (sym (ne_eqb o.rank r (h o (zero, omega arith, refl)))) (elim (eqb o.place p) as (λ (t : Bool). one_if (t && false) ≡ 0) [ true ↦ refl | false ↦ refl ]) in omega (arith, a, b)

-- an offer with the least rank at its place answered true, where no other offer has its rank
least_won : (os pre post : List Offer) (o : Offer) → os ≡ pre ++ o ∷ post → ((a : Offer) → Contains pre a → a.rank ≢ o.rank) → ((a : Offer) → Contains post a → a.rank ≢ o.rank) → IsSettled os
    → eqb (least_rank o.place os) o.rank ≡ true → o.won ≡ true
least_won os pre post o is low high settled least =
    let p : ℕ = o.place in
    let r : ℕ = o.rank in
    let w = eqb-true (least_rank p os) r least in
    ⊎_elim (λ (t : o.won ≡ true). t)
    (λ (f : o.won ≡ false).
    let a = none_won p r pre low in
    let b = none_won p r post high in
    let c = times_won-append p r pre (o ∷ post) in
    let d : one_if (eqb o.place p && (eqb o.rank r && o.won)) ≡ 0 = subst (λ (k : Bool × Bool × Bool). one_if (k.0 && (k.1 && k.2)) ≡ 0)
    (λ i. (sym (eq-eqb p p refl) i, sym (eq-eqb r r refl) i, sym f i)) refl in
    let none : times_won p r os ≡ 0 = ap (times_won p r) is ∙ c ∙ (omega arith) in
    let e = times_offered-append p pre (o ∷ post) in
    let g : one_if (eqb o.place p) ≡ 1 = ap one_if (eq-eqb p p refl) in
    let some_offer : times_offered p os ≡ times_offered p (pre ++ o ∷ post) = ap (times_offered p) is in
    ⊎_elim (λ (z : times_offered p os ≡ 0). absurd (omega arith)) (λ (z : times_won p (least_rank p os) os ≡ 1). let one : times_won p r os ≡ 1 =
    subst (λ (k : ℕ). times_won p k os ≡ 1) w z in absurd (omega arith)) (settled p))
    (cases_Bool o.won)

abbrev pub Differ : Offer → Offer → Type 0
Differ a b = a.rank ≢ b.rank

-- whatever the order of the offers
pub winner_won : (os pre ms : List Offer) → os ≡ pre ++ ms → ((a b : Offer) → Contains pre a → Contains ms b → a.rank ≢ b.rank) → Ordered Differ ms →
    IsSettled os → (o : Offer) → Contains ms o → eqb (least_rank o.place os) o.rank ≡ true → o.won ≡ true
winner_won os pre [] is low apart settled o i least = absurd (omega (arith, i.1))
winner_won os pre (x ∷ ms) is low apart settled o (zero, b, e) least =
    subst (λ (y : Offer). eqb (least_rank y.place os) y.rank ≡ true → y.won ≡ true) e
    (least_won os pre ms x is (λ a k. low a x k (zero, omega arith, refl)) (λ a k same. apart.0 a k (sym same)) settled) least
winner_won os pre (x ∷ ms) is low apart settled o (suc j, lt, eq) least =
    winner_won os (pre ++ x ∷ []) ms (is ∙ sym (append_assoc pre (x ∷ []) ms))
    (λ a b k l. ⊎_elim (λ (m : Contains pre a). low a b m (Contains-later x ms b l))
    (λ (e : x ≡ a). subst (λ (y : Offer). y.rank ≢ b.rank) e (apart.0 b l)) (Contains-push_cases pre x a k))
    apart.1 settled o (j, omega (arith, lt), eq) least

-- the ranks of what was tried differ, where those of the pairs rise
abbrev pub RanksDiffer : ℕ × ℕ → ℕ × ℕ → Type 0
RanksDiffer q r = q.0 ≢ r.0

pub offers_differ : (place : ℕ → ℕ) (ms : List Try) → Ordered RanksDiffer (map pair_of ms) → Ordered Differ (map (offer_of place) ms)
offers_differ place [] o = tt
offers_differ place (m ∷ ms) o = (
  (λ a i. let c = map_cases (offer_of place) ms a i in subst (Differ (offer_of place m)) c.2 (o.0 (pair_of c.0) (Contains-map pair_of ms c.0 c.1))),
  offers_differ place ms o.1,
)

-- of what the workers kept and was merged, that which is still there is what won, by rising rank
pub merged_won : (place : ℕ → ℕ) (ps merged : List (ℕ × ℕ)) (before after : List Offer) (made : List Try) →
    after ≡ before ++ map (offer_of place) made → IsPermutation (map pair_of made) ps → Ordered RankLess ps → Ordered RanksDiffer (map pair_of made)
    → ((o : Offer) (q : ℕ × ℕ) → Contains before o → Contains ps q → o.rank ≢ q.0) → IsSettled after → IsPermutation (map pair_of (filter answered_true made)) merged → Ordered RankLess merged
    → winners place after merged ≡ winners place after ps
merged_won place ps merged before after made is perm rise differ above settled kept in_order =
    let test : ℕ × ℕ → Bool = is_least place after in
    same_order RankLess (λ x y l m. omega (arith, l, m)) (winners place after merged) (winners place after ps)
    (Ordered-filter RankLess (is_least place after) merged in_order) (Ordered-filter RankLess (is_least place after) ps rise)
    (λ q i.
    let f = filter_member (is_least place after) merged q i in
    let m = map_cases pair_of (filter answered_true made) q (Contains-permutation merged (map pair_of (filter answered_true made)) q
    (IsPermutation-sym (map pair_of (filter answered_true made)) merged kept) f.0) in
    let t = filter_member answered_true made m.0 m.1 in
    Contains-filter (is_least place after) ps q (Contains-permutation (map pair_of made) ps q perm (subst (Contains (map pair_of made)) m.2 (Contains-map pair_of made m.0 t.0))) f.1)
    (λ q i.
    let f = filter_member (is_least place after) ps q i in
    let m = map_cases pair_of made q (Contains-permutation ps (map pair_of made) q (IsPermutation-sym (map pair_of made) ps perm) f.0) in
    let won : answered_true m.0 ≡ true =
    winner_won after before (map (offer_of place) made) is
    (λ a b k l.
    let c = map_cases (offer_of place) made b l in
    subst (λ (o : Offer). a.rank ≢ o.rank) c.2 (above a (pair_of c.0) k (Contains-permutation (map pair_of made) ps (pair_of c.0) perm (Contains-map pair_of made c.0 c.1))))
    (offers_differ place made differ) settled (offer_of place m.0) (Contains-map (offer_of place) made m.0 m.1)
    (subst (λ (r : ℕ × ℕ). is_least place after r ≡ true) (sym m.2) f.1) in
    Contains-filter (is_least place after) merged q
    (Contains-permutation (map pair_of (filter answered_true made)) merged q kept (subst (Contains (map pair_of (filter answered_true made))) m.2
    (Contains-map pair_of (filter answered_true made) m.0 (Contains-filter answered_true made m.0 m.1 won)))) f.1)
