-- The history of a table, and what each step adds to it.
use Rattle.std.proofs.Common.{◌≡◌, ◌≢◌, ℕ, zero, suc, ◌+◌, ◌<◌, ◌≤◌, Bool, cond, ◌&&◌, eqb, ltb, min, List, [], ◌∷◌, ◌++◌, length, get_or, set, sym, refl, ap, ◌∙◌, subst}
use Rattle.std.proofs.Common.{⊎_elim, arith, eq-eqb, ne_eqb, length-set, get_or-set_same, get_or-set_other}
use Rattle.std.proofs.lemmas.List.{length-replicate, map-append, append-nil, append_assoc, get_or-replicate}
use mathlib.Core.Logic.{dite}
use mathlib.Core.Option.{some, some-injective, some-ne-none}
use native.Mathlib.Decide.{ℕ_discrete}
use lib.ListN.{get_elem?}
use Rattle.atomic_table.proofs.Lists.{at_set, at_snoc, set_else}
use Rattle.g1_claim.specs.declared.rule.Offer.{Offer}
use Rattle.g1_claim.specs.declared.rule.Hand.{Hand}
use Rattle.g1_claim.specs.declared.witness.Witness.{Witness}
use Rattle.g1_claim.specs.Claims.{empty, one_if, offer}
use Rattle.g1_claim.specs.History.{History, Begins, least_in, times_in, bids}
use Rattle.g1_claim.specs.Interleaving.{LaterIsLess}
use Rattle.g1_claim.specs.Rule.{Leads, begin, place_offer, see, split, join, hands_total, hands_of, AreWitnesses, after_offer, after_sight, left_hand, right_hand, both_hands, spent_hand}
use Rattle.g1_claim.proofs.Totals.{hands_total-set, hands_total-snoc}

-- lists of offers

pub least_in_top : (p : ℕ) (log : History) → least_in p log ≤ empty
least_in_top p [] = omega arith
least_in_top p (b ∷ log) = let r = least_in_top p log in omega arith

least_in-append : (p : ℕ) (xs ys : History) → least_in p (xs ++ ys) ≡ min (least_in p xs) (least_in p ys)
least_in-append p [] ys = let t = least_in_top p ys in omega arith
least_in-append p (b ∷ xs) ys = let r = least_in-append p xs ys in let n : ℕ = cond (eqb b.0 p) b.1 empty in omega arith

times_in-append : (p r : ℕ) (xs ys : History) → times_in p r (xs ++ ys) ≡ times_in p r xs + times_in p r ys
times_in-append p r [] ys = omega arith
times_in-append p r (b ∷ xs) ys = let t = times_in-append p r xs ys in let n : ℕ = one_if (eqb b.0 p && eqb b.1 r) in omega arith

pub later_is_less : LaterIsLess
later_is_less p seen later b = let a = least_in-append p seen b.0 in let e : least_in p later ≡ least_in p (seen ++ b.0) = ap (least_in p) b.1 in omega arith

-- beginnings

pub begins_all : (log : History) → Begins log log
begins_all log = ([], sym (append-nil log))

pub begins_on : (log more seen : History) → Begins log seen → Begins (log ++ more) seen
begins_on log more seen b = (b.0 ++ more, ap (λ (l : History). l ++ more) b.1 ∙ append_assoc seen b.0 more)

-- the hands of witnesses

pub hands_set : (ws : List Witness) (i : ℕ) (w : Witness) → hands_of (set ws i w) ≡ set (hands_of ws) i w.hand
hands_set [] i w = refl
hands_set (x ∷ ws) zero w = refl
hands_set (x ∷ ws) (suc i) w = ap (λ (l : List Hand). x.hand ∷ l) (hands_set ws i w)

pub hands_at : (ws : List Witness) (i : ℕ) (w : Witness) → get_elem? ws i ≡ some w → get_elem? (hands_of ws) i ≡ some w.hand
hands_at [] i w e = absurd (some-ne-none w (sym e))
hands_at (x ∷ ws) zero w e = ap (λ (z : Witness). some z.hand) (some-injective x w e)
hands_at (x ∷ ws) (suc i) w e = hands_at ws i w e

pub witnesses_set : (log after : History) (ws : List Witness) (i : ℕ) (w : Witness) → AreWitnesses log ws → ((seen : History) → Begins log seen → Begins after seen)
    → Begins after w.seen → Begins after w.told → AreWitnesses after (set ws i w)
witnesses_set log after ws i w are on seen told k u e = ⊎_elim
    (λ (x : (k ≡ i) × (w ≡ u)). subst (λ (z : Witness). Begins after z.seen × Begins after z.told) x.1 (seen, told))
    (λ (x : (k ≢ i) × (get_elem? ws k ≡ some u)). let b = are k u x.1 in (on u.seen b.0, on u.told b.1))
    (at_set ws i k w u e)

pub witnesses_snoc : (log : History) (ws : List Witness) (w : Witness) → AreWitnesses log ws → Begins log w.seen → Begins log w.told → AreWitnesses log (ws ++ w ∷ [])
witnesses_snoc log ws w are seen told k u e = ⊎_elim
    (λ (x : get_elem? ws k ≡ some u). are k u x)
    (λ (x : w ≡ u). subst (λ (z : Witness). Begins log z.seen × Begins log z.told) x (seen, told))
    (at_snoc ws w u k e)

-- what holds of the history after any interleaving: there are n words, each the least of its place, and all hands' offers are those of the history
pub record IsTold (n : ℕ) (words : List ℕ) (hands : List Hand) (log : History) : Type 0 where
  pub long : length words ≡ n
  pub least : (p : ℕ) → p < n → get_or words p 0 ≡ least_in p log
  pub all : (p r : ℕ) → hands_total (λ v. times_in p r (bids v.offers)) hands ≡ times_in p r log

-- a hand that changes and has the same offers
same_made : (hands : List Hand) (k : ℕ) (v w : Hand) (p r : ℕ) → get_elem? hands k ≡ some v → w.offers ≡ v.offers
    → hands_total (λ u. times_in p r (bids u.offers)) (set hands k w) ≡ hands_total (λ u. times_in p r (bids u.offers)) hands
same_made hands k v w p r at same =
    let t = hands_total-set (λ u. times_in p r (bids u.offers)) hands k v w at in
    let e : times_in p r (bids w.offers) ≡ times_in p r (bids v.offers) = ap (λ (os : List Offer). times_in p r (bids os)) same in omega arith

bids_made : (p r : ℕ) (xs ys : List Offer) → times_in p r (bids (xs ++ ys)) ≡ times_in p r (bids xs) + times_in p r (bids ys)
bids_made p r xs ys = ap (times_in p r) (map-append (λ (o : Offer). (o.place, o.rank)) xs ys) ∙ times_in-append p r (bids xs) (bids ys)

offer_told : (n : ℕ) (words : List ℕ) (hands : List Hand) (log : History) (k i r : ℕ) (v : Hand) → IsTold n words hands log → get_elem? hands k ≡ some v → i < n
    → IsTold n (set words i (min (get_or words i 0) r)) (set hands k (after_offer v i r (ltb r (get_or words i 0)))) (log ++ (i, r) ∷ [])
offer_told n words hands log k i r v told at place = record {
  long = length-set words i (min (get_or words i 0) r) ∙ told.long;
  least = λ p lt.
      let a = least_in-append p log ((i, r) ∷ []) in let was = told.least p lt in let top = least_in_top p log in
      dite (ℕ_discrete i p)
      (λ e. let long = told.long in
      let b = subst (λ (t : Bool). least_in p (log ++ (i, r) ∷ []) ≡ min (least_in p log) (min (cond t r empty) empty)) (eq-eqb i p e) a in
      let s : get_or (set words i (min (get_or words i 0) r)) i 0 ≡ min (get_or words i 0) r = get_or-set_same words i (min (get_or words i 0) r) 0 (omega arith) in
      let s' : get_or (set words i (min (get_or words i 0) r)) p 0 ≡ min (get_or words p 0) r = subst (λ (k : ℕ). get_or (set words i (min (get_or words i 0) r)) k 0 ≡ min (get_or words k 0) r) e s in
      omega arith)
      (λ ne. let b = subst (λ (t : Bool). least_in p (log ++ (i, r) ∷ []) ≡ min (least_in p log) (min (cond t r empty) empty)) (ne_eqb i p ne) a in
      let s : get_or (set words i (min (get_or words i 0) r)) p 0 ≡ get_or words p 0 = get_or-set_other words i p (min (get_or words i 0) r) 0 (λ e. ne (sym e)) in omega arith);
  all = λ p q.
      let w : Hand = after_offer v i r (ltb r (get_or words i 0)) in
      let t = hands_total-set (λ u. times_in p q (bids u.offers)) hands k v w at in
      let m = bids_made p q v.offers (offer i r (ltb r (get_or words i 0)) ∷ []) in
      let l = times_in-append p q log ((i, r) ∷ []) in let h = told.all p q in omega arith;
}

-- where the words and the history stay, and all hands together have the same offers
still_told : (n : ℕ) (words : List ℕ) (hands after : List Hand) (log : History) → IsTold n words hands log
    → ((p r : ℕ) → hands_total (λ u. times_in p r (bids u.offers)) after ≡ hands_total (λ u. times_in p r (bids u.offers)) hands) → IsTold n words after log
still_told n words hands after log told same = record { long = told.long; least = told.least; all = (λ p r. same p r ∙ told.all p r) }

pub leads_told : (n : ℕ) (words : List ℕ) (hands : List Hand) (log : History) → Leads n words hands log → IsTold n words hands log
leads_told n _ _ _ begin = record { long = length-replicate n empty; least = (λ p lt. get_or-replicate n p empty 0 lt); all = (λ p r. refl) }
leads_told n _ _ _ (place_offer words hands log k p r v before at some_share place small) = offer_told n words hands log k p r v (leads_told n words hands log before) at place
leads_told n _ _ _ (see words hands log k p v before at some_share place) =
    still_told n words hands (set hands k (after_sight v p (get_or words p 0))) log (leads_told n words hands log before) (λ q r. same_made hands k v (after_sight v p (get_or words p 0)) q r at refl)
leads_told n _ _ _ (split words hands log k v before at two) =
    still_told n words hands (set hands k (left_hand v) ++ right_hand v ∷ []) log (leads_told n words hands log before)
    (λ q r. let a = same_made hands k v (left_hand v) q r at refl in let b = hands_total-snoc (λ u. times_in q r (bids u.offers)) (set hands k (left_hand v)) (right_hand v) in omega arith)
leads_told n _ _ _ (join words hands log k other v u before at some_share apart there more) =
    still_told n words hands (set (set hands k (both_hands v u)) other spent_hand) log (leads_told n words hands log before)
    (λ q r.
    let a = hands_total-set (λ y. times_in q r (bids y.offers)) hands k v (both_hands v u) at in
    let b = hands_total-set (λ y. times_in q r (bids y.offers)) (set hands k (both_hands v u)) other u spent_hand (set_else hands k other (both_hands v u) apart ∙ there) in
    let c = bids_made q r v.offers u.offers in omega arith)
