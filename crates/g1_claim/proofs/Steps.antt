-- Each step of a claim table keeps its rule.
use Rattle.std.proofs.Common.{◌≡◌, ◌≢◌, ℕ, zero, suc, ◌+◌, ◌<◌, ◌≤◌, Bool, true, false, cond, ◌&&◌, eqb, ltb, min, ◌^◌, List, [], ◌∷◌, ◌++◌, length, get_or, set, sym, refl, ap, ◌∙◌, subst}
use Rattle.std.proofs.Common.{⊎_elim, inl, inr, ◌⊎◌, arith, eq-eqb, ne_eqb, lt-ltb, le-ltb, length-set, get_or-set_same, get_or-set_other, replicate}
use Rattle.std.proofs.lemmas.List.{length-replicate, map-append, get_or-replicate}
use mathlib.Core.Logic.{dite}
use mathlib.Core.Option.{none, some, some-injective, some-ne-none}
use native.Mathlib.Decide.{ℕ_discrete, dec_lt}
use lib.ListN.{get_elem?}
use Rattle.atomic_table.specs.Table.{step, keeps, Allows, Splits, Joins}
use Rattle.atomic_table.proofs.Lists.{at_set, at_snoc, set_again, set_here, set_else}
use Rattle.g1_claim.specs.declared.rule.Hand.{Hand}
use Rattle.g1_claim.specs.declared.rule.Sight.{Sight}
use Rattle.g1_claim.specs.declared.rule.Offer.{Offer}
use Rattle.g1_claim.specs.declared.witness.Witness.{Witness}
use Rattle.g1_claim.specs.History.{History, Begins, least_in, times_in, bids, AreSeen, AreAll}
use Rattle.g1_claim.proofs.History.{begins_all, begins_on, hands_set, hands_at, witnesses_set, witnesses_snoc, leads_told}
use Rattle.g1_claim.specs.Claims.{empty, offer, sight, least_rank, least_value, one_if, times_offered, times_won, IsWordOf, IsWonOnce, IsSettled, AreWon}
use Rattle.g1_claim.specs.Rule.{hand, first_hand, hands_total, offers_at, wins_of, least_offered, IsWord, after_offer, after_sight, left_hand, right_hand, both_hands, spent_hand}
use Rattle.g1_claim.specs.Rule.{Leads, begin, place_offer, see, split, join, Claimed, Sat, AreWitnesses, hands_of, witness, first_witness, left_witness, right_witness, both_witnesses, spent_witness, Found, LeastBy, lowered, saw, looked, Won, Beaten, IsKnown}
use Rattle.g1_claim.proofs.Kept.{AreBacked, IsIdle, Claiming}
use Rattle.g1_claim.proofs.Totals.{least_rank_top, least_rank-append, least_value_top, least_value-append, times_offered-append, times_won-append, hands_total-set, hands_total-snoc}
use Rattle.g1_claim.proofs.Totals.{total_le, lowest-set, lowest-set_top, lowest-snoc, lowest_le, lowest_top, shares_of, total_alone, lowest_alone, none_below_all, backed_on, backed-append}

-- what holds of each view

abbrev AllAt : (Hand → Type 0) → List Hand → Type 0
AllAt F vs = (k : ℕ) (v : Hand) → get_elem? vs k ≡ some v → F v

all_set : (F G : Hand → Type 0) (vs : List Hand) (i : ℕ) (w : Hand) → G w → ((v : Hand) → F v → G v) → AllAt F vs → AllAt G (set vs i w)
all_set F G vs i w mine others h k u e = ⊎_elim (λ (x : (k ≡ i) × (w ≡ u)). subst G x.1 mine) (λ (x : (k ≢ i) × (get_elem? vs k ≡ some u)). others u (h k u x.1)) (at_set vs i k w u e)

all_snoc : (F : Hand → Type 0) (vs : List Hand) (w : Hand) → F w → AllAt F vs → AllAt F (vs ++ w ∷ [])
all_snoc F vs w mine h k u e = ⊎_elim (λ (x : get_elem? vs k ≡ some u). h k u x) (λ (x : w ≡ u). subst F x mine) (at_snoc vs w u k e)

abbrev Idle : Hand → Type 0
Idle v = v.shares ≡ 0 → IsIdle v

abbrev Floor : List ℕ → Hand → Type 0
Floor words v = (p : ℕ) → p < length words → get_or words p 0 ≤ least_value p v.known

abbrev Backed : List Hand → Hand → Type 0
Backed vs v = AreBacked v.sights vs

-- the rule, from its parts over other views with the same offers
record Same (l m : List Hand) : Type 0 where
  least : (p : ℕ) → least_offered p m ≡ least_offered p l
  wins : (p q : ℕ) → wins_of p q m ≡ wins_of p q l
  made : (p : ℕ) → offers_at p m ≡ offers_at p l

rekept : (words : List ℕ) (l m : List Hand) → Claiming words l → Same l m → hands_total shares_of m ≡ 64 → AllAt Idle m → AllAt (Floor words) m → AllAt (Backed l) m → Claiming words m
rekept words l m r s shares idle floors backed = record {
  shares = shares;
  idle = idle;
  words_least = λ p lt. let was = r.words_least p lt in (
    was.0 ∙ sym (s.least p),
    ⊎_elim
        (λ (x : (get_or words p 0 ≡ empty) × (offers_at p l ≡ 0)). inl (x.0, s.made p ∙ x.1)) (λ (x : wins_of p (get_or words p 0) l ≡ 1). inr (s.wins p (get_or words p 0) ∙ x)) was.1,
  );
  outside = λ p far. s.made p ∙ r.outside p far;
  once = λ p q. let o = r.once p q in let e = s.wins p q in omega arith;
  floors = floors;
  backed = λ k v e. backed_on v.sights l m (λ p q w. s.wins p q ∙ w) (backed k v e);
}

-- an offer

and_false : (a : Bool) → (a && false) ≡ false
and_false true = refl
and_false false = refl

one_if_le : (a : Bool) → one_if a ≤ 1
one_if_le true = omega arith
one_if_le false = omega arith

-- an offer of the rank r at the place i, which found x: the words, the views and the counts after it
module _ (words : List ℕ) (vs : List Hand) (id : ℕ) (v : Hand) (i r : ℕ) (kept : Claiming words vs) (at : get_elem? vs id ≡ some v) (inside : i < length words) (small : r < 2 ^ 32) where
  abbrev x : ℕ
  x = get_or words i 0

  abbrev w : Hand
  w = after_offer v i r (ltb r x)

  abbrev words' : List ℕ
  words' = set words i (min x r)

  abbrev vs' : List Hand
  vs' = set vs id w

  wins' : (p q : ℕ) → wins_of p q vs' ≡ wins_of p q vs + one_if (eqb i p && (eqb r q && ltb r x))
  wins' p q = let t = hands_total-set (λ u. times_won p q u.offers) vs id v w at in let a = times_won-append p q v.offers (offer i r (ltb r x) ∷ []) in omega arith

  made' : (p : ℕ) → offers_at p vs' ≡ offers_at p vs + one_if (eqb i p)
  made' p = let t = hands_total-set (λ u. times_offered p u.offers) vs id v w at in let a = times_offered-append p v.offers (offer i r (ltb r x) ∷ []) in omega arith

  least' : (p : ℕ) → least_offered p vs' ≡ min (least_offered p vs) (min (cond (eqb i p) r empty) empty)
  least' p = lowest-set (λ u. least_rank p u.offers) vs id v w (min (cond (eqb i p) r empty) empty) at (least_rank-append p v.offers (offer i r (ltb r x) ∷ []))

  falls : (p : ℕ) → get_or words' p 0 ≤ get_or words p 0
  falls p = dite (ℕ_discrete i p)
      (λ e. let s : get_or words' i 0 ≡ min x r = get_or-set_same words i (min x r) 0 inside in subst (λ (k : ℕ). get_or words' k 0 ≤ get_or words k 0) e (omega arith))
      (λ ne. let s : get_or words' p 0 ≡ get_or words p 0 = get_or-set_other words i p (min x r) 0 (λ e. ne (sym e)) in omega arith)

  -- at the place of the offer
  here : IsWord i (min x r) vs'
  here = let was = kept.words_least i inside in let yes = eq-eqb i i refl in
      let l = subst (λ (b : Bool). least_offered i vs' ≡ min (least_offered i vs) (min (cond b r empty) empty)) yes (least' i) in let t = lowest_top (λ u. least_rank i u.offers) vs in (
        omega arith,
        dite (dec_lt r x)
            (λ lt. let n = none_below_all i r vs (omega arith) in
            let c = subst (λ (b : Bool × Bool × Bool). wins_of i r vs' ≡ wins_of i r vs + one_if (b.0 && (b.1 && b.2))) (λ k. (yes k, eq-eqb r r refl k, lt-ltb r x lt k)) (wins' i r) in
            let m : min x r ≡ r = omega arith in inr (subst (λ (k : ℕ). wins_of i k vs' ≡ 1) (sym m) (omega arith)))
            (λ nlt. let m : min x r ≡ x = omega arith in
            let c = subst (λ (b : Bool × Bool). wins_of i x vs' ≡ wins_of i x vs + one_if (b.0 && (eqb r x && b.1))) (λ k. (yes k, le-ltb r x (omega arith) k)) (wins' i x) in
            let d = ap one_if (and_false (eqb r x)) in
            ⊎_elim (λ (e : (x ≡ empty) × (offers_at i vs ≡ 0)). let top = e.0 in absurd (omega arith))
            (λ (e : wins_of i x vs ≡ 1). inr (subst (λ (k : ℕ). wins_of i k vs' ≡ 1) (sym m) (omega arith))) was.1),
      )

  -- elsewhere
  apart : (p : ℕ) → i ≢ p → (wins_of p (get_or words p 0) vs' ≡ wins_of p (get_or words p 0) vs) × (offers_at p vs' ≡ offers_at p vs) × (least_offered p vs' ≡ least_offered p vs)
  apart p ne = let no = ne_eqb i p ne in let t = lowest_top (λ u. least_rank p u.offers) vs in
      let a = subst (λ (b : Bool). wins_of p (get_or words p 0) vs' ≡ wins_of p (get_or words p 0) vs + one_if (b && (eqb r (get_or words p 0) && ltb r x))) no (wins' p (get_or words p 0)) in
      let b = subst (λ (b : Bool). offers_at p vs' ≡ offers_at p vs + one_if b) no (made' p) in
      let c = subst (λ (b : Bool). least_offered p vs' ≡ min (least_offered p vs) (min (cond b r empty) empty)) no (least' p) in
      (omega arith, omega arith, omega arith)

  word' : (p : ℕ) → p < length words → IsWord p (get_or words' p 0) vs'
  word' p lt = dite (ℕ_discrete i p)
      (λ e. subst (λ (k : ℕ). IsWord k (get_or words' k 0) vs') e (subst (λ (n : ℕ). IsWord i n vs') (sym (get_or-set_same words i (min x r) 0 inside)) here))
      (λ ne. let a = apart p ne in let was = kept.words_least p lt in subst (λ (n : ℕ). IsWord p n vs') (sym (get_or-set_other words i p (min x r) 0 (λ e. ne (sym e))))
      (was.0 ∙ sym a.2, ⊎_elim (λ (e : (get_or words p 0 ≡ empty) × (offers_at p vs ≡ 0)). inl (e.0, a.1 ∙ e.1)) (λ (e : wins_of p (get_or words p 0) vs ≡ 1). inr (a.0 ∙ e)) was.1))

  once' : (p q : ℕ) → wins_of p q vs' ≤ 1
  once' p q = let before = kept.once p q in let c = wins' p q in dite (ℕ_discrete i p)
      (λ e. dite (ℕ_discrete r q)
      (λ same. dite (dec_lt r x)
      (λ lt. let was = kept.words_least i inside in let n = none_below_all i r vs (omega arith) in
      let n' = subst (λ (k : ℕ × ℕ). wins_of k.0 k.1 vs ≡ 0) (λ j. (e j, same j)) n in let u = one_if_le (eqb i p && (eqb r q && ltb r x)) in omega arith)
      (λ nlt. let d = subst (λ (b : Bool). wins_of p q vs' ≡ wins_of p q vs + one_if (eqb i p && (eqb r q && b))) (le-ltb r x (omega arith)) c in
      let f = subst (λ (b : Bool). wins_of p q vs' ≡ wins_of p q vs + one_if (eqb i p && b)) (and_false (eqb r q)) d in
      let g = subst (λ (b : Bool). wins_of p q vs' ≡ wins_of p q vs + one_if b) (and_false (eqb i p)) f in omega arith))
      (λ other. let d = subst (λ (b : Bool). wins_of p q vs' ≡ wins_of p q vs + one_if (eqb i p && (b && ltb r x))) (ne_eqb r q other) c in
      let g = subst (λ (b : Bool). wins_of p q vs' ≡ wins_of p q vs + one_if b) (and_false (eqb i p)) d in omega arith))
      (λ ne. let d = subst (λ (b : Bool). wins_of p q vs' ≡ wins_of p q vs + one_if (b && (eqb r q && ltb r x))) (ne_eqb i p ne) c in omega arith)

  still : (p q : ℕ) → wins_of p q vs ≡ 1 → wins_of p q vs' ≡ 1
  still p q one = let a = wins' p q in let b = once' p q in omega arith

  floor_here : Floor words' w
  floor_here p lt = let a = least_value-append p v.known (sight i r ∷ []) in let old : p < length words = subst (λ (n : ℕ). p < n) (length-set words i (min x r)) lt in
      let f = kept.floors id v at p old in let t = least_value_top p v.known in dite (ℕ_discrete i p)
      (λ e. let b = subst (λ (b : Bool). least_value p (v.known ++ sight i r ∷ []) ≡ min (least_value p v.known) (min (cond b r empty) empty)) (eq-eqb i p e) a in
      let s : get_or words' i 0 ≡ min x r = get_or-set_same words i (min x r) 0 inside in
      let s' : get_or words' p 0 ≡ min (get_or words p 0) r = subst (λ (k : ℕ). get_or words' k 0 ≡ min (get_or words k 0) r) e s in omega arith)
      (λ ne. let b = subst (λ (b : Bool). least_value p (v.known ++ sight i r ∷ []) ≡ min (least_value p v.known) (min (cond b r empty) empty)) (ne_eqb i p ne) a in
      let s : get_or words' p 0 ≡ get_or words p 0 = get_or-set_other words i p (min x r) 0 (λ e. ne (sym e)) in omega arith)

  pub offer_keeps : 0 < v.shares → Claiming words' vs'
  offer_keeps some_share = record {
    shares = let t = hands_total-set shares_of vs id v w at in let k = kept.shares in omega arith;
    idle = all_set Idle Idle vs id w (λ none_left. absurd (omega arith)) (λ u h. h) kept.idle;
    words_least = λ p lt. word' p (subst (λ (n : ℕ). p < n) (length-set words i (min x r)) lt);
    outside = λ p far. let old : length words ≤ p = subst (λ (n : ℕ). n ≤ p) (length-set words i (min x r)) far in let a = apart p (λ (e : i ≡ p). absurd (omega arith)) in a.1 ∙ kept.outside p old;
    once = once';
    floors = all_set (Floor words) (Floor words') vs id w floor_here (λ u h p lt. let f =
        h p (subst (λ (n : ℕ). p < n) (length-set words i (min x r)) lt) in let g = falls p in omega arith) kept.floors;
    backed = all_set (Backed vs) (Backed vs') vs id w (backed_on v.sights vs vs' still (kept.backed id v at)) (λ u h. backed_on u.sights vs vs' still h) kept.backed;
  }

-- a view that changes and has the same offers
module _ (vs : List Hand) (id : ℕ) (v w : Hand) (at : get_elem? vs id ≡ some v) (same : w.offers ≡ v.offers) where
  revised : Same vs (set vs id w)
  revised = record {
    least = λ p. let t = lowest_top (λ u. least_rank p u.offers) vs in let e : least_rank p w.offers ≡ least_rank p v.offers = ap (least_rank p) same in let o = least_rank_top p v.offers in
        let r = lowest-set (λ u. least_rank p u.offers) vs id v w empty at (omega arith) in omega arith;
    wins = λ p q. let e : times_won p q w.offers ≡ times_won p q v.offers = ap (times_won p q) same in let t = hands_total-set (λ u. times_won p q u.offers) vs id v w at in omega arith;
    made = λ p. let e : times_offered p w.offers ≡ times_offered p v.offers = ap (times_offered p) same in let t = hands_total-set (λ u. times_offered p u.offers) vs id v w at in omega arith;
  }

at_word : (l : List ℕ) (i : ℕ) → i < length l → get_elem? l i ≡ some (get_or l i 0)
at_word [] i h = absurd (omega arith)
at_word (y ∷ ys) zero h = refl
at_word (y ∷ ys) (suc i) h = at_word ys i (omega arith)

set_same : (words : List ℕ) (i : ℕ) → i < length words → set words i (get_or words i 0) ≡ words
set_same words i h = set_again words i (get_or words i 0) (at_word words i h)

-- a sight of the place i, which found x
module _ (words : List ℕ) (vs : List Hand) (id : ℕ) (v : Hand) (i : ℕ) (kept : Claiming words vs) (at : get_elem? vs id ≡ some v) (inside : i < length words) where
  abbrev found : ℕ
  found = get_or words i 0

  floor_seen : Floor words (after_sight v i found)
  floor_seen p lt = let a = least_value-append p v.known (sight i found ∷ []) in let f = kept.floors id v at p lt in let t = least_value_top p v.known in dite (ℕ_discrete i p)
      (λ e. let b = subst (λ (b : Bool). least_value p (v.known ++ sight i found ∷ []) ≡ min (least_value p v.known) (min (cond b found empty) empty)) (eq-eqb i p e) a in
      let s : get_or words p 0 ≡ found = ap (λ (k : ℕ). get_or words k 0) (sym e) in omega arith)
      (λ ne. let b = subst (λ (b : Bool). least_value p (v.known ++ sight i found ∷ []) ≡ min (least_value p v.known) (min (cond b found empty) empty)) (ne_eqb i p ne) a in omega arith)

  backed_seen : AreBacked (v.sights ++ sight i found ∷ []) vs
  backed_seen = backed-append v.sights (sight i found ∷ []) vs (kept.backed id v at)
      (⊎_elim (λ (e : (found ≡ empty) × (offers_at i vs ≡ 0)). inl e.0) (λ (e : wins_of i found vs ≡ 1). inr e) (kept.words_least i inside).1, tt)

  pub sight_keeps : 0 < v.shares → Claiming words (set vs id (after_sight v i found))
  sight_keeps some_share = let w : Hand = after_sight v i found in rekept words vs (set vs id w) kept (revised vs id v w at refl)
      (let t = hands_total-set shares_of vs id v w at in let k = kept.shares in omega arith)
      (all_set Idle Idle vs id w (λ none_left. absurd (omega arith)) (λ u h. h) kept.idle)
      (all_set (Floor words) (Floor words) vs id w floor_seen (λ u h. h) kept.floors)
      (all_set (Backed vs) (Backed vs) vs id w backed_seen (λ u h. h) kept.backed)

-- a share is handed on
module _ (words : List ℕ) (vs : List Hand) (id : ℕ) (v : Hand) (kept : Claiming words vs) (at : get_elem? vs id ≡ some v) (two : 1 < v.shares) where
  abbrev l : Hand
  l = left_hand v

  abbrev mid : List Hand
  mid = set vs id l

  split_same : Same vs (mid ++ right_hand v ∷ [])
  split_same = let s = revised vs id v l at refl in record {
    least = λ p. let a = s.least p in let t = lowest_top (λ u. least_rank p u.offers) mid in let b = lowest-snoc (λ u. least_rank p u.offers) mid (right_hand v) in omega arith;
    wins = λ p q. let a = s.wins p q in let b = hands_total-snoc (λ u. times_won p q u.offers) mid (right_hand v) in omega arith;
    made = λ p. let a = s.made p in let b = hands_total-snoc (λ u. times_offered p u.offers) mid (right_hand v) in omega arith;
  }

  pub after_split : Claiming words (mid ++ right_hand v ∷ [])
  after_split = rekept words vs (mid ++ right_hand v ∷ []) kept split_same
      (let t = hands_total-set shares_of vs id v l at in let u = hands_total-snoc shares_of mid (right_hand v) in let k = kept.shares in omega arith)
      (all_snoc Idle mid (right_hand v) (λ none_left. absurd (omega arith)) (all_set Idle Idle vs id l (λ none_left. absurd (omega arith)) (λ u h. h) kept.idle))
      (all_snoc (Floor words) mid (right_hand v) (kept.floors id v at) (all_set (Floor words) (Floor words) vs id l (kept.floors id v at) (λ u h. h) kept.floors))
      (all_snoc (Backed vs) mid (right_hand v) tt (all_set (Backed vs) (Backed vs) vs id l (kept.backed id v at) (λ u h. h) kept.backed))

-- two seats become one
module _ (words : List ℕ) (vs : List Hand) (id : ℕ) (v : Hand) (other : ℕ) (u : Hand) (kept : Claiming words vs) (at : get_elem? vs id ≡ some v)
    (two : ¬ (other ≡ id)) (at' : get_elem? (set vs id (both_hands v u)) other ≡ some u) where
  abbrev both : Hand
  both = both_hands v u

  abbrev spent : Hand
  spent = hand 0 [] [] []

  abbrev half : List Hand
  half = set vs id both

  abbrev whole : List Hand
  whole = set half other spent

  was_at : get_elem? vs other ≡ some u
  was_at = sym (set_else vs id other both two) ∙ at'

  id_inside : (l : List Hand) (i : ℕ) (y : Hand) → get_elem? l i ≡ some y → i < length l
  id_inside [] i y e = absurd (some-ne-none y (sym e))
  id_inside (z ∷ zs) zero y e = omega arith
  id_inside (z ∷ zs) (suc i) y e = let r = id_inside zs i y e in omega arith

  still_both : get_elem? whole id ≡ some both
  still_both = set_else half other id spent (λ e. two (sym e)) ∙ set_here vs id both (id_inside vs id v at)

  join_same : Same vs whole
  join_same = record {
    least = λ p. let f = λ (y : Hand). least_rank p y.offers in let a = least_rank-append p v.offers u.offers in
        let b = lowest-set (λ y. least_rank p y.offers) vs id v both (least_rank p u.offers) at a in let c = lowest_le (λ y. least_rank p y.offers) vs other u was_at in
        let d = lowest-set_top (λ y. least_rank p y.offers) half other u spent at' refl in let e = lowest_le (λ y. least_rank p y.offers) whole id both still_both in omega arith;
    wins = λ p q. let a = times_won-append p q v.offers u.offers in let b = hands_total-set (λ y. times_won p q y.offers) vs id v both at in let c =
        hands_total-set (λ y. times_won p q y.offers) half other u spent at' in omega arith;
    made = λ p. let a = times_offered-append p v.offers u.offers in let b = hands_total-set (λ y. times_offered p y.offers) vs id v both at in let c =
        hands_total-set (λ y. times_offered p y.offers) half other u spent at' in omega arith;
  }

  floor_both : Floor words both
  floor_both p lt = let a = least_value-append p v.known u.known in let b = kept.floors id v at p lt in let c = kept.floors other u was_at p lt in omega arith

  floor_spent : Floor words spent
  floor_spent p lt = let a = kept.floors id v at p lt in let b = least_value_top p v.known in omega arith

  pub after_join : 0 < v.shares → Claiming words whole
  after_join some_share = rekept words vs whole kept join_same
      (let t = hands_total-set shares_of vs id v both at in let s = hands_total-set shares_of half other u spent at' in let k = kept.shares in omega arith)
      (all_set Idle Idle half other spent (λ _. (refl, refl)) (λ y h. h) (all_set Idle Idle vs id both (λ none_left. absurd (omega arith)) (λ y h. h) kept.idle))
      (all_set (Floor words) (Floor words) half other spent floor_spent (λ y h. h) (all_set (Floor words) (Floor words) vs id both floor_both (λ y h. h) kept.floors))
      (all_set (Backed vs) (Backed vs) half other spent tt (λ y h. h) (all_set (Backed vs) (Backed vs) vs id both
      (backed-append v.sights u.sights vs (kept.backed id v at) (kept.backed other u was_at)) (λ y h. h) kept.backed))

-- the table at the start

only : (F : Hand → Type 0) (one : Hand) → F one → AllAt F (one ∷ [])
only F one f zero u e = subst F (some-injective one u e) f
only F one f (suc k) u e = absurd (some-ne-none u (sym e))

pub begins : (words : List ℕ) (n : ℕ) → words ≡ replicate n empty → Claiming words (hand 64 [] [] [] ∷ [])
begins words n is = let one : Hand = hand 64 [] [] [] in
    let start : (p : ℕ) → p < length words → get_or words p 0 ≡ empty = λ p lt. ap (λ (l : List ℕ). get_or l p 0) is
    ∙ get_or-replicate n p empty 0 (let a : length words ≡ n = ap length is ∙ length-replicate n empty in omega arith) in record {
      shares = refl;
      idle = only Idle one (λ none_left. (refl, refl));
      words_least = λ p lt. let e = start p lt in (e, inl (e, refl));
      outside = λ p far. refl;
      once = λ p q. omega arith;
      floors = only (Floor words) one (λ p lt. let e = start p lt in omega arith);
      backed = only (Backed (one ∷ [])) one tt;
    }

-- what a seat learns

module _ (v : Hand) (words : List ℕ) (vs : List Hand) (kept : Claiming words vs) (id : ℕ) (at : get_elem? vs id ≡ some v) where
  pub at_most_all : v.shares ≤ 64
  at_most_all = let a = total_le shares_of vs id v at in let b = kept.shares in omega arith

  pub once_each : IsWonOnce v.offers
  once_each p q = let a = total_le (λ u. times_won p q u.offers) vs id v at in let b = kept.once p q in omega arith

  module _ (whole : v.shares ≡ 64) where
    alone : hands_total shares_of vs ≡ v.shares
    alone = kept.shares ∙ sym whole

    pub word_of : (p : ℕ) → p < length words → IsWordOf p (get_or words p 0) v.offers
    word_of p lt = let was = kept.words_least p lt in
        let l = lowest_alone (λ u. least_rank p u.offers) empty vs id v at refl (least_rank_top p v.offers) (λ k u e s. ap (least_rank p) (kept.idle k u e s).0) alone in
        let m = total_alone (λ u. times_offered p u.offers) 0 vs id v at refl (λ k u e s. ap (times_offered p) (kept.idle k u e s).0) alone in
        let w = total_alone (λ u. times_won p (get_or words p 0) u.offers) 0 vs id v at refl (λ k u e s. ap (times_won p (get_or words p 0)) (kept.idle k u e s).0) alone in
        (was.0 ∙ l, ⊎_elim (λ (e : (get_or words p 0 ≡ empty) × (offers_at p vs ≡ 0)). inl (e.0, sym m ∙ e.1)) (λ (e : wins_of p (get_or words p 0) vs ≡ 1). inr (sym w ∙ e)) was.1)

    pub settled : IsSettled v.offers
    settled p = dite (dec_lt p (length words))
        (λ lt. let w = word_of p lt in ⊎_elim (λ (e : (get_or words p 0 ≡ empty) × (times_offered p v.offers ≡ 0)). inl e.1)
        (λ (e : times_won p (get_or words p 0) v.offers ≡ 1). inr (subst (λ (k : ℕ). times_won p k v.offers ≡ 1) w.0 e)) w.1)
        (λ far. let m = total_alone (λ u. times_offered p u.offers) 0 vs id v at refl (λ k u e s. ap (times_offered p) (kept.idle k u e s).0) alone in inl (sym m ∙ kept.outside p (omega arith)))

    backed_alone : (ss : List Sight) → AreBacked ss vs → AreWon ss v.offers
    backed_alone [] b = tt
    backed_alone (s ∷ ss) b =
        let w = total_alone (λ u. times_won s.place s.value u.offers) 0 vs id v at refl (λ k u e z. ap (times_won s.place s.value) (kept.idle k u e z).0) alone in
        (⊎_elim (λ (e : s.value ≡ empty). inl e) (λ (e : wins_of s.place s.value vs ≡ 1). inr (sym w ∙ e)) b.0, backed_alone ss b.1)

    pub seen : AreWon v.sights v.offers
    seen = backed_alone v.sights (kept.backed id v at)

  pub known : IsKnown v
  known = (at_most_all, once_each, settled, seen)

-- that holds after any interleaving, and there are as many words as places
pub leads_keeps : (n : ℕ) (words : List ℕ) (hands : List Hand) (log : History) → Leads n words hands log → (length words ≡ n) × Claiming words hands
leads_keeps n _ _ _ begin = (length-replicate n empty, begins (replicate n empty) n refl)
leads_keeps n _ _ _ (place_offer words hands log k p r v before at some_share inside small) =
    let kept = leads_keeps n words hands log before in
    let there = subst (λ m. p < m) (sym kept.0) inside in
    (length-set words p (min (get_or words p 0) r) ∙ kept.0, offer_keeps words hands k v p r kept.1 at there small some_share)
leads_keeps n _ _ _ (see words hands log k p v before at some_share inside) =
    let kept = leads_keeps n words hands log before in
    let there = subst (λ m. p < m) (sym kept.0) inside in
    (kept.0, sight_keeps words hands k v p kept.1 at there some_share)
leads_keeps n _ _ _ (split words hands log k v before at two) =
    let kept = leads_keeps n words hands log before in
    (kept.0, after_split words hands k v kept.1 at two)
leads_keeps n _ _ _ (join words hands log k other v u before at some_share apart there _) =
    let kept = leads_keeps n words hands log before in
    (kept.0, after_join words hands k v other u kept.1 at apart (set_else hands k other (both_hands v u) apart ∙ there) some_share)

-- the calls of the table

within : (l : List Hand) (i : ℕ) (y : Hand) → get_elem? l i ≡ some y → i < length l
within [] i y e = absurd (some-ne-none y (sym e))
within (z ∷ zs) zero y e = omega arith
within (z ∷ zs) (suc i) y e = let r = within zs i y e in omega arith

-- the offers of a hand have been seen by whoever has seen the whole history
own : (n : ℕ) (words : List ℕ) (hands : List Hand) (log : History) (k : ℕ) (v : Hand) → Leads n words hands log → get_elem? hands k ≡ some v → AreSeen v.offers log
own n words hands log k v leads at p r = let t = total_le (λ u. times_in p r (bids u.offers)) hands k v at in let all = (leads_told n words hands log leads).all p r in omega arith

-- the word at a moment is the least rank that all seats have offered there
least_at : (words : List ℕ) (vs : List Hand) (log : History) (k : ℕ) (v : Hand) (p x : ℕ) → Leads (length words) words vs log → get_elem? vs k ≡ some v → p < length words → get_or words p 0 ≡ x
    → LeastBy v p x log
least_at words vs log k v p x leads at inside is = (words, vs, leads, (k, at), inside, sym is ∙ ((leads_keeps (length words) words vs log leads).1.words_least p inside).0)

pub offers : (n slots id : ℕ) (me : Sat) (i r : ℕ) → 0 < me.0.hand.shares → i < n → r < 2 ^ 32
    → Allows (Claimed n) slots id me i (λ x. min x r) (lowered (step slots i r 0 none) me)
offers n slots id me i r share place small s ruled _ at _ =
    let inside : i < length s.words = subst (λ (k : ℕ). i < k) (sym ruled.0) place in
    let vs : List Hand = hands_of s.views in let v : Hand = me.0.hand in let log : History = ruled.1.0 in let x : ℕ = get_or s.words i 0 in
    let later : History = log ++ (i, r) ∷ [] in let w : Witness = witness (after_offer v i r (ltb r x)) later me.0.told in
    let stood : get_elem? vs id ≡ some v = hands_at s.views id me.0 at in let mine = ruled.1.2 id me.0 at in
    let after : Leads n (set s.words i (min x r)) (set vs id w.hand) later = place_offer s.words vs log id i r v ruled.1.1 stood share place small in
    let now : get_elem? (set vs id w.hand) id ≡ some w.hand = set_here vs id w.hand (within vs id v stood) in
    let here = subst (λ (k : ℕ). Leads k s.words vs log) (sym ruled.0) ruled.1.1 in
    let was = (leads_told n s.words vs log ruled.1.1).least i place in (
      w,
      keeps,
      tt,
      (
        length-set s.words i (min x r) ∙ ruled.0,
        (
          later,
          subst (λ (hs : List Hand). Leads n (set s.words i (min x r)) hs later) (sym (hands_set s.views id w)) after,
          witnesses_set log later s.views id w ruled.1.2 (λ seen b. begins_on log ((i, r) ∷ []) seen b) (begins_all later) (begins_on log ((i, r) ∷ []) me.0.told mine.1),
        ),
      ),
      (
        (refl, refl),
        (s.words, vs, ((log, here), (id, stood)), inside, refl),
        known w.hand (set s.words i (min x r)) (set vs id w.hand) (leads_keeps n (set s.words i (min x r)) (set vs id w.hand) later after).1 id now,
        (mine.0.0, ap (λ (l : History). l ++ (i, r) ∷ []) mine.0.1, ap (ltb r) (was ∙ ap (least_in i) mine.0.1)),
        own n (set s.words i (min x r)) (set vs id w.hand) later id w.hand after now,
        (log, least_at s.words vs log id v i x here stood inside refl, refl),
      ),
    )

pub looks : (n slots id : ℕ) (me : Sat) (i : ℕ) → 0 < me.0.hand.shares → i < n → Allows (Claimed n) slots id me i (λ x. x) (saw (step slots i 0 0 none) me)
looks n slots id me i share place s ruled _ at _ =
    let inside : i < length s.words = subst (λ (k : ℕ). i < k) (sym ruled.0) place in
    let vs : List Hand = hands_of s.views in let v : Hand = me.0.hand in let log : History = ruled.1.0 in let x : ℕ = get_or s.words i 0 in
    let w : Witness = witness (after_sight v i x) log me.0.told in
    let stood : get_elem? vs id ≡ some v = hands_at s.views id me.0 at in let mine = ruled.1.2 id me.0 at in
    let after : Leads n s.words (set vs id w.hand) log = see s.words vs log id i v ruled.1.1 stood share place in
    let now : get_elem? (set vs id w.hand) id ≡ some w.hand = set_here vs id w.hand (within vs id v stood) in
    let here = subst (λ (k : ℕ). Leads k s.words vs log) (sym ruled.0) ruled.1.1 in (
      w,
      keeps,
      tt,
      (
        length-set s.words i x ∙ ruled.0,
        (
          log,
          subst (λ (z : List ℕ × List Hand). Leads n z.0 z.1 log) (λ j. (sym (set_same s.words i inside) j, sym (hands_set s.views id w) j)) after,
          witnesses_set log log s.views id w ruled.1.2 (λ seen b. b) (begins_all log) mine.1,
        ),
      ),
      (
        (refl, refl),
        (s.words, vs, ((log, here), (id, stood)), inside, refl),
        known w.hand s.words (set vs id w.hand) (leads_keeps n s.words (set vs id w.hand) log after).1 id now,
        (mine.0, (leads_told n s.words vs log ruled.1.1).least i place),
        own n s.words (set vs id w.hand) log id w.hand after now,
        least_at s.words vs log id v i x here stood inside refl,
      ),
    )

pub splits : (n id : ℕ) (w : Witness) → 1 < w.hand.shares → Splits (Claimed n) id w (left_witness w) (right_witness w)
splits n id w two s ruled at =
    let vs : List Hand = hands_of s.views in let log : History = ruled.1.0 in let mine = ruled.1.2 id w at in
    let hands : hands_of (set s.views id (left_witness w) ++ right_witness w ∷ []) ≡ set vs id (left_hand w.hand) ++ right_hand w.hand ∷ [] =
    map-append (λ (u : Witness). u.hand) (set s.views id (left_witness w)) (right_witness w ∷ []) ∙ ap (λ (l : List Hand). l ++ right_hand w.hand ∷ []) (hands_set s.views id (left_witness w)) in (
      ruled.0,
      (
        log,
        subst (λ (hs : List Hand). Leads n s.words hs log) (sym hands) (split s.words vs log id w.hand ruled.1.1 (hands_at s.views id w at) two),
        witnesses_snoc log (set s.views id (left_witness w)) (right_witness w) (witnesses_set log log s.views id (left_witness w) ruled.1.2 (λ seen b. b) mine.0 mine.1) mine.0 (log, refl),
      ),
    )

pub joins : (n id : ℕ) (w : Witness) (other : ℕ) (u : Witness) → 0 < w.hand.shares → 0 < u.hand.shares → Joins (Claimed n) id w other u (both_witnesses w u) spent_witness
joins n id w other u share more s ruled at two at' =
    let vs : List Hand = hands_of s.views in let log : History = ruled.1.0 in let both : Witness = both_witnesses w u in
    let there : get_elem? s.views other ≡ some u = sym (set_else s.views id other both two) ∙ at' in
    let mine = ruled.1.2 id w at in let theirs = ruled.1.2 other u there in
    let hands : hands_of (set (set s.views id both) other spent_witness) ≡ set (set vs id both.hand) other spent_hand =
    hands_set (set s.views id both) other spent_witness ∙ ap (λ (l : List Hand). set l other spent_hand) (hands_set s.views id both) in (
      ruled.0,
      (
        log,
        subst (λ (hs : List Hand). Leads n s.words hs log) (sym hands) (join s.words vs log id other w.hand u.hand ruled.1.1 (hands_at s.views id w at) share two (hands_at s.views other u there) more),
        witnesses_set log log (set s.views id both) other spent_witness (witnesses_set log log s.views id both ruled.1.2 (λ seen b. b) mine.0 theirs.0) (λ seen b. b) (log, refl) (log, refl),
      ),
    )

pub stands : (n slots id : ℕ) (me : Sat) → 0 < n → Allows (Claimed n) slots id me 0 (λ x. x) (looked (step slots 0 0 0 none) me)
stands n slots id me some_word s ruled _ at _ =
    let inside : 0 < length s.words = subst (λ (k : ℕ). 0 < k) (sym ruled.0) some_word in
    let vs : List Hand = hands_of s.views in let v : Hand = me.0.hand in let log : History = ruled.1.0 in let w : Witness = witness v log me.0.told in
    let stood : get_elem? vs id ≡ some v = hands_at s.views id me.0 at in let mine = ruled.1.2 id me.0 at in (
      w,
      keeps,
      tt,
      (
        length-set s.words 0 (get_or s.words 0 0) ∙ ruled.0,
        (
          log,
          subst (λ (z : List ℕ × List Hand). Leads n z.0 z.1 log) (λ j. (sym (set_same s.words 0 inside) j, sym (hands_set s.views id w ∙ set_again vs id v stood) j)) ruled.1.1,
          witnesses_set log log s.views id w ruled.1.2 (λ seen b. b) (begins_all log) mine.1,
        ),
      ),
      ((refl, refl), known v s.words vs (leads_keeps n s.words vs log ruled.1.1).1 id stood, (mine.0, mine.1), own n s.words vs log id v ruled.1.1 stood),
    )

-- a new table keeps its rule
pub opens : (words : List ℕ) (n : ℕ) → words ≡ replicate n empty
    → (length words ≡ n) × ((log : History) × Leads n words (hands_of (first_witness ∷ [])) log × AreWitnesses log (first_witness ∷ []))
opens words n is = (
  ap length is ∙ length-replicate n empty,
  ([], subst (λ (ws : List ℕ). Leads n ws (first_hand ∷ []) []) (sym is) begin, first),
)
  where
    first : AreWitnesses [] (first_witness ∷ [])
    first zero w e = subst (λ (z : Witness). Begins [] z.seen × Begins [] z.told) (some-injective first_witness w e) (([], refl), ([], refl))
    first (suc k) w e = absurd (some-ne-none w (sym e))

-- what the words of a closed table are
pub closed_history : (n id : ℕ) (w : Witness) (words : List ℕ) (views : List Witness) → Claimed n record { words = words; homes = []; views = views } → get_elem? views id ≡ some w → w.hand.shares ≡ 64
    → (log : History) × Begins log w.seen × AreAll w.hand.offers log × ((p : ℕ) → p < n → get_or words p 0 ≡ least_in p log)
closed_history n id w words views ruled at whole =
    let vs : List Hand = hands_of views in let log : History = ruled.1.0 in let told = leads_told n words vs log ruled.1.1 in
    let kept = (leads_keeps n words vs log ruled.1.1).1 in let stood : get_elem? vs id ≡ some w.hand = hands_at views id w at in (
      log,
      (ruled.1.2 id w at).0,
      (λ p r. sym (total_alone (λ u. times_in p r (bids u.offers)) 0 vs id w.hand stood refl (λ k u e z. ap (λ (os : List Offer). times_in p r (bids os)) (kept.idle k u e z).0) (kept.shares ∙ sym whole)) ∙ told.all p r),
      told.least,
    )

-- what is known of a new seat, and of the two that a split makes
pub first_known : IsKnown first_hand
first_known = (omega arith, (λ p r. omega arith), (λ all p. inl refl), (λ all. tt))

pub left_known : (v : Hand) → 1 < v.shares → IsKnown v → IsKnown (left_hand v)
left_known v two k = let most = k.0 in (omega arith, k.1, (λ all. absurd (omega arith)), (λ all. absurd (omega arith)))

pub right_known : (v : Hand) → IsKnown (right_hand v)
right_known v = (omega arith, (λ p r. omega arith), (λ all. absurd (omega arith)), (λ all. tt))

-- what callers learn of a step

pub found_floor : (v : Hand) (p n : ℕ) → Found v p n → n ≤ least_value p v.known
found_floor v p n f = let h = (leads_keeps (length f.0) f.0 f.1 f.2.0.0 f.2.0.1).1.floors f.2.1.0 v f.2.1.1 p f.3 in let e = f.4 in omega arith

pub found_word : (v : Hand) (p n : ℕ) → Found v p n → v.shares ≡ 64 → IsWordOf p n v.offers
found_word v p n f whole = subst (λ (k : ℕ). IsWordOf p k v.offers) f.4 (word_of v f.0 f.1 (leads_keeps (length f.0) f.0 f.1 f.2.0.0 f.2.0.1).1 f.2.1.0 f.2.1.1 whole p f.3)

pub found_won : (v : Hand) (p n : ℕ) → Found v p n → (n ≡ empty) ⊎ Won v p n
found_won v p n f = let w : IsWord p n f.1 = subst (λ (k : ℕ). IsWord p k f.1) f.4 ((leads_keeps (length f.0) f.0 f.1 f.2.0.0 f.2.0.1).1.words_least p f.3) in
    ⊎_elim (λ (e : (n ≡ empty) × (offers_at p f.1 ≡ 0)). inl e.0) (λ (e : wins_of p n f.1 ≡ 1). inr (f.0, f.1, f.2, e)) w.1

pub found_beaten : (v : Hand) (p n r : ℕ) → Found v p n → n ≤ r → r < 2 ^ 32 → Beaten v p r
found_beaten v p n r f le small = (n, le, ⊎_elim (λ (e : n ≡ empty). absurd (omega arith)) (λ (w : Won v p n). w) (found_won v p n f))

pub read_word : (l : List ℕ) (i n : ℕ) → get_elem? l i ≡ some n → get_or l i 0 ≡ n
read_word [] i n e = absurd (some-ne-none n (sym e))
read_word (y ∷ ys) zero n e = some-injective y n e
read_word (y ∷ ys) (suc i) n e = read_word ys i n e
