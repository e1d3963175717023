-- Each step on the cursor is one of an interleaving.
use Rattle.std.proofs.Common.{◌≡◌, ℕ, zero, suc, ◌+◌, ◌%◌, ◌^◌, ◌<◌, min, false, List, [], ◌∷◌, length, get_or, set, sym, refl, ap, ◌∙◌, subst}
use Rattle.std.proofs.Common.{arith, length-set, get_or-set_same, lt_of_not-le}
use mathlib.Core.Logic.{dite}
use mathlib.Core.Option.{none, some, some-injective, some-ne-none}
use native.Mathlib.Decide.{dec_le}
use lib.ListN.{get_elem?}
use Rattle.atomic_table.specs.Table.{State, step, keeps, stepped, Allows, Splits, Joins, Final, Seen}
use Rattle.atomic_table.proofs.Lists.{set_again, set_here, set_else}
use Rattle.g1_deal.specs.declared.rule.Hand.{Hand}
use Rattle.g1_deal.specs.Dealer.{once_below}
use Rattle.g1_deal.specs.Rule.{Dealt, DrawnBy, Sat, first_hand, after_draw, after_none, after_look, drew, saw, looked, left_hand, right_hand, both_hands, spent_hand}
use Rattle.g1_deal.specs.Rule.{Leads, begin, draw, past, see, split, join}
use Rattle.g1_deal.proofs.Counts.{none_below}
use Rattle.g1_deal.proofs.Kept.{IsSound, Dealing}
use Rattle.g1_deal.proofs.Steps.{total_weigh, total_whole, total_at, there, known_at, draws_one, draws_none, looks_at, splits_kept, joins_kept}

first_sound : (chunks k : ℕ) (v : Hand) → get_elem? (first_hand chunks ∷ []) k ≡ some v → IsSound chunks (min 0 chunks) v
first_sound chunks zero v e = subst (λ (z : Hand). IsSound chunks (min 0 chunks) z) (some-injective (first_hand chunks) v e) record {
  chunks_is = (λ _. refl);
  idle_draws = (λ _. refl);
  idle_steps = (λ _. refl);
  floor_seen = (omega arith);
  none_is_end = (λ h. absurd (cc));
}
first_sound chunks (suc k) v e = absurd (some-ne-none v (sym e))

first_keeps : (chunks : ℕ) → chunks < 2 ^ 32 → Dealing chunks 0 (first_hand chunks ∷ [])
first_keeps chunks small = record {
  few = small;
  shares = refl;
  draws = (λ x. let e = none_below x in let m : min 0 chunks ≡ 0 = omega arith in sym (subst (λ n. once_below x n ≡ 0) (sym m) e));
  count = (let m : min 0 chunks ≡ 0 = omega arith in sym m);
  steps = refl;
  bound = (omega arith);
  each = first_sound chunks;
}

abbrev state : ℕ → List Hand → State (Unit {0}) Hand
state cursor hands = record { words = cursor ∷ []; homes = []; views = hands }

-- the rule holds after any interleaving
pub leads_keeps : (chunks cursor : ℕ) (hands : List Hand) → Leads chunks cursor hands → Dealing chunks cursor hands
leads_keeps chunks _ _ (begin small) = first_keeps chunks small
leads_keeps chunks _ _ (draw cursor hands k v before at share fresh lt) = draws_one chunks cursor k hands v (leads_keeps chunks cursor hands before) at share fresh lt
leads_keeps chunks _ _ (past cursor hands k v before at share fresh le) = draws_none chunks cursor k hands v (leads_keeps chunks cursor hands before) at share fresh le
leads_keeps chunks _ _ (see cursor hands k v before at share) =
    let kept = leads_keeps chunks cursor hands before in
    looks_at chunks cursor k (min cursor chunks) hands v kept at (omega arith) (kept.each k v at).floor_seen
leads_keeps chunks _ _ (split cursor hands k v before at two) =
    let kept = leads_keeps chunks cursor hands before in
    (splits_kept chunks k v two (state cursor hands) (refl, kept) at).1
leads_keeps chunks _ _ (join cursor hands k other v u before at share apart there more) =
    let kept = leads_keeps chunks cursor hands before in
    let sv = kept.each k v at in let su = kept.each other u there in
    let iv = sv.chunks_is share in let iu = su.chunks_is more in let fv = sv.floor_seen in let fu = su.floor_seen in
    (joins_kept chunks k other v u share more (omega arith) (omega arith) (state cursor hands) (refl, kept) at apart (set_else hands k other (both_hands v u) apart ∙ there)).1

placed : (chunks m id : ℕ) (s : State (Unit {0}) Hand) (me : Sat) (w : Hand) → length s.words ≡ 1 → Leads chunks m (set s.views id w) → Dealt chunks (stepped s 0 m id me.1 w keeps)
placed chunks m id s me w wide d = (length-set s.words 0 m ∙ wide, subst (λ (z : ℕ). Leads chunks z (set s.views id w)) (sym (get_or-set_same s.words 0 m 0 (omega arith))) d)

-- what all seats have drawn at a moment, with a hand among theirs
drawn_at : (chunks n : ℕ) (views : List Hand) (id : ℕ) (v : Hand) → v.chunks ≡ chunks → Leads chunks n views → get_elem? views id ≡ some v → DrawnBy v (min n v.chunks)
drawn_at chunks n views id v is leads at = let kept = leads_keeps chunks n views leads in let ends : min n v.chunks ≡ min n chunks = ap (min n) is in record {
  cursor = n;
  hands = views;
  leads = (subst (λ (c : ℕ). Leads c n views) (sym is) leads);
  seat = id;
  mine = at;
  count = (kept.count ∙ sym ends);
  each = (λ x. kept.draws x ∙ ap (once_below x) (sym ends));
}

pub takes : (chunks slots id : ℕ) (me : Sat) → 0 < me.0.shares → me.0.had_none ≡ false → Allows (Dealt chunks) slots id me 0 (λ n. (n + 1) % 2 ^ 64) (drew (step slots 0 1 0 none) me)
takes chunks slots id me part fresh s r _ at _ =
    let n : ℕ = get_or s.words 0 0 in let d : Dealing chunks n s.views = leads_keeps chunks n s.views r.1 in let v : Hand = me.0 in let sound = d.each id v at in let is : v.chunks ≡ chunks = sound.chunks_is part in
    let most = total_weigh s.views in let all = d.shares in let bound = d.bound in let few = d.few in let less : n + 1 ≡ (n + 1) % 18446744073709551616 = omega arith in
    let here = there s.views id v at in let floor = sound.floor_seen in
    dite (dec_le chunks n)
    (λ le. let w : Hand = after_none v in let after = past n s.views id v r.1 at part fresh le in (
      w,
      keeps,
      tt,
      subst (λ (z : ℕ). Dealt chunks (stepped s 0 z id me.1 w keeps)) less (placed chunks (n + 1) id s me w r.0 after),
      ((λ lt. absurd (omega arith)), (λ _. refl), refl, known_at chunks (n + 1) (set s.views id w) id w (leads_keeps chunks (n + 1) (set s.views id w) after) (set_here s.views id w here) part, drawn_at chunks n s.views id v is r.1 at),
    ))
    (λ gt. let lt : n < chunks = lt_of_not-le gt in let w : Hand = after_draw v n in let after = draw n s.views id v r.1 at part fresh lt in (
      w,
      keeps,
      tt,
      subst (λ (z : ℕ). Dealt chunks (stepped s 0 z id me.1 w keeps)) less (placed chunks (n + 1) id s me w r.0 after),
      ((λ _. (omega arith, refl)), (λ le. absurd (omega arith)), refl, known_at chunks (n + 1) (set s.views id w) id w (leads_keeps chunks (n + 1) (set s.views id w) after) (set_here s.views id w here) part, drawn_at chunks n s.views id v is r.1 at),
    ))

pub sees : (chunks slots id : ℕ) (me : Sat) → 0 < me.0.shares → Allows (Dealt chunks) slots id me 0 (λ n. n) (saw (step slots 0 0 0 none) me)
sees chunks slots id me part s r _ at _ =
    let n : ℕ = get_or s.words 0 0 in let d : Dealing chunks n s.views = leads_keeps chunks n s.views r.1 in let v : Hand = me.0 in let sound = d.each id v at in let is : v.chunks ≡ chunks = sound.chunks_is part in
    let here = there s.views id v at in let floor = sound.floor_seen in let k : ℕ = min n v.chunks in let w : Hand = after_look v k in
    let after = subst (λ (z : ℕ). Leads chunks n (set s.views id (after_look v (min n z)))) (sym is) (see n s.views id v r.1 at part) in (
      w,
      keeps,
      tt,
      placed chunks n id s me w r.0 after,
      (
        omega arith,
        refl,
        refl,
        (λ all. sym (d.steps) ∙ total_whole (λ u. u.steps) s.views id v at (λ j u e z. (d.each j u e).idle_steps z) (d.shares
            ∙ sym all)),
        known_at chunks n (set s.views id w) id w (leads_keeps chunks n (set s.views id w) after) (set_here s.views id w here) part,
        drawn_at chunks n s.views id v is r.1 at,
      ),
    )

pub looks : (chunks slots id : ℕ) (me : Sat) → 0 < me.0.shares → Allows (Dealt chunks) slots id me 0 (λ n. n) (looked (step slots 0 0 0 none) me)
looks chunks slots id me part s r _ at _ =
    let n : ℕ = get_or s.words 0 0 in let d : Dealing chunks n s.views = leads_keeps chunks n s.views r.1 in let v : Hand = me.0 in let sound = d.each id v at in
    let here = there s.views id v at in let after = subst (λ (l : List Hand). Leads chunks n l) (sym (set_again s.views id v at)) r.1 in (
      v,
      keeps,
      tt,
      placed chunks n id s me v r.0 after,
      (
        refl,
        refl,
        (let most = total_at (λ u. u.shares) s.views id v at in let all = d.shares in
            omega arith),
        known_at chunks n s.views id v d at part,
      ),
    )

pub splits : (chunks id : ℕ) (v : Hand) → 1 < v.shares → Splits (Dealt chunks) id v (left_hand v) (right_hand v)
splits chunks id v two s r at = (r.0, split (get_or s.words 0 0) s.views id v r.1 at two)

pub joins : (chunks id other : ℕ) (v w : Hand) → 0 < v.shares → 0 < w.shares → Joins (Dealt chunks) id v other w (both_hands v w) spent_hand
joins chunks id other v w p q s r at apart at' = (r.0, join (get_or s.words 0 0) s.views id other v w r.1 at p apart (sym (set_else s.views id other (both_hands v w) apart) ∙ at') q)

get_or_here : (ws : List ℕ) (x : ℕ) → get_elem? ws 0 ≡ some x → x ≡ get_or ws 0 0
get_or_here [] x e = absurd (some-ne-none x (sym e))
get_or_here (y ∷ ys) x e = sym (some-injective y x e)

-- the last cursor is the steps of a seat that has all shares
pub closes : (chunks id : ℕ) (v : Hand) (ws : List ℕ) (xs : List (Unit {0})) (cursor : ℕ) → Final (Seen (Dealt chunks) id v) ws xs → get_elem? ws 0 ≡ some cursor → v.shares ≡ 64 → cursor ≡ v.steps
closes chunks id v ws xs cursor f at all =
    let s = f.0 in let seen = f.1 in let d : Dealing chunks (get_or s.words 0 0) s.views = leads_keeps chunks (get_or s.words 0 0) s.views seen.0.1 in let is : s.words ≡ ws = f.2 in
    let n : ℕ = get_or s.words 0 0 in
    let steps : v.steps ≡ n = sym (total_whole (λ u. u.steps) s.views id v seen.1 (λ j u e z. (d.each j u e).idle_steps z) (d.shares ∙ sym all)) ∙ d.steps in
    get_or_here ws cursor at ∙ (ap (λ (l : List ℕ). get_or l 0 0) (sym is) ∙ sym steps)
