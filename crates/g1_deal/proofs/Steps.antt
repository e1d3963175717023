-- Each step on the cursor keeps what holds of it.
use Rattle.std.proofs.Common.{◌≡◌, ℕ, zero, suc, ◌+◌, ◌-◌, ◌<◌, ◌≤◌, ⊎_elim, ◌||◌, min, max, Bool, true, false, List, [], ◌∷◌, ◌++◌, length, get_or, set, sym, refl, ap, ◌∙◌, subst}
use Rattle.std.proofs.Common.{arith, length-append}
use mathlib.Core.Option.{some, some-injective, some-ne-none}
use lib.ListN.{get_elem?}
use Rattle.atomic_table.specs.Table.{State, Splits, Joins}
use Rattle.atomic_table.proofs.Lists.{at_set, set_else, at_snoc}
use Rattle.g1_deal.specs.declared.rule.Hand.{Hand}
use Rattle.g1_deal.specs.Dealer.{times, once_below}
use Rattle.g1_deal.proofs.Counts.{times_push, times_append, once_more, once_most}
use Rattle.g1_deal.proofs.Kept.{weigh, IsSound, Dealing}
use Rattle.g1_deal.specs.Rule.{hands_total, IsKnown, after_draw, after_none, after_look, left_hand, right_hand, both_hands, spent_hand}

total_set : (f : Hand → ℕ) (l : List Hand) (i : ℕ) (v w : Hand) → get_elem? l i ≡ some v → hands_total f (set l i w) + f v ≡ hands_total f l + f w
total_set f [] i v w e = absurd (some-ne-none v (sym e))
total_set f (x ∷ xs) zero v w e = let is : f x ≡ f v = ap f (some-injective x v e) in omega arith
total_set f (x ∷ xs) (suc i) v w e = let r = total_set f xs i v w e in omega arith

total_snoc : (f : Hand → ℕ) (l : List Hand) (w : Hand) → hands_total f (l ++ w ∷ []) ≡ hands_total f l + f w
total_snoc f [] w = omega arith
total_snoc f (x ∷ xs) w = let r = total_snoc f xs w in omega arith

pub total_at : (f : Hand → ℕ) (l : List Hand) (i : ℕ) (v : Hand) → get_elem? l i ≡ some v → f v ≤ hands_total f l
total_at f [] i v e = absurd (some-ne-none v (sym e))
total_at f (x ∷ xs) zero v e = let is : f x ≡ f v = ap f (some-injective x v e) in omega arith
total_at f (x ∷ xs) (suc i) v e = let r = total_at f xs i v e in omega arith

weigh_le : (b : Bool) (n : ℕ) → weigh b n ≤ n
weigh_le true n = omega arith
weigh_le false n = omega arith

pub total_weigh : (l : List Hand) → hands_total (λ v. weigh v.had_none v.shares) l ≤ hands_total (λ v. v.shares) l
total_weigh [] = omega arith
total_weigh (x ∷ xs) = let r = total_weigh xs in let h = weigh_le x.had_none x.shares in omega arith

-- where no hand has a share, f of each hand is 0
total_none : (f : Hand → ℕ) (l : List Hand) → ((i : ℕ) (u : Hand) → get_elem? l i ≡ some u → u.shares ≡ 0 → f u ≡ 0) → hands_total (λ v. v.shares) l ≡ 0 → hands_total f l ≡ 0
total_none f [] idle e = refl
total_none f (x ∷ xs) idle e = let r = total_none f xs (λ i u h z. idle (suc i) u h z) (omega arith) in let here = idle zero x refl (omega arith) in omega arith

-- where one hand has all shares, it has all of f
pub total_whole : (f : Hand → ℕ) (l : List Hand) (i : ℕ) (v : Hand) → get_elem? l i ≡ some v → ((j : ℕ) (u : Hand) → get_elem? l j ≡ some u → u.shares ≡ 0 → f u ≡ 0)
    → hands_total (λ u. u.shares) l ≡ v.shares → hands_total f l ≡ f v
total_whole f [] i v e idle all = absurd (some-ne-none v (sym e))
total_whole f (x ∷ xs) zero v e idle all = let is : x ≡ v = some-injective x v e in let same : f x ≡ f v = ap f is in let shares : x.shares ≡ v.shares = ap (λ (u : Hand). u.shares) is in
    let r = total_none f xs (λ j u h z. idle (suc j) u h z) (omega arith) in omega arith
total_whole f (x ∷ xs) (suc i) v e idle all = let most = total_at (λ u. u.shares) xs i v e in let here = idle zero x refl (omega arith) in
    let r = total_whole f xs i v e (λ j u h z. idle (suc j) u h z) (omega arith) in omega arith

sound_later : (chunks n m : ℕ) (v : Hand) → n ≤ m → IsSound chunks n v → IsSound chunks m v
sound_later chunks n m v le s = record {
  chunks_is = s.chunks_is;
  idle_draws = s.idle_draws;
  idle_steps = s.idle_steps;
  floor_seen = (let f = s.floor_seen in omega arith);
  none_is_end = s.none_is_end;
}

-- the rule after a step of one hand
updated : (chunks n m : ℕ) (views : List Hand) (id : ℕ) (v w : Hand) → Dealing chunks n views → get_elem? views id ≡ some v → w.shares ≡ v.shares
    → ((x : ℕ) → times x w.draws + once_below x (min n chunks) ≡ times x v.draws + once_below x (min m chunks)) → length w.draws + min n chunks ≡ length v.draws + min m chunks
    → w.steps + n ≡ v.steps + m → m + weigh v.had_none v.shares ≤ chunks + hands_total (λ u. weigh u.had_none u.shares) views + weigh w.had_none w.shares
    → min n chunks ≤ min m chunks → IsSound chunks (min m chunks) w → Dealing chunks m (set views id w)
updated chunks n m views id v w d at shares draws count steps bound le sound = record {
  few = d.few;
  shares = (let t = total_set (λ u. u.shares) views id v w at in let h = d.shares in omega arith);
  draws = (λ x. let t = total_set (λ u. times x u.draws) views id v w at in let h = d.draws x in let k = draws x in omega arith);
  count = (let t = total_set (λ u. length u.draws) views id v w at in let h = d.count in omega arith);
  steps = (let t = total_set (λ u. u.steps) views id v w at in let h = d.steps in omega arith);
  bound = (let t = total_set (λ u. weigh u.had_none u.shares) views id v w at in omega arith);
  each = (λ j u e. ⊎_elim (λ t. subst (λ (z : Hand). IsSound chunks (min m chunks) z) t.1 sound)
      (λ t. sound_later chunks (min n chunks) (min m chunks) u le (d.each j u t.1)) (at_set views id j w u e));
}

pub there : (l : List Hand) (i : ℕ) (v : Hand) → get_elem? l i ≡ some v → i < length l
there [] i v e = absurd (some-ne-none v (sym e))
there (x ∷ xs) zero v e = omega arith
there (x ∷ xs) (suc i) v e = let r = there xs i v e in omega arith

-- what the rule tells of one hand
pub known_at : (chunks n : ℕ) (views : List Hand) (id : ℕ) (v : Hand) → Dealing chunks n views → get_elem? views id ≡ some v → 0 < v.shares → IsKnown v
known_at chunks n views id v d at part =
    let sound = d.each id v at in
    let is : v.chunks ≡ chunks = sound.chunks_is part in
    let most = total_weigh views in let bound = d.bound in let shares = d.shares in let floor = sound.floor_seen in (
      (λ x. let t : times x v.draws ≤ hands_total (λ (u : Hand). times x u.draws) views = total_at (λ (u : Hand). times x u.draws) views id v at in
          let h = d.draws x in let k = once_most x (min n chunks) v.chunks (omega arith) in omega arith),
      (let t : v.steps ≤ hands_total (λ (u : Hand). u.steps) views = total_at (λ (u : Hand). u.steps) views id v at in let h = d.steps in omega arith),
      (λ all.
          let every : hands_total (λ u. u.shares) views ≡ v.shares = d.shares ∙ sym all in
          let steps : v.steps ≡ n = sym (total_whole (λ u. u.steps) views id v at (λ j u e z. (d.each j u e).idle_steps z) every) ∙ d.steps in
          let ends : min v.steps v.chunks ≡ min n chunks = λ i. min (steps i) (is i) in (
            (λ x. sym (total_whole (λ u. times x u.draws) views id v at (λ j u e z. ap (λ (l : List ℕ). times x l) ((d.each j u e).idle_draws z))
                every) ∙ (d.draws x ∙ ap (λ (k : ℕ). once_below x k) (sym ends))),
            sym (total_whole (λ u. length u.draws) views id v at (λ j u e z. ap (λ (l : List ℕ). length l) ((d.each j u e).idle_draws z)) every) ∙ (d.count ∙ sym ends),
            subst (λ (k : ℕ). v.floor ≤ k) (sym ends) floor,
          )),
    )

-- what holds of a table
abbrev pub Keeps : ℕ → State (Unit {0}) Hand → Type 0
Keeps chunks s = (length s.words ≡ 1) × Dealing chunks (get_or s.words 0 0) s.views

-- the hand after a draw, and the rule
pub draws_one : (chunks n id : ℕ) (views : List Hand) (v : Hand) → Dealing chunks n views → get_elem? views id ≡ some v → 0 < v.shares →
    v.had_none ≡ false → n < chunks → Dealing chunks (n + 1) (set views id (after_draw v n))
draws_one chunks n id views v d at part fresh lt =
    let sound = d.each id v at in let before : min n chunks ≡ n = omega arith in let after : min (n + 1) chunks ≡ n + 1 = omega arith in
    let w : Hand = after_draw v n in
    updated chunks n (n + 1) views id v w d at refl
    (λ x. let p = times_push x n v.draws in let q = once_more x n in let b = ap (λ (k : ℕ). once_below x k) before in let a = ap (λ (k : ℕ). once_below x k) after in omega arith)
    (let l = length-append v.draws (n ∷ []) in omega arith)
    (omega arith)
    (omega arith)
    (omega arith)
    record { chunks_is = sound.chunks_is; idle_draws = (λ z. absurd (omega arith)); idle_steps = (λ z. absurd (omega arith)); floor_seen = (omega arith); none_is_end = (λ h. cc) }

pub draws_none : (chunks n id : ℕ) (views : List Hand) (v : Hand) → Dealing chunks n views → get_elem? views id ≡ some v → 0 < v.shares →
    v.had_none ≡ false → chunks ≤ n → Dealing chunks (n + 1) (set views id (after_none v))
draws_none chunks n id views v d at part fresh le =
    let sound = d.each id v at in let before : min n chunks ≡ chunks = omega arith in let after : min (n + 1) chunks ≡ chunks = omega arith in
    let is : v.chunks ≡ chunks = sound.chunks_is part in let none_yet : weigh v.had_none v.shares ≡ 0 = ap (λ (b : Bool). weigh b v.shares) fresh in let bound = d.bound in
    let w : Hand = after_none v in
    updated chunks n (n + 1) views id v w d at refl
    (λ x. let b = ap (λ (k : ℕ). once_below x k) (before ∙ sym after) in omega arith)
    (omega arith)
    (omega arith)
    (omega arith)
    (omega arith)
    record { chunks_is = sound.chunks_is; idle_draws = (λ z. absurd (omega arith)); idle_steps = (λ z. absurd (omega arith)); floor_seen = (omega arith); none_is_end = (λ h. is) }

-- a load changes the floor alone
pub looks_at : (chunks n id floor : ℕ) (views : List Hand) (v : Hand) → Dealing chunks n views → get_elem? views id ≡ some v → floor ≤ min n chunks →
    v.floor ≤ floor → Dealing chunks n (set views id (after_look v floor))
looks_at chunks n id floor views v d at le more =
    let sound = d.each id v at in let bound = d.bound in
    updated chunks n n views id v (after_look v floor) d at refl (λ x. refl) refl refl (omega arith) (omega arith)
    record { chunks_is = sound.chunks_is; idle_draws = sound.idle_draws; idle_steps = sound.idle_steps; floor_seen = le; none_is_end = (λ h. let e = sound.none_is_end h in omega arith) }

weigh_split : (b : Bool) (n : ℕ) → 1 < n → weigh b (n - 1) + weigh b 1 ≡ weigh b n
weigh_split true n h = omega arith
weigh_split false n h = omega arith

weigh_both : (b c : Bool) (n m : ℕ) → weigh b n + weigh c m ≤ weigh (b || c) (n + m)
weigh_both true true n m = omega arith
weigh_both true false n m = omega arith
weigh_both false true n m = omega arith
weigh_both false false n m = omega arith

pub max_end : (b c : Bool) (x y n : ℕ) → (b || c) ≡ true → (b ≡ true → x ≡ n) → (c ≡ true → y ≡ n) → x ≤ n → y ≤ n → max x y ≡ n
max_end true c x y n h f g lx ly = let e = f refl in omega arith
max_end false c x y n h f g lx ly = let e = g h in omega arith

pub splits_kept : (chunks id : ℕ) (v : Hand) → 1 < v.shares → Splits (Keeps chunks) id v (left_hand v) (right_hand v)
splits_kept chunks id v two s r at =
    let n : ℕ = get_or s.words 0 0 in let d : Dealing chunks n s.views = r.1 in let sound = d.each id v at in
    let a : Hand = left_hand v in let b : Hand = right_hand v in let l : List Hand = set s.views id a in (
      r.0,
      record {
        few = d.few;
        shares = (let t = total_set (λ u. u.shares) s.views id v a at in let t' = total_snoc (λ u. u.shares) l b in let h = d.shares in omega arith);
        draws = (λ x. let t = total_set (λ u. times x u.draws) s.views id v a at in let t' = total_snoc (λ u. times x u.draws) l b in let h = d.draws x in omega arith);
        count = (let t = total_set (λ u. length u.draws) s.views id v a at in let t' = total_snoc (λ u. length u.draws) l b in let h = d.count in omega arith);
        steps = (let t = total_set (λ u. u.steps) s.views id v a at in let t' = total_snoc (λ u. u.steps) l b in let h = d.steps in omega arith);
        bound = (let t = total_set (λ u. weigh u.had_none u.shares) s.views id v a at in let t' = total_snoc (λ u. weigh u.had_none u.shares) l b in
            let h = d.bound in let k = weigh_split v.had_none v.shares two in omega arith);
        each = (λ j u e. ⊎_elim
            (λ e'. ⊎_elim
            (λ t. subst (λ (z : Hand). IsSound chunks (min n chunks) z) t.1 record {
              chunks_is = (λ h. sound.chunks_is (omega arith));
              idle_draws = (λ z. absurd (omega arith));
              idle_steps = (λ z. absurd (omega arith));
              floor_seen = sound.floor_seen;
              none_is_end = sound.none_is_end;
            })
            (λ t. d.each j u t.1)
            (at_set s.views id j a u e'))
            (λ t. subst (λ (z : Hand). IsSound chunks (min n chunks) z) t record {
              chunks_is = (λ h. sound.chunks_is (omega arith));
              idle_draws = (λ z. refl);
              idle_steps = (λ z. refl);
              floor_seen = sound.floor_seen;
              none_is_end = sound.none_is_end;
            })
            (at_snoc l b u j e));
      },
    )

pub joins_kept : (chunks id other : ℕ) (v w : Hand) → 0 < v.shares → 0 < w.shares → v.floor ≤ v.chunks → w.floor ≤ w.chunks → Joins (Keeps chunks) id v other w (both_hands v w) spent_hand
joins_kept chunks id other v w p q fv fw s r at apart at' =
    let n : ℕ = get_or s.words 0 0 in let d : Dealing chunks n s.views = r.1 in let b : Hand = both_hands v w in let l : List Hand = set s.views id b in let e : Hand = spent_hand in
    let w_there : get_elem? s.views other ≡ some w = sym (set_else s.views id other b apart) ∙ at' in
    let sv = d.each id v at in let sw = d.each other w w_there in let iv : v.chunks ≡ chunks = sv.chunks_is p in let iw : w.chunks ≡ chunks = sw.chunks_is q in
    let fv' = sv.floor_seen in let fw' = sw.floor_seen in (
      r.0,
      record {
        few = d.few;
        shares = (let t = total_set (λ u. u.shares) s.views id v b at in let t' = total_set (λ u. u.shares) l other w e at' in let h = d.shares in omega arith);
        draws = (λ x. let t = total_set (λ u. times x u.draws) s.views id v b at in let t' = total_set (λ u. times x u.draws) l other w e at' in
            let h = d.draws x in let k = times_append x v.draws w.draws in omega arith);
        count = (let t = total_set (λ u. length u.draws) s.views id v b at in let t' = total_set (λ u. length u.draws) l other w e at' in let h =
            d.count in let k = length-append v.draws w.draws in omega arith);
        steps = (let t = total_set (λ u. u.steps) s.views id v b at in let t' = total_set (λ u. u.steps) l other w e at' in let h = d.steps in omega arith);
        bound = (let t = total_set (λ u. weigh u.had_none u.shares) s.views id v b at in let t' =
            total_set (λ u. weigh u.had_none u.shares) l other w e at' in let h = d.bound in let k = weigh_both v.had_none w.had_none v.shares w.shares in omega arith);
        each = (λ j u h. ⊎_elim
            (λ t. subst (λ (z : Hand). IsSound chunks (min n chunks) z) t.1 record {
              chunks_is = (λ h. absurd (omega arith));
              idle_draws = (λ z. refl);
              idle_steps = (λ z. refl);
              floor_seen = (omega arith);
              none_is_end = (λ h. cc);
            })
            (λ t. ⊎_elim
            (λ t'. subst (λ (z : Hand). IsSound chunks (min n chunks) z) t'.1 record {
              chunks_is = (λ h. iv);
              idle_draws = (λ z. absurd (omega arith));
              idle_steps = (λ z. absurd (omega arith));
              floor_seen = (omega arith);
              none_is_end =
                  (λ h. max_end v.had_none w.had_none v.floor w.floor chunks h sv.none_is_end sw.none_is_end (omega arith) (omega arith));
            })
            (λ t'. d.each j u t'.1)
            (at_set s.views id j b u t.1))
            (at_set l other j e u h));
      },
    )
