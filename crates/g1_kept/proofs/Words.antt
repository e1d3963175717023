-- What two words are to a walk, by its tables.
use Rattle.std.proofs.Common.{◌≡◌, ◌≢◌, ℕ, suc, ◌-◌, ◌<◌, inr, List, length, IsTrue, sym, ap, subst, ◌∙◌, arith, slice_index, Bool}
use native.Mathlib.Decide.{ℕ_discrete}
use Rattle.g1_words.specs.Heap.{Heap}
use Rattle.g1_words.specs.Survivors.{in_set}
use Rattle.g1_same.specs.Walk.{IsNew}
use Rattle.g1_same.proofs.Tables.{index_some}
use Rattle.g1_same.proofs.Words.{IsRead}
use Rattle.g1_kept.specs.declared.pairs.Pairs.{Pairs}
use Rattle.g1_kept.specs.Lost.{Match, Disagree, split, joined}
use Rattle.g1_kept.specs.Order.{Clash}
use Rattle.g1_kept.specs.Order as order
use Rattle.g1_kept.specs.Walk.{IsPairWalk, ArePaired}

module _ {fill : Bool} {set : List ℕ} {g h : Heap} {w : Pairs} {a b i j : ℕ} (walk : IsPairWalk fill set g h w) (read : IsRead w.new_of.items w.old_of.items a b i j) where
  in_before : i ≢ 0 → (i - 1 < length w.before.items) × (slice_index w.before.items (i - 1) ≡ a)
  in_before some = subst (λ m. (m - 1 < length w.before.items) × (slice_index w.before.items (m - 1) ≡ a)) (sym read.is_i)
      (index_some w.new_of.items w.before.items walk.index_before a read.a_lt (λ z. some (read.is_i ∙ z)))

  in_after : j ≢ 0 → (j - 1 < length w.after.items) × (slice_index w.after.items (j - 1) ≡ b)
  in_after some = subst (λ m. (m - 1 < length w.after.items) × (slice_index w.after.items (m - 1) ≡ b)) (sym read.is_j)
      (index_some w.old_of.items w.after.items walk.index_after b read.b_lt (λ z. some (read.is_j ∙ z)))

  pub known_here : i ≡ j → i ≢ 0 → ArePaired set g w (suc a) (suc b)
  known_here same some =
      let p = in_before some in
      let q = in_after (λ z. some (same ∙ z)) in
      inr (i - 1, p.0, ap suc (sym p.1), ap suc (sym q.1 ∙ ap (λ m. slice_index w.after.items (m - 1)) (sym same)))

  -- the object before was found with another one after
  split_here : IsTrue (in_set g set a) → i ≢ j → i ≢ 0 → Disagree set g h (suc a) (suc b)
  split_here of_set other some =
      let p = in_before some in
      split (slice_index w.after.items (i - 1)) of_set
      (subst (λ z. Match set g h z (slice_index w.after.items (i - 1))) p.1 (walk.matched (i - 1) p.0))
      (λ e. let k = (walk.index_after b (i - 1) read.b_lt).1 (omega (arith, p.0, walk.pairs), e) in other (omega (arith, k, read.is_j, some)))

  -- the object after was found with another one before
  joined_here : IsTrue (in_set g set a) → i ≢ j → i ≡ 0 → Disagree set g h (suc a) (suc b)
  joined_here of_set other none =
      let some : j ≢ 0 = λ z. other (none ∙ sym z) in
      let q = in_after some in
      let p : j - 1 < length w.before.items = omega (arith, q.0, walk.pairs) in
      joined (slice_index w.before.items (j - 1)) of_set (walk.of_set (j - 1) p)
      (subst (λ z. Match set g h (slice_index w.before.items (j - 1)) z) q.1 (walk.matched (j - 1) p))
      (λ e. let k = (walk.index_before a (j - 1) read.a_lt).1 (p, e) in omega (arith, k, read.is_i, none))

  pub differ_here : IsTrue (in_set g set a) → i ≢ j → Disagree set g h (suc a) (suc b)
  differ_here of_set other = elim (ℕ_discrete i 0) [ yes e ↦ joined_here of_set other e | no d ↦ split_here of_set other d ]

  -- the same by what was found
  clash_split : IsTrue (in_set g set a) → i ≢ j → i ≢ 0 → Clash set g w.before.items w.after.items (suc a) (suc b)
  clash_split of_set other some =
      let p = in_before some in
      order.split (i - 1) of_set p.0 p.1 (λ e. let k = (walk.index_after b (i - 1) read.b_lt).1 (omega (arith, p.0, walk.pairs), e) in other (omega (arith, k, read.is_j, some)))

  clash_joined : IsTrue (in_set g set a) → i ≢ j → i ≡ 0 → Clash set g w.before.items w.after.items (suc a) (suc b)
  clash_joined of_set other none =
      let q = in_after (λ z. other (none ∙ sym z)) in
      let p : j - 1 < length w.before.items = omega (arith, q.0, walk.pairs) in
      order.joined (j - 1) of_set p q.1 (λ e. let k = (walk.index_before a (j - 1) read.a_lt).1 (p, e) in omega (arith, k, read.is_i, none))

  pub clash_here : IsTrue (in_set g set a) → i ≢ j → Clash set g w.before.items w.after.items (suc a) (suc b)
  clash_here of_set other = elim (ℕ_discrete i 0) [ yes e ↦ clash_joined of_set other e | no d ↦ clash_split of_set other d ]

  -- an entry of 0 says that the object is new
  pub new_before : i ≡ 0 → IsNew w.before.items a
  new_before none k lt e = let q = (walk.index_before a k read.a_lt).1 (lt, e) in omega (arith, q, read.is_i, none)

  pub new_after : j ≡ 0 → IsNew w.after.items b
  new_after none k lt e = let q = (walk.index_after b k read.b_lt).1 (lt, e) in omega (arith, q, read.is_j, none)
