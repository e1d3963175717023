use Rattle.std.proofs.Common.{◌≡◌, IfOk, [], eqb-true, length, subst, sym, ◌∙◌}
use Rattle.std.specs.List.Sorted.{IsStrictlyIncreasing}
use Rattle.std.proofs.lemmas.List.{nil_from_length}
use Rattle.std.proofs.lemmas.List.Kept.{IsStrictlyIncreasing-filter}
use Rattle.g1_rem.specs.Merging.{IsMerged}
use Rattle.g1_copy.specs.Remembered.{IsJoined, stays}
use Rattle.g1_copy.proofs.RememberedJoined.{merged_none}
use Rattle.g1_copy.proofs.remembering.join.Goals as goal

pub merged-requires-in-Kept-clause-left : goal.merged-requires-in-Kept-clause-left
merged-requires-in-Kept-clause-left c =
    subst IsStrictlyIncreasing (sym (c.deref.ensures.value ∙ c.in_ok-kept-in-Kept.ensures))
    (IsStrictlyIncreasing-filter (stays c.args.heap.now c.args.fates.now) c.args.cards.now.refined.now c.requires.refined)

pub returns-in-Filled-clause-ok : goal.returns-in-Filled-clause-ok
returns-in-Filled-clause-ok c =
    let cards = c.args.cards.now in
    subst (λ f. IfOk c.merged.result (λ v. IsJoined c.args.heap.now c.args.fates.now f cards.refined.now cards.outer.now cards.inner.now v.items)) (sym c.in-Filled.is) c.merged.ensures.ok

pub returns-then-is_empty-clause-ok : goal.returns-then-is_empty-clause-ok
returns-then-is_empty-clause-ok c =
    let cards = c.args.cards.now in
    let kept = c.in_ok-kept-in-Kept.kept.items in
    let inner : cards.inner.now ≡ [] = nil_from_length cards.inner.now (eqb-true (length cards.inner.now) 0 (sym c.is_empty.ensures ∙ c.if-is_empty.true)) in
    let rising = subst IsStrictlyIncreasing (sym c.in_ok-kept-in-Kept.ensures)
    (IsStrictlyIncreasing-filter (stays c.args.heap.now c.args.fates.now) cards.refined.now c.requires.refined) in
    subst (λ f. IsJoined c.args.heap.now c.args.fates.now f cards.refined.now cards.outer.now cards.inner.now kept) (sym c.in-Kept.is)
    (subst (λ xs. IsMerged xs cards.inner.now kept) c.in_ok-kept-in-Kept.ensures (subst (λ ys. IsMerged kept ys kept) (sym inner) (merged_none kept rising)))

pub returns-else-is_empty-clause-ok : goal.returns-else-is_empty-clause-ok
returns-else-is_empty-clause-ok c =
    let cards = c.args.cards.now in
    let made = c.merged-in-Kept.result in
    subst (λ f. IfOk made (λ v. IsJoined c.args.heap.now c.args.fates.now f cards.refined.now cards.outer.now cards.inner.now v.items)) (sym c.in-Kept.is)
    (subst (λ xs. IfOk made (λ v. IsMerged xs cards.inner.now v.items)) (c.deref.ensures.value ∙ c.in_ok-kept-in-Kept.ensures) c.merged-in-Kept.ensures.ok)
