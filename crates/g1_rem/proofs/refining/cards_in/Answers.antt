use Rattle.std.proofs.Common.{◌≡◌, ◌∙◌, length, get_or, sum_by, min, ap, arith, refl}
use Rattle.std.proofs.lemmas.List.{take_all}
use Rattle.std.proofs.lemmas.List.Sums.{sum_by_more}
use Rattle.g1_rem.proofs.refining.cards_in.Goals as goal

pub loop-list-init : goal.loop-list-init
loop-list-init c = refl

pub loop-list-smaller : goal.loop-list-smaller
loop-list-smaller c = omega (arith, c.loop-list-test.true)

pub loop-list-preserved : goal.loop-list-preserved
loop-list-preserved c =
    let list = c.list-item.result in
    let more = sum_by_more (λ s. length s.items) c.args.lists.now c.loop-list.list-index list c.loop-list-test.true in
    let this : length c.list-item.result.items ≡ length (get_or c.args.lists.now c.loop-list.list-index c.list-item.result).items = ap (λ s. length s.items) c.list-item.is in
    omega (arith, more, this, c.len.ensures, c.saturating_add-count.ensures, c.loop-list.invariant)

pub returns : goal.returns
returns c = c.loop-list.invariant ∙ ap (λ l. min (sum_by (λ s. length s.items) l) 18446744073709551615) (take_all c.loop-list.list-index c.args.lists.now c.loop-list-test.false)
