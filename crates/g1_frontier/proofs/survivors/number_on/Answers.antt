use Rattle.std.proofs.Common.{◌≡◌, ◌<◌, ◌∙◌, ℕ, List, ap, set, get_or, length, arith}
use Rattle.std.proofs.lemmas.List.{length-set}
use Rattle.g1_frontier.proofs.Soughts.{numbered_get, numbered_more, sum_more}
use Rattle.g1_frontier.proofs.survivors.number_on.Goals as goal

pub loop-index-smaller : goal.loop-index-smaller
loop-index-smaller c = omega (arith, c.loop-index-test.true)

pub loop-index-preserved : goal.loop-index-preserved
loop-index-preserved c =
    let old : List ℕ = c.args.counts.now.items in
    let i : ℕ = c.loop-index.index in
    let inv = c.loop-index.invariant in
    let lt : i < length old = omega (arith, c.loop-index-test.true, inv.long) in
    let d : ℕ = c.index-count.result.now in
    let count : get_or c.loop-index.counts.items i d ≡ get_or old i 0 = ap (λ (l : List ℕ). get_or l i d) inv.counts ∙ numbered_get c.args.base old i lt d in
    let more = sum_more c.args.base old i lt in record {
      counts = (λ k. set (inv.counts k) i (inv.next k)) ∙ numbered_more c.args.base old i lt;
      long = length-set c.loop-index.counts.items i c.loop-index.next ∙ inv.long;
      next = omega (arith, inv.next, count, more);
    }
