use Rattle.std.proofs.Common.{◌-◌, ◌<◌, ◌^◌, ◌∙◌, take, drop, arith, subst}
use Rattle.std.proofs.lemmas.List.Elements.{All-take, All-drop}
use Rattle.g1_frontier.specs.Items.{IsItem}
use Rattle.g1_frontier.specs.Offering.{HasTried}
use Rattle.g1_frontier.specs.Scope.{place_in, pairs_in, all_pairs_in}
use Rattle.g1_frontier.proofs.Offerings.{tried_none, tried_next}
use Rattle.g1_frontier.proofs.Scopes.{Contains-drop, all_some}
use Rattle.std.proofs.lemmas.List.{take_all}
use Rattle.g1_words.proofs.Indices.{taken_in}
use Rattle.g1_frontier.proofs.offering.Offers.offer_items.Goals as goal

pub loop-from-init : goal.loop-from-init
loop-from-init c = record { tried = tried_none (place_in c.args.self.now.scope.now) c.args.holder.now; within = omega arith }

pub read_counts-requires : goal.read_counts-requires
read_counts-requires c =
    let h = c.args.self.now.scope.now.heap.now in
    let xs = c.args.items.now in
    All-take (IsItem h) (c.min-to.result - c.loop-from.from) (drop c.loop-from.from xs) (All-drop (IsItem h) c.loop-from.from xs c.requires.items)

pub offer_batch-requires-clause-items : goal.offer_batch-requires-clause-items
offer_batch-requires-clause-items c =
    let h = c.args.self.now.scope.now.heap.now in
    let xs = c.args.items.now in
    All-take (IsItem h) (c.min-to.result - c.loop-from.from) (drop c.loop-from.from xs) (All-drop (IsItem h) c.loop-from.from xs c.requires.items)

pub offer_batch-requires-clause-ranks : goal.offer_batch-requires-clause-ranks
offer_batch-requires-clause-ranks c =
    let s = c.args.self.now.scope.now in
    let xs = c.args.items.now in
    let n = c.min-to.result - c.loop-from.from in
    all_some (λ q. q.0 < 2 ^ 32) (pairs_in s) xs (take n (drop c.loop-from.from xs)) (λ x i. Contains-drop c.loop-from.from xs x (taken_in n (drop c.loop-from.from xs) x i)) c.requires.ranks

pub offer_batch-requires-clause-places : goal.offer_batch-requires-clause-places
offer_batch-requires-clause-places c = c.requires.places

pub offer_batch-requires-clause-seat : goal.offer_batch-requires-clause-seat
offer_batch-requires-clause-seat c = c.loop-from.invariant.tried.table ∙ c.requires.seat

pub offer_batch-requires-clause-counts : goal.offer_batch-requires-clause-counts
offer_batch-requires-clause-counts c = c.as_slice.ensures.value ∙ c.in_ok-read_counts.ensures

pub loop-from-preserved : goal.loop-from-preserved
loop-from-preserved c =
    let s = c.args.self.now.scope.now in
    let inv = c.loop-from.invariant in record {
      tried = tried_next (place_in s) (pairs_in s) c.args.items.now c.loop-from.from c.min-to.result (omega (arith, c.min-to.ensures, inv.within)) c.args.holder.now c.loop-from.holder c.offer_batch.new.holder
          inv.tried c.in_ok-offer_batch.ensures;
      within = omega (arith, c.min-to.ensures);
    }

pub loop-from-smaller : goal.loop-from-smaller
loop-from-smaller c = omega (arith, c.min-to.ensures, c.loop-from-test.true)

pub returns : goal.returns
returns c =
    let s = c.args.self.now.scope.now in
    subst (λ l. HasTried (place_in s) (all_pairs_in s l) c.args.holder.now c.loop-from.holder) (take_all c.loop-from.from c.args.items.now c.loop-from-test.false) c.loop-from.invariant.tried
