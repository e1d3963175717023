use Rattle.std.proofs.Common.{◌≤◌, ◌∙◌, ap, length, arith}
use Rattle.std.proofs.lemmas.List.{take_all}
use Rattle.g1_words.specs.Layout.{sizes_of}
use Rattle.g1_frontier.proofs.Queues.{found_small, searched}
use Rattle.g1_frontier.proofs.queue.search_alone.Goals as goal

pub loop-from-smaller : goal.loop-from-smaller
loop-from-smaller c =
    let q = c.loop-from.queue in
    let small = found_small c.args.scope.now c.requires.scope q c.loop-from.invariant.queue.queue in
    omega (arith, small, c.loop-from-test.true, c.len.ensures, q.found.ok)

pub returns : goal.returns
returns c =
    let s = c.args.scope.now in
    let q = c.loop-from.queue in
    let all : length q.found.items ≤ c.loop-from.from = omega (arith, c.loop-from-test.false, c.len.ensures, q.found.ok) in
    record {
      survivors = searched s c.requires.scope c.loop-from.from q c.loop-from.invariant.queue all;
      seen = record {
        sizes = c.loop-from.invariant.sizes ∙ ap (sizes_of s.heap.now) (take_all c.loop-from.from q.found.items all);
        leads = c.in_ok-queue.ensures.leads;
      };
    }

pub loop-from-init : goal.loop-from-init
loop-from-init c = record { queue = c.in_ok-queue.ensures.queue; sizes = c.new-sizes.ensures.items }

pub loop-from-preserved : goal.loop-from-preserved
loop-from-preserved c = record { queue = c.in_ok-search_batch.ensures.queue; sizes = c.in_ok-search_batch.ensures.sizes }

pub begin-requires-clause-none : goal.begin-requires-clause-none
begin-requires-clause-none c = c.new-leads.ensures.items

pub begin-requires-clause-scope : goal.begin-requires-clause-scope
begin-requires-clause-scope c = c.requires.scope

pub begin-requires-clause-cards : goal.begin-requires-clause-cards
begin-requires-clause-cards c = c.requires.cards

pub begin-requires-clause-outside : goal.begin-requires-clause-outside
begin-requires-clause-outside c = c.requires.outside

pub begin-requires-clause-lead_in : goal.begin-requires-clause-lead_in
begin-requires-clause-lead_in c = c.requires.lead_in

pub search_batch-requires-clause-scope : goal.search_batch-requires-clause-scope
search_batch-requires-clause-scope c = c.requires.scope

pub search_batch-requires-clause-queue : goal.search_batch-requires-clause-queue
search_batch-requires-clause-queue c = c.loop-from.invariant.queue

pub search_batch-requires-clause-sizes : goal.search_batch-requires-clause-sizes
search_batch-requires-clause-sizes c = c.loop-from.invariant.sizes

pub search_batch-requires-clause-order : goal.search_batch-requires-clause-order
search_batch-requires-clause-order c = omega (arith, c.min-to.ensures, c.loop-from-test.true, c.len.ensures)

pub search_batch-requires-clause-found : goal.search_batch-requires-clause-found
search_batch-requires-clause-found c = omega (arith, c.min-to.ensures)

pub overflow_add-from : goal.overflow_add-from
overflow_add-from c =
    let q = c.loop-from.queue in
    let small = found_small c.args.scope.now c.requires.scope q c.loop-from.invariant.queue.queue in
    omega (arith, small, c.loop-from-test.true, c.len.ensures, q.found.ok)
