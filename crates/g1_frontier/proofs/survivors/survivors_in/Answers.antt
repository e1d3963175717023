use Rattle.std.proofs.Common.{arith}
use Rattle.g1_words.specs.Survivors.{seeds, children}
use Rattle.g1_frontier.proofs.Searching.{found_few}
use Rattle.g1_frontier.proofs.Turns.{ends}
use Rattle.g1_frontier.proofs.survivors.survivors_in.Goals as goal

pub loop-search-smaller : goal.loop-search-smaller
loop-search-smaller g c =
    let s = c.loop-search.search in
    let few = found_few c.args.scope.now.heap.now c.requires.scope.valid c.args.scope.now.window.now c.requires.scope.regions s c.loop-search.invariant in
    omega (arith, few, c.in_ok-search-2.ensures.from, c.len.ensures, c.loop-search-test.true, s.found.ok)

pub returns-clause-ok : goal.returns-clause-ok
returns-clause-ok g c =
    let s = c.loop-search.search in
    let i = c.loop-search.invariant in
    record {
      survivors =
          ends (seeds c.args.scope.now.heap.now c.args.scope.now.window.now) (children c.args.scope.now.heap.now c.args.scope.now.window.now) s.found.items
          s.from (omega (arith, c.loop-search-test.false, c.len.ensures, s.found.ok)) i.in_order
          i.reached;
      seen = tt;
    }

pub search_alone-requires-clause-scope : goal.search_alone-requires-clause-scope
search_alone-requires-clause-scope g c = c.requires.scope

pub search_alone-requires-clause-cards : goal.search_alone-requires-clause-cards
search_alone-requires-clause-cards g c = c.requires.cards

pub search_alone-requires-clause-outside : goal.search_alone-requires-clause-outside
search_alone-requires-clause-outside g c = c.requires.outside

pub search_alone-requires-clause-lead_in : goal.search_alone-requires-clause-lead_in
search_alone-requires-clause-lead_in g c = c.requires.lead_in

pub first_round-requires-clause-scope : goal.first_round-requires-clause-scope
first_round-requires-clause-scope g c κs within = c.requires.scope

pub first_round-requires-clause-cards : goal.first_round-requires-clause-cards
first_round-requires-clause-cards g c κs within = c.requires.cards

pub first_round-requires-clause-outside : goal.first_round-requires-clause-outside
first_round-requires-clause-outside g c κs within = c.requires.outside

pub first_round-requires-clause-lead_in : goal.first_round-requires-clause-lead_in
first_round-requires-clause-lead_in g c κs within = c.requires.lead_in

pub next_round-requires-clause-scope : goal.next_round-requires-clause-scope
next_round-requires-clause-scope g c κs within = c.requires.scope

pub next_round-requires-clause-search : goal.next_round-requires-clause-search
next_round-requires-clause-search g c κs within = c.loop-search.invariant

pub loop-search-init : goal.loop-search-init
loop-search-init g c = c.in_ok-search.ensures.ok

pub loop-search-preserved : goal.loop-search-preserved
loop-search-preserved g c = c.in_ok-search-2.ensures.ok
