use Rattle.g1_words.specs.Survivors.{seeds, children}
use Rattle.g1_words.proofs.Unique.{breadth_first_unique}
use Rattle.g1_frontier.proofs.survivors.discover.Goals as goal

pub returns-clause-ok : goal.returns-clause-ok
returns-clause-ok g c = c.in_ok-found.ensures.ok.survivors

pub returns-clause-only : goal.returns-clause-only
returns-clause-only g c = λ l a.
    breadth_first_unique (seeds c.args.heap.now c.args.window.now) (children c.args.heap.now c.args.window.now) l c.in_ok-found.found.survivors.items a c.in_ok-found.ensures.ok.survivors
