use Rattle.std.proofs.Common.{◌≡◌, IfOk, map, subst}
use Rattle.g1_words.specs.Heap.{regions}
use Rattle.g1_after.specs.Made.{heap_moved}
use Rattle.g1_after.specs.Moved.{remembered_moved}
use Rattle.g1_copy.proofs.remembering.new_rem.Goals as goal

pub returns-clause-ok : goal.returns-clause-ok
returns-clause-ok g c =
    let i = c.args.tracked.now in
    let l = c.args.plan.now.survivors in
    subst (λ s. IfOk c.remembered_by_fate.result (λ v. map (λ s. s.items) v.items
    ≡ map (remembered_moved i s l (heap_moved i.heap s l)) (regions i.heap))) c.requires.plan.same c.remembered_by_fate.ensures.ok
