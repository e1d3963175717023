use Rattle.std.proofs.Common.{arith}
use Rattle.g1_layout.proofs.Conditions.{can_lay}
use Rattle.g1_layout.proofs.placing.place.Goals as goal

pub measure-need-requires : goal.measure-need-requires
measure-need-requires c = can_lay c.args.heap.now c.args.set.now c.args.survivors.now c.free_count-free.ensures.valid c.requires

pub returns-then-need-free-clause-room : goal.returns-then-need-free-clause-room
returns-then-need-free-clause-room c = λ less. cc (c.measure-need.ensures.need, c.free_count-free.ensures.count)

pub returns-then-need-free-clause-memory : goal.returns-then-need-free-clause-memory
returns-then-need-free-clause-memory c = λ fits. absurd (omega (arith, c.if-need-free.true, c.measure-need.ensures.need, c.free_count-free.ensures.count))
