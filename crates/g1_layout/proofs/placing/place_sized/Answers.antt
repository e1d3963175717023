use Rattle.std.proofs.Common.{arith}
use Rattle.g1_layout.proofs.Conditions.{can_lay}
use Rattle.g1_layout.proofs.placing.place_sized.Goals as goal

pub measure_sized-regions-requires-clause-lay : goal.measure_sized-regions-requires-clause-lay
measure_sized-regions-requires-clause-lay c = can_lay c.args.heap.now c.args.set.now c.args.survivors.now c.free_count-free.ensures.valid c.requires.can

pub returns-then-regions-free-clause-room : goal.returns-then-regions-free-clause-room
returns-then-regions-free-clause-room c = λ less. cc (c.measure_sized-regions.ensures.need, c.free_count-free.ensures.count)

pub returns-then-regions-free-clause-memory : goal.returns-then-regions-free-clause-memory
returns-then-regions-free-clause-memory c = λ fits. absurd (omega (arith, c.if-regions-free.true, c.measure_sized-regions.ensures.need, c.free_count-free.ensures.count))
