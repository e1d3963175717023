use Rattle.std.proofs.Common.{arith, ap, ◌≡◌, length}
use Rattle.g1_words.specs.Heap.{Heap}
use Rattle.g1_kept.specs.Keeps.{KeepsTable}
use Rattle.g1_kept.specs.Lost.{IsLoss}
use Rattle.g1_kept.specs.Order.{IsEarliestLoss, IsMetFirst}
use Rattle.g1_kept.proofs.First.{later}
use Rattle.g1_kept.proofs.Growing.{ok_some_both}
use Rattle.g1_same.proofs.Steps.{none_then}
use Rattle.g1_same.proofs.Held.{after_valid, before_valid}
use Rattle.g1_kept.proofs.keeping.find_loss.Goals as goal

pub compare_words-requires-clause-table : goal.compare_words-requires-clause-table
compare_words-requires-clause-table c =
    let pause = c.args.pause.now in
    none_then (KeepsTable pause.fill pause.set.now pause.heaps.before.now pause.heaps.after.now) c.compare_tables.result c.in_default.not-Some c.compare_tables.ensures.none

pub compare_words-requires-clause-roots : goal.compare_words-requires-clause-roots
compare_words-requires-clause-roots c = omega (arith, c.if-roots.false, ap length c.roots-2.ensures, ap length c.roots.ensures)

pub returns-clause-earliest : goal.returns-clause-earliest
returns-clause-earliest c =
    let pause = c.args.pause.now in
    let set = pause.set.now in
    let g : Heap = pause.heaps.before.now in
    let h : Heap = pause.heaps.after.now in
    let table : KeepsTable pause.fill set g h = none_then (KeepsTable pause.fill set g h) c.compare_tables.result c.in_default.not-Some c.compare_tables.ensures.none in
    let count : length h.roots ≡ length g.roots = omega (arith, c.if-roots.false, ap length c.roots-2.ensures, ap length c.roots.ensures) in
    ok_some_both (IsLoss pause.fill set g h) (IsMetFirst pause.fill set g h) (IsEarliestLoss pause.fill set g h) c.compare_words.result c.compare_words.ensures.some c.compare_words.ensures.first
    (λ l lost met. later pause.fill set g h (before_valid c.args.pause.now.heaps) (after_valid c.args.pause.now.heaps) l table count lost met)
