use Rattle.std.proofs.Common.{subst}
use Rattle.g1_same.specs.Same.{IsClash}
use Rattle.g1_same.proofs.Following.{value_before, value_after}
use Rattle.g1_same.proofs.Held.{before_valid, after_valid}
use Rattle.g1_same.proofs.ending.values.Goals as goal

pub value-requires : goal.value-requires
value-requires c =
    let g = c.args.heaps.before.now in
    let h = c.args.heaps.after.now in
    let r = c.requires in
    value_before g h r.0 c.args.old c.args.new c.in-Data.word (before_valid c.args.heaps) r.1 (subst (λ how. IsClash g h r.0 how c.args.old c.args.new) c.in-Data.is r.3)

pub value-requires-in-Data : goal.value-requires-in-Data
value-requires-in-Data c =
    let g = c.args.heaps.before.now in
    let h = c.args.heaps.after.now in
    let r = c.requires in
    value_after g h r.0 c.args.old c.args.new c.in-Data.word (after_valid c.args.heaps) r.2 (subst (λ how. IsClash g h r.0 how c.args.old c.args.new) c.in-Data.is r.3)
