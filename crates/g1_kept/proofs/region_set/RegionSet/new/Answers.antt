use Rattle.std.proofs.Common.{arith, ap, length, false}
use Rattle.std.proofs.lemmas.List.{length-replicate}
use Rattle.g1_words.specs.Lists.{has}
use Rattle.g1_words.proofs.Marked.{marked_from_none}
use Rattle.g1_kept.proofs.region_set.RegionSet.new.Goals as goal

pub invariant_of-result : goal.invariant_of-result
invariant_of-result c = λ r lt.
    marked_from_none (has c.args.list.now) c.args.regions c.in_ok-marks.marks c.set_each.new.self c.in_ok-marks.ensures c.set_each.ensures r
    (omega (arith, lt, c.set_each.ensures.one_each, ap length c.in_ok-marks.ensures, length-replicate c.args.regions false))
