use Rattle.std.proofs.Common.{◌∙◌}
use Rattle.g1_report.proofs.InOrder.{counts_more}
use Rattle.g1_report.proofs.sides.add_strays.Goals as goal

pub loop-place-preserved : goal.loop-place-preserved
loop-place-preserved c = λ start.
    counts_more c.loop-place.names.items c.push.new.self.items (_, _) (c.loop-place.invariant start) c.in_ok-push.ensures.items (c.len-word.ensures ∙ c.loop-place.names.ok.0)
