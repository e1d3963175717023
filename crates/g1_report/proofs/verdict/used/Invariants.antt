use Rattle.std.proofs.Common.{◌≡◌, take}
use Rattle.g1_report.specs.Agreement.{used}
use Rattle.g1_report.proofs.verdict.used.Given as goal

abbrev pub invariant-loop-region : goal.invariant-loop-region
invariant-loop-region l = l.used.items ≡ used l.old (take l.region-index l.set)
