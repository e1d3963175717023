use Rattle.std.proofs.Common.{◌≡◌}
use Rattle.g1_image.specs.Buffer.{SeesEnd}
use Rattle.g1_image.proofs.buffer.Buffer.drain.Given as goal

abbrev pub invariant-loop : goal.invariant-loop
invariant-loop g l = record {
  known : SeesEnd l.self (g.S.Source.left l.source);
  mark : g.S.Source.failed l.source ≡ g.S.Source.failed l.fn.source;
}
