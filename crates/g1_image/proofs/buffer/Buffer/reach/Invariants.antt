use Rattle.std.proofs.Common.{◌≡◌, ◌-◌, length}
use Rattle.std.specs.Io.KnownBytes.{Keeps}
use Rattle.g1_image.specs.Buffer.{buffered, to_read, SeesEnd}
use Rattle.g1_image.proofs.buffer.Buffer.reach.Given as goal

abbrev pub invariant-loop-self : goal.invariant-loop-self
invariant-loop-self g l = record {
  known : SeesEnd l.self (g.S.Source.left l.source);
  mark : g.S.Source.failed l.source ≡ g.S.Source.failed l.initial.source;
  kept : Keeps (to_read l.initial.self (g.S.Source.left l.initial.source)) (to_read l.self (g.S.Source.left l.source));
}

abbrev pub decreases-loop-self : goal.decreases-loop-self
decreases-loop-self g l = l.wanted - length (buffered l.self)
