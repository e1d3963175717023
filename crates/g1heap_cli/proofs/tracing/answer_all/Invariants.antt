use Rattle.std.proofs.Common.{◌≡◌}
use Rattle.g1_command.specs.Lines.{left_of}
use Rattle.g1heap_cli.specs.Traced.{is_live}
use Rattle.g1heap_cli.proofs.TraceReached.{Reached}
use Rattle.g1heap_cli.proofs.tracing.answer_all.Given as goal

abbrev pub invariant-loop-number : goal.invariant-loop-number
invariant-loop-number g l = record {
  live : l.is_live ≡ is_live l.job.trace.now;
  reached : Reached l.job.trace.now (left_of g.R.Read.remaining l.initial.lines) (left_of g.R.Read.remaining l.lines) (g.W.Write.contents l.initial.writer) (g.W.Write.contents l.writer) l.state l.number;
}
