use Rattle.std.proofs.Common.{◌≡◌, length}
use Rattle.g1_image.specs.Text.{words_text}
use Rattle.g1_image.specs.Sink.{unsent}
use Rattle.g1_image.proofs.Sent.{Sending}
use Rattle.g1_image.proofs.behind.Behind.send.Given as goal

abbrev pub invariant-loop-rest : goal.invariant-loop-rest
invariant-loop-rest g l = record {
  part : Sending (g.S.Sink.written l.initial.sink) (g.S.Sink.written l.sink) (unsent l.initial.self) (words_text l.words) (unsent l.self) (words_text l.rest);
  mark : g.S.Sink.failed l.sink ≡ g.S.Sink.failed l.initial.sink;
}

abbrev pub decreases-loop-rest : goal.decreases-loop-rest
decreases-loop-rest g l = length l.rest
