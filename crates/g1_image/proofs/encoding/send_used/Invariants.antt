use Rattle.std.proofs.Common.{◌≡◌, ◌*◌, ◌-◌, drop, length}
use Rattle.g1_image.specs.Text.{words_text}
use Rattle.g1_image.specs.Image.{used_words}
use Rattle.g1_image.specs.Sink.{unsent}
use Rattle.g1_image.proofs.Sent.{Sending}
use Rattle.g1_image.proofs.encoding.send_used.Given as goal

abbrev pub invariant-loop-r : goal.invariant-loop-r
invariant-loop-r g l = record {
  part : Sending (g.S.Sink.written l.fn.sink) (g.S.Sink.written l.sink) (unsent l.fn.behind) (words_text (used_words l.width l.regions l.words))
      (unsent l.behind) (words_text (used_words l.width (drop l.r-index l.regions) l.rest));
  mark : g.S.Sink.failed l.sink ≡ g.S.Sink.failed l.fn.sink;
  rows : length l.rest ≡ length l.words - l.r-index * l.width;
}
