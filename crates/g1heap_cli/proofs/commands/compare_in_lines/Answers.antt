use Rattle.std.proofs.Common.{[], ◌∙◌, sym, ap, subst}
use Rattle.std.specs.Io.KnownBytes.{append_known}
use Rattle.g1heap_cli.specs.Streams.{known_of}
use Rattle.g1heap_cli.specs.Written.{taken_of}
use Rattle.g1heap_cli.specs.Leaving.{SendsLines}
use Rattle.g1heap_cli.specs.Replies.{IsSameReply}
use Rattle.g1heap_cli.proofs.Sent.{sent}
use Rattle.g1heap_cli.proofs.commands.compare_in_lines.Goals as goal

-- the lines are sent from the writer that was taken away
pub returns : goal.returns
returns g c =
    let known = g.W.Write.contents in
    let Is = IsSameReply c.args.same.now (g.R.Read.remaining c.args.reader.now) in
    let old = known_of known c.args.writer.now.stream in
    let first = c.new-answer.result in
    let last = c.send_lines-sent.new.answer in
    let all = taken_of (λ h. known_of known h.stream) (λ s. s.value) last.gone last.writer last.text.bytes.items in
    record {
      sends =
          subst (λ h. SendsLines Is old (known_of known h.stream) c.send_lines-sent.result) (sym c.into_writer.ensures)
          (sent Is old (known_of known last.stood.value.stream) (known_of known last.writer.stream) all last.begun c.send_lines-sent.result
          (known_of known first.stood.value.stream) (taken_of (λ h. known_of known h.stream) (λ s. s.value) first.gone first.writer first.text.bytes.items)
          (ap (λ h. known_of known h.stream) (c.new-answer.ensures.stood ∙ c.take.ensures))
          (c.new-answer.ensures.taken ∙ ap (λ h. append_known (known_of known h.stream) []) c.take.ensures)
          c.send_lines-sent.ensures.lines c.send_lines-sent.ensures.grown);
      refused = c.send_lines-sent.ensures.refused;
    }
