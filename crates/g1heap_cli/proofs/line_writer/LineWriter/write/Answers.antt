use Rattle.std.proofs.Common.{◌≡◌, false, is_some, sym, ◌∙◌, take}
use Rattle.std.specs.Io.KnownBytes.{Appends}
use Rattle.g1heap_cli.proofs.Begun.{kept-begun, is_part}
use Rattle.g1heap_cli.proofs.line_writer.LineWriter.write.Goals as goal

-- the reader went away
pub invariant_of-self-in-Ok-eq141 : goal.invariant_of-self-in-Ok-eq141
invariant_of-self-in-Ok-eq141 g c =
    let self = c.args.self.now in
    let none : is_some self.gone ≡ false = sym c.is_some.ensures ∙ c.if-is_some.false in
    let part = is_part (λ k. Appends (g.W.Write.contents self.writer) (g.W.Write.contents c.deliver_text.new.writer) (take k c.as_bytes.result.now)) c.in-Ok-eq141.field-0-test c.in-Ok-eq141.ensures.text in
    record { begun = kept-begun g.W.Write.contents (λ s. s.value) self.gone _ self.writer c.of-before.result.value _ self.text.bytes.items c.as_bytes.result.now part.0 none c.as_bytes.ensures.value c.of-before.ensures self.begun part.1 }

-- a write failed
pub invariant_of-self-in-Err : goal.invariant_of-self-in-Err
invariant_of-self-in-Err g c =
    let self = c.args.self.now in
    let none : is_some self.gone ≡ false = sym c.is_some.ensures ∙ c.if-is_some.false in
    let part = c.in-Err.ensures.text.1 in
    record { begun = kept-begun g.W.Write.contents (λ s. s.value) self.gone _ self.writer c.of-before.result.value _ self.text.bytes.items c.as_bytes.result.now part.0 none c.as_bytes.ensures.value c.of-before.ensures self.begun part.1 }
