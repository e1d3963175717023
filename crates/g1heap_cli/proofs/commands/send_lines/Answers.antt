use Rattle.g1heap_cli.specs.Written.{taken_of}
use Rattle.g1heap_cli.proofs.Sent.{takes-kept, grows-kept}
use Rattle.g1heap_cli.proofs.commands.send_lines.Goals as goal

-- what was taken is written
pub returns-in-Ok-finish : goal.returns-in-Ok-finish
returns-in-Ok-finish g c =
    let known = g.W.Write.contents in
    let mid = c.compare_files.new.answer in
    let new = c.finish.new.self in
    let said = c.in-Ok.ensures.text in
    record {
      lines = record {
        status = c.in-Ok.status;
        text = said.0;
        is = said.1;
        takes = takes-kept (λ s. known s.value) _ (taken_of known (λ s. s.value) mid.gone mid.writer mid.text.bytes.items) (taken_of known (λ s. s.value) new.gone new.writer new.text.bytes.items)
            mid.stood new.stood said.0 c.finish.ensures.stood c.finish.ensures.taken said.2;
        ends = c.in-Ok-finish.ensures.ends;
      };
      refused = tt;
      grown = grows-kept (λ s. known s.value) _ (taken_of known (λ s. s.value) mid.gone mid.writer mid.text.bytes.items) (taken_of known (λ s. s.value) new.gone new.writer new.text.bytes.items)
          mid.stood new.stood c.finish.ensures.stood c.finish.ensures.taken c.in-Ok.ensures.grown;
    }
