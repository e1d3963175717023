use Rattle.std.proofs.Common.{◌≡◌, ◌++◌, sym, subst, rules}
use Rattle.g1_report.specs.Taken.{TakesPart}
use Rattle.g1heap_cli.specs.Written.{before_of, taken_of, with_number}
use Rattle.g1heap_cli.proofs.Begun.{takes-all}
use Rattle.g1heap_cli.proofs.line_writer.LineWriterLines.take.Goals as goal

-- a write failed, and the lines wait
pub returns-in-Err-clause-err : goal.returns-in-Err-clause-err
returns-in-Err-clause-err g c =
    let old = c.args.self.now in
    let mid = c.push_str.new.self.bytes.items in
    let new = c.write.new.self in
    let known = g.W.Write.contents in
    let bytes : mid ≡ old.text.bytes.items ++ c.args.lines.now = search rules in
    subst (λ s. TakesPart (with_number (known old.stood.value) (taken_of known (λ s. s.value) old.gone old.writer old.text.bytes.items))
    (with_number (known s.value) (taken_of known (λ s. s.value) new.gone new.writer new.text.bytes.items)) c.args.lines.now) (sym c.write.ensures.stood)
    (takes-all (known old.stood.value) (known (before_of (λ s. s.value) old.gone old.writer)) _ old.text.bytes.items mid c.args.lines.now bytes c.write.ensures.taken)
