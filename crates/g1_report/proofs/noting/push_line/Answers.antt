use Rattle.std.proofs.Common.{sym, ◌∙◌, arith, string_bytes}
use Rattle.g1_report.specs.Program.{program_of}
use Rattle.g1_report.specs.Noted.{line_note, spaced_words}
use Rattle.g1_report.proofs.NotedLines.{line_pushed}
use Rattle.g1_report.proofs.noting.push_line.Goals as goal

pub returns : goal.returns
returns c = λ order speaks.
    line_pushed c.push.result c.args.line.now (line_note (program_of c.args.names.now) c.args.heap.now (spaced_words c.args.line.now)) _ (string_bytes c.args.text.now) (string_bytes c.push_str.new.self)
    (string_bytes c.push_note.new.text) (string_bytes c.push.new.self) (sym c.is_empty.ensures ∙ c.if-is_empty.false) c.in_ok-push_str.ensures.bytes (c.in_ok-push_note.ensures order speaks) c.push.ensures.bytes (c.push.ensures.ascii (omega arith))
