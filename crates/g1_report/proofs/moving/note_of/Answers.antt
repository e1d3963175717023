use Rattle.std.proofs.Common.{sym, ◌∙◌}
use Rattle.g1_report.proofs.Moved.{some_note, no_note}
use Rattle.g1_report.proofs.moving.note_of.Goals as goal

pub returns-then-is_empty : goal.returns-then-is_empty
returns-then-is_empty c = no_note c.args.note.now (sym c.is_empty.ensures ∙ c.if-is_empty.true)

pub returns-else-is_empty : goal.returns-else-is_empty
returns-else-is_empty c = some_note c.args.note.now (sym c.is_empty.ensures ∙ c.if-is_empty.false)
