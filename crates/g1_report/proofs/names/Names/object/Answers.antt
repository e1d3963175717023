use Rattle.std.proofs.Common.{sym, ap, ◌∙◌}
use Rattle.g1_report.specs.Program.{program_of, kind_told, kind_said, kind_by_line, kind_by_label}
use Rattle.g1_report.proofs.Told.{or_some, or_none}
use Rattle.g1_report.proofs.names.Names.object.Goals as goal

pub returns-in-Some : goal.returns-in-Some
returns-in-Some c = λ h.
    let p = program_of c.args.self.now in
    let o = c.args.object.now in
    or_some (kind_by_line p.labels_before p o.at) (kind_by_label p o.«data».now) (kind_said c.in-Some.kind) (ap kind_told (sym c.in-Some.is) ∙ c.kind_at.ensures h)

pub returns-in-None : goal.returns-in-None
returns-in-None c = λ h.
    let p = program_of c.args.self.now in
    let o = c.args.object.now in
    or_none (kind_by_line p.labels_before p o.at) (kind_by_label p o.«data».now) (kind_told c.kind_labelled.result) (ap kind_told (sym c.in-None.is) ∙ c.kind_at.ensures h) (c.kind_labelled.ensures h)
