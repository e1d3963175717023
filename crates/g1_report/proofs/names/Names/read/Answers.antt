use Rattle.std.proofs.Common.{sym, subst, ◌∙◌}
use Rattle.std.specs.Prelude.{IfSome}
use Rattle.g1_report.specs.Program.{program_of, RiseByNumber}
use Rattle.g1_report.proofs.NamesText.{same_labels, put_in_order}
use Rattle.g1_report.proofs.names.Names.read.Goals as goal

pub returns-clause-in_order : goal.returns-clause-in_order
returns-clause-in_order c = λ rise.
    let ordered = c.in_ok-sort.ensures in
    let stay = ordered.labels_before ∙ same_labels _ _ _ _ c.in_ok-add_lines.ensures.says in
    put_in_order (program_of c.add_lines.new.self) (program_of c.sort.new.self) ordered (subst (λ l. IfSome l RiseByNumber) (sym stay) rise)
