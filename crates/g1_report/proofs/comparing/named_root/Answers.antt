use Rattle.g1_report.specs.Program.{names_told, root_name}
use Rattle.g1_report.proofs.Told.{then_some, then_none}
use Rattle.g1_report.proofs.Programs.{given, missing, given_in_order}
use Rattle.g1_report.proofs.comparing.named_root.Goals as goal

pub returns-in-Some : goal.returns-in-Some
returns-in-Some c = λ h.
    then_some (λ p. root_name p c.args.root) (names_told c.args.names) _ _ (given c.args.names c.in-Some.names c.in-Some.is)
    (c.root.ensures (given_in_order c.args.names c.in-Some.names c.in-Some.is h))

pub returns-in-None : goal.returns-in-None
returns-in-None c = λ h. then_none (λ p. root_name p c.args.root) (names_told c.args.names) (missing c.args.names c.in-None.is)
