use Rattle.g1_report.proofs.Named.{value_found}
use Rattle.g1_report.proofs.names.Names.root.Goals as goal

pub returns : goal.returns
returns c = λ h. value_found (λ b. b.now) c.args.number c.args.self.now.roots.items c.as_slice.result.now c.as_slice.ensures.value h.roots c.value_at.result c.value_at.ensures
