use Rattle.g1_report.proofs.Named.{value_found}
use Rattle.g1_report.proofs.names.Names.label.Goals as goal

pub returns : goal.returns
returns c = λ h. value_found (λ b. b.now) c.args.word c.args.self.now.labels.items c.as_slice.result.now c.as_slice.ensures.value h.labels c.value_at.result c.value_at.ensures
