use Rattle.g1heap_request.proofs.Checked.{refused_so}
use Rattle.g1heap_request.specs.Together.AreTogether.{budget_and_set}
use Rattle.g1heap_request.proofs.checks.check_choice.Goals as goal

pub returns-clause-refused : goal.returns-clause-refused
returns-clause-refused c = refused_so (λ k. budget_and_set k.0 k.1) c.exclude_values.result c.exclude_values.ensures.refused
