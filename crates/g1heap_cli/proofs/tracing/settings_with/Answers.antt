use Rattle.std.proofs.Common.{arith}
use Rattle.std.proofs.lemmas.Result.{IfErr-weaker}
use Rattle.g1heap_cli.proofs.TraceRefused.{cost_refused}
use Rattle.g1heap_cli.proofs.tracing.settings_with.Goals as goal

pub returns-clause-refused : goal.returns-clause-refused
returns-clause-refused c =
    IfErr-weaker c.new.result _ _ (λ f h. cost_refused 1 64 c.args.trace.now.cost f (omega arith, omega arith) (omega arith, omega arith) h) c.new.ensures.err
