use Rattle.std.proofs.lemmas.Result.{err_from_is_err_and}
use Rattle.g1heap_cli.proofs.Called.{called, not_allowed, wrong_words}
use Rattle.g1heap_cli.proofs.commands.read_call.Goals as goal

pub returns-in_err-parse-clause-wrong : goal.returns-in_err-parse-clause-wrong
returns-in_err-parse-clause-wrong c =
    let p = err_from_is_err_and c.from_residual.result c.from_residual.ensures.1 in
    rw (p.1, p.2) (wrong_words _ _ c.in_err-parse.field-0.0 c.in_err-parse.ensures)

pub returns-clause-called : goal.returns-clause-called
returns-clause-called c = called _ _ c.in_ok-parse.field-0 c.in_ok-parse.ensures c.allow.result c.allow.ensures.same c.allow.ensures.allowed

pub returns-clause-wrong : goal.returns-clause-wrong
returns-clause-wrong c = not_allowed _ _ c.in_ok-parse.field-0 c.in_ok-parse.ensures c.allow.result c.allow.ensures.refused
