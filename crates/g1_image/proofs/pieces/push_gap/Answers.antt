use Rattle.std.proofs.Common.{◌*◌}
use Rattle.std.proofs.lemmas.Result.{err_from_is_err_and}
use Rattle.g1_image.specs.Ahead.{waiting}
use Rattle.g1_image.proofs.Taken.{read_takes_none, ends_short, takes_nothing}
use Rattle.g1_image.proofs.pieces.push_gap.Goals as goal

pub returns-in_err-reach-clause-known : goal.returns-in_err-reach-clause-known
returns-in_err-reach-clause-known g c = c.reach.ensures.known

pub returns-in_err-reach-clause-err : goal.returns-in_err-reach-clause-err
returns-in_err-reach-clause-err g c =
    let left = err_from_is_err_and c.from_residual.result c.from_residual.ensures.1 in
    rw (left.1, left.2) (read_takes_none _ _ _ _ c.in_err-reach.field-0.0 c.in_err-reach.ensures.err)

pub returns-then-not-branch-clause-known : goal.returns-then-not-branch-clause-known
returns-then-not-branch-clause-known g c = c.reach.ensures.known

pub returns-then-not-branch-clause-err : goal.returns-then-not-branch-clause-err
returns-then-not-branch-clause-err g c =
    ends_short _ _ _ (g.S.Source.left c.reach.new.source) (waiting c.reach.new.self) (8 * c.args.wanted) _ c.in_ok-reach.ensures.ok c.if-not-branch.true

pub returns-in_err-push_zeros-clause-known : goal.returns-in_err-push_zeros-clause-known
returns-in_err-push_zeros-clause-known g c = c.reach.ensures.known

pub returns-in_err-push_zeros-clause-err : goal.returns-in_err-push_zeros-clause-err
returns-in_err-push_zeros-clause-err g c =
    let left = err_from_is_err_and c.from_residual-in_err-push_zeros.result c.from_residual-in_err-push_zeros.ensures.1 in
    rw (left.1, left.2) c.in_ok-reach.ensures.ok.mark

pub returns-clause-known : goal.returns-clause-known
returns-clause-known g c = c.reach.ensures.known

pub returns-clause-none : goal.returns-clause-none
returns-clause-none g c = takes_nothing _ _ _ _ c.in_ok-reach.ensures.ok.mark c.in_ok-reach.ensures.ok.kept

pub returns-clause-words : goal.returns-clause-words
returns-clause-words g c = c.in_ok-push_zeros.ensures
