use Rattle.std.proofs.Common.{subst, ap, length, arith}
use Rattle.std.proofs.lemmas.Result.{err_from_is_err_and}
use Rattle.g1_image.specs.Ahead.{waiting}
use Rattle.g1_image.specs.Reading.{IsBytes}
use Rattle.g1_image.proofs.Taken.{read_takes_none, ends_short}
use Rattle.g1_image.proofs.pieces.words_ahead.Goals as goal

pub returns-in_err-reach-clause-known : goal.returns-in_err-reach-clause-known
returns-in_err-reach-clause-known g c = c.reach.ensures.known

pub returns-in_err-reach-clause-err : goal.returns-in_err-reach-clause-err
returns-in_err-reach-clause-err g c =
    let left = err_from_is_err_and c.from_residual.result c.from_residual.ensures.1 in
    rw (left.1, left.2) (read_takes_none _ _ _ _ c.in_err-reach.field-0.0 c.in_err-reach.ensures.err)

pub returns-then-not-branch-clause-known : goal.returns-then-not-branch-clause-known
returns-then-not-branch-clause-known g c = c.reach.ensures.known

pub returns-then-not-branch-clause-err : goal.returns-then-not-branch-clause-err
returns-then-not-branch-clause-err g c = ends_short _ _ _ (g.S.Source.left c.reach.new.source) (waiting c.reach.new.self) 8 _ c.in_ok-reach.ensures.ok c.if-not-branch.true

pub returns-clause-known : goal.returns-clause-known
returns-clause-known g c = c.reach.ensures.known

pub returns-clause-are_bytes : goal.returns-clause-are_bytes
returns-clause-are_bytes g c = subst IsBytes c.bytes.ensures.same c.bytes.ensures.are_bytes

pub returns-clause-kept : goal.returns-clause-kept
returns-clause-kept g c = c.in_ok-reach.ensures.ok.kept

pub returns-clause-mark : goal.returns-clause-mark
returns-clause-mark g c = c.in_ok-reach.ensures.ok.mark

pub reach-requires : goal.reach-requires
reach-requires g c = record { known = c.requires.known }

pub returns-clause-count : goal.returns-clause-count
returns-clause-count g c =
    let same = ap length c.bytes.ensures.same in
    let some = c.in_ok-reach.ensures.ok.there c.if-not-branch.false in
    (omega (arith, c.min.ensures, same, some, c.requires.some), omega (arith, c.min.ensures), omega (arith, c.min.ensures, same))
