use Rattle.std.proofs.Common.{refl, sym, subst, ◌∙◌, arith}
use Rattle.std.specs.Prelude.{IsTrue}
use Rattle.std.specs.Io.KnownBytes.{IsAtEnd}
use Rattle.std.proofs.lemmas.Result.{err_from_is_err_and}
use Rattle.g1_image.specs.Source.{ReadFails}
use Rattle.g1_image.proofs.buffer.Buffer.drain.Goals as goal

pub loop-init : goal.loop-init
loop-init g c = record { known = c.requires.known; mark = refl }

pub loop-preserved : goal.loop-preserved
loop-preserved g c = record { known = c.read_on.ensures.known; mark = c.in_ok-read_on.ensures.mark ∙ c.loop.invariant.mark }

pub pass-requires : goal.pass-requires
pass-requires g c = omega (arith, c.len-count.ensures.value)

pub read_on-requires : goal.read_on-requires
read_on-requires g c = record { known = subst (λ b. IsTrue b → IsAtEnd (g.S.Source.left c.loop.source)) (sym c.pass.ensures.end) c.loop.invariant.known }

pub returns-in_err-read_on-clause-err : goal.returns-in_err-read_on-clause-err
returns-in_err-read_on-clause-err g c =
    let same = err_from_is_err_and c.from_residual.result c.from_residual.ensures.1 in
    let e = c.in_err-read_on.field-0.0 in
    rw (same.1, same.2) (subst (λ m. ReadFails m (g.S.Source.failed c.read_on.new.source) e) c.loop.invariant.mark c.in_err-read_on.ensures.err)

pub returns-then-not-branch-clause-end : goal.returns-then-not-branch-clause-end
returns-then-not-branch-clause-end g c = (c.in_ok-read_on.ensures.end c.if-not-branch.true).0

pub returns-then-not-branch-clause-mark : goal.returns-then-not-branch-clause-mark
returns-then-not-branch-clause-mark g c = c.in_ok-read_on.ensures.mark ∙ c.loop.invariant.mark

pub returns-clause-err : goal.returns-clause-err
returns-clause-err g c = c.loop.invariant.mark
