use Rattle.std.proofs.Common.{◌≡◌, true, false, refl, subst, arith, ◌∙◌}
use Rattle.std.proofs.KnownBytes.{Keeps-refl, Keeps-trans}
use Rattle.std.proofs.lemmas.Result.{err_from_is_err_and}
use Rattle.g1_image.specs.Source.{ReadFails}
use Rattle.g1_image.proofs.buffer.Buffer.reach.Goals as goal

pub loop-self-init : goal.loop-self-init
loop-self-init g c = record { known = c.requires.known; mark = refl; kept = Keeps-refl _ }

pub loop-self-smaller : goal.loop-self-smaller
loop-self-smaller g c = omega (arith, c.in_ok-read_on.ensures.more c.if-not-branch.false, c.loop-self-test.true, c.len.ensures.value)

pub loop-self-preserved : goal.loop-self-preserved
loop-self-preserved g c =
    let before = c.loop-self.invariant in
    let read = c.in_ok-read_on.ensures in
    record { known = c.read_on.ensures.known; mark = read.mark ∙ before.mark; kept = Keeps-trans _ _ _ before.kept read.kept }

pub returns-in_err-read_on-clause-known : goal.returns-in_err-read_on-clause-known
returns-in_err-read_on-clause-known g c = c.read_on.ensures.known

pub returns-in_err-read_on-clause-err : goal.returns-in_err-read_on-clause-err
returns-in_err-read_on-clause-err g c =
    let left = err_from_is_err_and c.from_residual.result c.from_residual.ensures.1 in
    rw (left.1, left.2) (subst (λ m. ReadFails m (g.S.Source.failed c.read_on.new.source) c.in_err-read_on.field-0.0) c.loop-self.invariant.mark c.in_err-read_on.ensures.err)

pub returns-then-not-branch-clause-known : goal.returns-then-not-branch-clause-known
returns-then-not-branch-clause-known g c = c.read_on.ensures.known

pub returns-then-not-branch-clause-ok : goal.returns-then-not-branch-clause-ok
returns-then-not-branch-clause-ok g c =
    let before = c.loop-self.invariant in
    let read = c.in_ok-read_on.ensures in
    let none = read.end c.if-not-branch.true in
    record {
      mark = read.mark ∙ before.mark;
      kept = Keeps-trans _ _ _ before.kept read.kept;
      there = λ t. absurd (let e : false ≡ true = t in cc);
      ended = λ f. (none.0, omega (arith, none.1, c.loop-self-test.true, c.len.ensures.value));
    }

pub returns-clause-known : goal.returns-clause-known
returns-clause-known g c = c.loop-self.invariant.known

pub returns-clause-ok : goal.returns-clause-ok
returns-clause-ok g c = record {
  mark = c.loop-self.invariant.mark;
  kept = c.loop-self.invariant.kept;
  there = λ t. omega (arith, c.loop-self-test.false, c.len.ensures.value);
  ended = λ f. absurd (let e : true ≡ false = f in cc);
}
