use Rattle.std.proofs.Common.{ap, sym, subst, ◌-◌, ◌+◌, ◌∙◌, filter, arith}
use Rattle.std.specs.Prelude.{Some}
use Rattle.std.specs.List.{range_with_len}
use Rattle.g1_rem.specs.Cover.{is_bare, IsFirstOf}
use Rattle.g1_rem.proofs.Bare.{stop_front, range_front}
use Rattle.g1_rem.proofs.cover.first_between.Goals as goal

pub returns-then-is_uncovered-clause-first : goal.returns-then-is_uncovered-clause-first
returns-then-is_uncovered-clause-first c =
    let front = range_front c.loop-p.p c.args.to c.loop-p-test.true in
    subst (λ l. IsFirstOf l (Some c.loop-p.p)) (sym (c.loop-p.invariant.same ∙ ap (filter (is_bare c.args.image.now)) front))
    (stop_front (is_bare c.args.image.now) c.loop-p.p (range_with_len (c.loop-p.p + 1) (c.args.to - (c.loop-p.p + 1))) (sym c.is_uncovered.ensures.uncovered ∙ c.if-is_uncovered.true))

pub loop-p-smaller : goal.loop-p-smaller
loop-p-smaller c = omega (arith, c.loop-p-test.true)
