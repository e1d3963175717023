use Rattle.std.proofs.Common.{◌≡◌, ◌+◌, ℕ, arith, subst, sym}
use Rattle.g1_work.specs.Make.{AreMade}
use Rattle.g1_work.proofs.Making.{made_more}
use Rattle.g1_work.proofs.make.make_in_turn.Goals as goal

pub loop-number-preserved : goal.loop-number-preserved
loop-number-preserved g c =
    let makes = g.M.Make.makes c.args.maker.now in
    subst (AreMade makes (c.loop-number.number + 1)) (sym c.in_ok-push.ensures.items)
    (made_more makes c.loop-number.number c.loop-number.made.items c.in_ok-make.field-0 c.loop-number.invariant c.in_ok-make.ensures.ok)

pub loop-number-smaller : goal.loop-number-smaller
loop-number-smaller g c = omega (arith, c.loop-number-test.true)

pub returns-clause-ok : goal.returns-clause-ok
returns-clause-ok g c =
    let all : c.loop-number.number ≡ c.args.count = let e = c.loop-number.auto.number-end in omega (arith, e, c.loop-number-test.false) in
    subst (λ (n : ℕ). AreMade (g.M.Make.makes c.args.maker.now) n c.loop-number.made.items) all c.loop-number.invariant
