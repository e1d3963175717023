use Rattle.std.proofs.Common.{◌≡◌, true, false, refl, sym, subst, below_more, arith}
use Rattle.g1_words.specs.Valid.{IsReference}
use Rattle.g1_image.proofs.refs.first_stray.Goals as goal

pub loop-i-init : goal.loop-i-init
loop-i-init c = λ q lt. absurd (omega arith)

pub loop-i-preserved : goal.loop-i-preserved
loop-i-preserved c = below_more _ _ c.loop-i.invariant (subst (IsReference c.args.draft.now) c.at.ensures (c.if-not-is_reference.ensures.0 refl))

pub returns-then-not-is_reference-clause-found : goal.returns-then-not-is_reference-clause-found
returns-then-not-is_reference-clause-found c =
    record { within = c.loop-i-test.true; breach = λ s. let e : false ≡ true = c.if-not-is_reference.ensures.1 (subst (IsReference c.args.draft.now) (sym c.at.ensures) s) in cc; before = c.loop-i.invariant }

pub returns-clause-none : goal.returns-clause-none
returns-clause-none c = λ i lt. c.loop-i.invariant i (omega (arith, lt, c.loop-i-test.false))

pub loop-i-smaller : goal.loop-i-smaller
loop-i-smaller c = omega (arith, c.loop-i-test.true)
