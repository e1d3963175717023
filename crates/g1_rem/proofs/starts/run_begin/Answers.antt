use Rattle.std.proofs.Common.{◌∙◌, arith, ap}
use Rattle.std.proofs.lemmas.Bool.{false≢true}
use Rattle.g1_rem.proofs.starts.run_begin.Goals as goal

pub regions-smaller : goal.regions-smaller
regions-smaller c = omega (arith, c.regions-test.true)

pub regions-preserved : goal.regions-preserved
regions-preserved c = omega (arith, c.regions.invariant)

pub returns-else-is_continuation-clause-kind : goal.returns-else-is_continuation-clause-kind
returns-else-is_continuation-clause-kind c = λ some inside is.
    absurd (false≢true (c.if-is_continuation.ensures.1 (ap (λ r. r.kind) c.region.ensures ∙ is)))

pub returns-else-first-regions-clause-kind : goal.returns-else-first-regions-clause-kind
returns-else-first-regions-clause-kind c = λ some inside is.
    omega (arith, inside, c.if-first-regions.false, c.regions-regions.ensures.value, ap (λ g. g.n) c.geometry.ensures.same)

pub returns-after-regions-clause-kind : goal.returns-after-regions-clause-kind
returns-after-regions-clause-kind c = λ some inside is. omega (arith, some, c.regions-test.false)
