use Rattle.std.proofs.Common.{◌≡◌, ap, ◌∙◌}
use Rattle.std.specs.Prelude.{Some}
use Rattle.g1_image.specs.Cards.{uncovered}
use Rattle.g1_image.proofs.Covers.{uncovered_rise}
use Rattle.g1_rem.proofs.Firsts.{first_least}
use Rattle.g1_rem.proofs.cover.verify_by.Goals as goal

pub returns-in-Ok-Some-clause-lowest : goal.returns-in-Ok-Some-clause-lowest
returns-in-Ok-Some-clause-lowest g c = λ p q e k.
    let same : c.in-Ok-Some.p ≡ p = cc in
    first_least (uncovered c.args.image) c.in-Ok-Some.field-0 (uncovered_rise c.args.image c.heap.ensures.valid.heap) c.in-Ok-Some.ensures.ok p q
    (c.in-Ok-Some.field-0-is ∙ ap (λ x. Some x) same) k

-- where no slot is uncovered, no fault is told
pub returns-in-Ok-None-clause-fault : goal.returns-in-Ok-None-clause-fault
returns-in-Ok-None-clause-fault g c = tt

pub returns-in-Ok-None-clause-lowest : goal.returns-in-Ok-None-clause-lowest
returns-in-Ok-None-clause-lowest g c = tt
