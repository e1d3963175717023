use Rattle.std.proofs.Common.{ap, refl, sym, ◌∙◌, arith}
use Rattle.g1_same.proofs.meeting.objects_differ.Goals as goal

pub object-old-requires : goal.object-old-requires
object-old-requires c = c.requires.a

pub object-new-requires : goal.object-new-requires
object-new-requires c = c.requires.b

pub returns-then-old-new-clause-some : goal.returns-then-old-new-clause-some
returns-then-old-new-clause-some c =
    let old = sym (ap (λ z. z.size) c.object-old.ensures.value) in
    let new = sym (ap (λ z. z.size) c.object-new.ensures.value) in
    λ p. (c.args.a, c.args.b, refl, refl, old, new, λ e. omega (arith, c.if-old-new.true, e))

pub returns-then-old-new-clause-lower : goal.returns-then-old-new-clause-lower
returns-then-old-new-clause-lower c = tt

pub returns-then-old-new-clause-none : goal.returns-then-old-new-clause-none
returns-then-old-new-clause-none c = tt

pub returns-then-old-new-2-clause-some : goal.returns-then-old-new-2-clause-some
returns-then-old-new-2-clause-some c =
    let old = sym (ap (λ z. z.refs) c.object-old.ensures.value) in
    let new = sym (ap (λ z. z.refs) c.object-new.ensures.value) in
    λ p. (c.args.a, c.args.b, refl, refl, old, new, λ e. omega (arith, c.if-old-new-2.true, e))

pub returns-then-old-new-2-clause-lower : goal.returns-then-old-new-2-clause-lower
returns-then-old-new-2-clause-lower c =
    let old = ap (λ z. z.size) c.object-old.ensures.value in
    let new = ap (λ z. z.size) c.object-new.ensures.value in
    sym old ∙ c.if-old-new.false ∙ new

pub returns-then-old-new-2-clause-none : goal.returns-then-old-new-2-clause-none
returns-then-old-new-2-clause-none c = tt
