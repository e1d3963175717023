use Rattle.std.proofs.Common.{inr, ◌∙◌, subst, Err}
use Rattle.std.proofs.lemmas.Result.{err_from_is_err_and}
use Rattle.g1_image.specs.Image.{Image}
use Rattle.g1_words.specs.declared.fault.Fault.TheVariants.{Room}
use Rattle.g1_copy.specs.Plans.{IsPauseOf}
use Rattle.g1_copy.specs.Prepared.{IsMadeFor}
use Rattle.g1_pause.specs.Answer.{IsSetFor, IsEvacuated}
use Rattle.g1_pause.specs.Steps.{IsOutcome}
use Rattle.g1_pause.proofs.Planning.{refused_for_room}
use Rattle.g1_pause.proofs.Refused.{choice_refused}
use Rattle.g1_pause.proofs.Reported.{told_of}
use Rattle.g1_pause.proofs.evacuating.plan_pause.Goals as goal

pub returns-in-NoRoom-clause-refused : goal.returns-in-NoRoom-clause-refused
returns-in-NoRoom-clause-refused g c =
    let set = c.in_ok-collection.field-0.collection.regions.items in
    inr (subst (λ (i : Image). IsEvacuated c.args.settings.now.cost c.args.settings.now.choice i (Err (Room c.in-NoRoom.need c.in-NoRoom.free))) c.in_ok-before.ensures.image
    (refused_for_room c.args.settings.now.cost c.args.settings.now.choice c.in_ok-before.before set c.in-NoRoom.survivors.items c.in-NoRoom.need c.in-NoRoom.free
    c.in_ok-collection.ensures.set (subst (IsOutcome c.in_ok-before.before set) c.in-NoRoom.is c.in_ok-collection.ensures.outcome)))

pub returns-in_err-collection-clause-refused : goal.returns-in_err-collection-clause-refused
returns-in_err-collection-clause-refused g c =
    let p = err_from_is_err_and c.from_residual-in_err-collection.result c.from_residual-in_err-collection.ensures.1 in
    rw (p.1, p.2) (choice_refused c.args.settings.now.cost c.args.settings.now.choice c.args.tracked.now c.in_ok-before.before c.in_err-collection.field-0.0
    c.in_ok-before.ensures.image c.in_err-collection.ensures.refused)

pub returns-clause-report : goal.returns-clause-report
returns-clause-report g c =
    let i = c.args.tracked.now in
    let set = c.in_ok-collection.field-0.collection.regions.items in
    let same = c.in_ok-before.ensures.image in
    let ready : IsPauseOf i.heap set c.in-Ready.plan × IsMadeFor c.in-Ready.prepared i set c.in-Ready.plan.survivors =
    subst (λ (j : Image). IsPauseOf j.heap set c.in-Ready.plan × IsMadeFor c.in-Ready.prepared j set c.in-Ready.plan.survivors) same
    (subst (IsOutcome c.in_ok-before.before set) c.in-Ready.is c.in_ok-collection.ensures.outcome) in
    told_of c.args.settings.now.cost c.args.settings.now.choice i c.in-Ready.plan c.in-Ready.prepared c.in_ok-report-in-Ready.report c.know_tracked.ensures.image
    set (subst (λ (j : Image). IsSetFor c.args.settings.now.cost j c.args.settings.now.choice set) same c.in_ok-collection.ensures.set) ready.0 ready.1
    c.in_ok-report-in-Ready.ensures.set c.in_ok-report-in-Ready.ensures.to c.in_ok-report-in-Ready.ensures.objects c.in_ok-report-in-Ready.ensures.words
    (c.in_ok-report-in-Ready.ensures.humongous ∙ c.humongous.ensures)
