use Rattle.std.proofs.Common.{subst}
use Rattle.g1_copy.specs.Plans.{IsPauseOf}
use Rattle.g1_copy.specs.Prepared.{IsMadeFor}
use Rattle.g1_pause.specs.Steps.{IsOutcome}
use Rattle.g1_pause.proofs.Carried.{carried_out}
use Rattle.g1_pause.proofs.Planning.{refused_for_room}
use Rattle.g1_pause.proofs.carrying.carry_out.Goals as goal

pub commit-requires-clause-made : goal.commit-requires-clause-made
commit-requires-clause-made g c κs within =
    let set = c.args.steps.collection.regions.items in
    let ready : IsPauseOf c.args.tracked.heap set c.in-Ready.plan × IsMadeFor c.in-Ready.prepared c.args.tracked set c.in-Ready.plan.survivors =
    subst (IsOutcome c.args.tracked set) c.in-Ready.is c.requires.taken.1 in
    (set, c.in-Ready.plan.survivors, ready.1)

pub returns-clause-done : goal.returns-clause-done
returns-clause-done g c =
    let set = c.args.steps.collection.regions.items in
    let ready : IsPauseOf c.args.tracked.heap set c.in-Ready.plan × IsMadeFor c.in-Ready.prepared c.args.tracked set c.in-Ready.plan.survivors =
    subst (IsOutcome c.args.tracked set) c.in-Ready.is c.requires.taken.1 in
    carried_out c.args.settings.now.cost c.args.settings.now.choice c.args.tracked c.commit.result c.in-Ready.prepared
    (record { set = set; survivors = c.in-Ready.plan.survivors; chosen = c.requires.taken.0; made = ready.1 }) c.commit.ensures.paused

pub returns-in-NoRoom-clause-refused : goal.returns-in-NoRoom-clause-refused
returns-in-NoRoom-clause-refused g c =
    let set = c.args.steps.collection.regions.items in
    refused_for_room c.args.settings.now.cost c.args.settings.now.choice c.args.tracked set c.in-NoRoom.survivors.items c.in-NoRoom.need c.in-NoRoom.free
    c.requires.taken.0 (subst (IsOutcome c.args.tracked set) c.in-NoRoom.is c.requires.taken.1)
