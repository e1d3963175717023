use Rattle.g1_pause.proofs.Answered.{uncovered_told, refused_told, after_told}
use Rattle.g1_pause.proofs.NoDevice.{refusal_names_none, bare_names_none}
use Rattle.g1_pause.proofs.bytes.run_pause.Goals as goal

pub returns-in-Err-clause-fault : goal.returns-in-Err-clause-fault
returns-in-Err-clause-fault g c = uncovered_told c.args.settings.now.cost c.args.settings.now.choice c.args.before c.in-Err.fault c.in-Err.ensures.fault

pub returns-in-Ok-evacuate-clause-answer : goal.returns-in-Ok-evacuate-clause-answer
returns-in-Ok-evacuate-clause-answer g c =
    after_told c.args.settings.now.cost c.args.settings.now.choice c.args.before c.in-Ok.tracked c.in-Ok-evacuate.after c.in-Ok.ensures.ok c.evacuate.ensures.tracked c.in-Ok-evacuate.ensures.done

pub returns-clause-fault : goal.returns-clause-fault
returns-clause-fault g c =
    refused_told c.args.settings.now.cost c.args.settings.now.choice c.args.before c.in-Ok.tracked c.in-Err-evacuate.fault c.in-Ok.ensures.ok
    c.evacuate.ensures.tracked c.in-Err-evacuate.ensures.refused

pub returns-in-Err-clause-no_device : goal.returns-in-Err-clause-no_device
returns-in-Err-clause-no_device g c = bare_names_none c.args.before c.in-Err.fault c.in-Err.ensures.fault

pub returns-clause-no_device : goal.returns-clause-no_device
returns-clause-no_device g c = refusal_names_none c.args.settings.now.cost c.args.settings.now.choice c.in-Ok.tracked c.in-Err-evacuate.fault c.in-Err-evacuate.ensures.refused
