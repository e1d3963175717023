use Rattle.std.proofs.lemmas.Result.{err_from_is_err_and}
use Rattle.g1_words.specs.declared.limits.Limits.TheVariants.{Specified}
use Rattle.g1_pause.proofs.Answered.{unread_told, fault_told, only_told, memory_told, text_told, only_written, written_follows}
use Rattle.g1_pause.proofs.bytes.pause_bytes.Goals as goal

pub returns-in_err-before-clause-fault : goal.returns-in_err-before-clause-fault
returns-in_err-before-clause-fault g c =
    let same = err_from_is_err_and c.from_residual.result c.from_residual.ensures.1 in
    rw (same.1, same.2) (unread_told Specified c.args.settings.now.cost c.args.settings.now.choice c.args.bytes.now c.in_err-before.field-0.0 c.in_err-before.ensures.err)

pub returns-in_err-before-clause-only_fault : goal.returns-in_err-before-clause-only_fault
returns-in_err-before-clause-only_fault g c =
    let same = err_from_is_err_and c.from_residual.result c.from_residual.ensures.1 in
    rw (same.1, same.2) (only_told Specified c.args.settings.now.cost c.args.settings.now.choice c.args.bytes.now c.one_answer.ensures.answer c.in_err-before.field-0.0
    (unread_told Specified c.args.settings.now.cost c.args.settings.now.choice c.args.bytes.now c.in_err-before.field-0.0 c.in_err-before.ensures.err))

pub returns-in-Ok-clause-answer : goal.returns-in-Ok-clause-answer
returns-in-Ok-clause-answer g c =
    text_told Specified c.args.settings.now.cost c.args.settings.now.choice c.args.bytes.now c.in_ok-before.before c.in-Ok.after c.image.result.now
    c.encode.result c.in_ok-before.ensures.ok c.in-Ok.ensures.answer c.image.ensures.same
    c.encode.ensures.ok

pub returns-in-Ok-clause-only : goal.returns-in-Ok-clause-only
returns-in-Ok-clause-only g c =
    only_written Specified c.args.settings.now.cost c.args.settings.now.choice c.args.bytes.now c.one_answer.ensures.answer c.encode.result (returns-in-Ok-clause-answer g c)

pub returns-in-Ok-clause-follows : goal.returns-in-Ok-clause-follows
returns-in-Ok-clause-follows g c =
    written_follows Specified c.args.settings.now.cost c.args.settings.now.choice c.args.bytes.now c.what_follows.ensures.answer c.encode.result (returns-in-Ok-clause-answer g c)

pub returns-in-Ok-clause-fault : goal.returns-in-Ok-clause-fault
returns-in-Ok-clause-fault g c = (memory_told Specified c.args.settings.now.cost c.args.settings.now.choice c.args.bytes.now c.encode.result c.encode.ensures.err).0

pub returns-in-Ok-clause-only_fault : goal.returns-in-Ok-clause-only_fault
returns-in-Ok-clause-only_fault g c = (memory_told Specified c.args.settings.now.cost c.args.settings.now.choice c.args.bytes.now c.encode.result c.encode.ensures.err).1

pub returns-in-Err-clause-fault : goal.returns-in-Err-clause-fault
returns-in-Err-clause-fault g c =
    fault_told Specified c.args.settings.now.cost c.args.settings.now.choice c.args.bytes.now c.in_ok-before.before c.in-Err.fault c.in_ok-before.ensures.ok c.in-Err.ensures.fault

pub returns-in-Err-clause-only_fault : goal.returns-in-Err-clause-only_fault
returns-in-Err-clause-only_fault g c =
    only_told Specified c.args.settings.now.cost c.args.settings.now.choice c.args.bytes.now c.one_answer.ensures.answer c.in-Err.fault (returns-in-Err-clause-fault g c)
