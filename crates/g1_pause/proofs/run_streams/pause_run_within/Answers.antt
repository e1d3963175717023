use Rattle.std.proofs.Common.{◌∙◌, Err}
use Rattle.std.proofs.lemmas.Result.{err_from_is_err_and}
use Rattle.g1_words.specs.declared.fault.Device.TheVariants as device
use Rattle.g1_image.proofs.Told.{unread_no_output}
use Rattle.g1_pause.proofs.NoDevice.{leaves_input, leaves_output, run_unread, run_refused, run_written, same_input, same_end, read_out, sent_input}
use Rattle.g1_pause.proofs.run_streams.pause_run_within.Goals as goal

pub returns-in_err-before-clause-answer : goal.returns-in_err-before-clause-answer
returns-in_err-before-clause-answer g c =
    let same = err_from_is_err_and c.from_residual.result c.from_residual.ensures.1 in
    rw (same.1, same.2) (run_unread c.args.limits c.args.settings.now.cost c.args.settings.now.choice (g.I.Source.left c.args.reader.now)
    (g.O.Sink.written c.args.writer.now) c.in_err-before.field-0.0 (unread_no_output c.args.limits _ _ c.in_err-before.ensures.err) c.in_err-before.ensures.err)

pub returns-in_err-before-clause-output : goal.returns-in_err-before-clause-output
returns-in_err-before-clause-output g c =
    let same = err_from_is_err_and c.from_residual.result c.from_residual.ensures.1 in
    rw (same.1, same.2) (leaves_output (g.O.Sink.failed c.args.writer.now) c.in_err-before.field-0.0 (unread_no_output c.args.limits _ _ c.in_err-before.ensures.err))

pub returns-in_err-before-clause-input : goal.returns-in_err-before-clause-input
returns-in_err-before-clause-input g c =
    let same = err_from_is_err_and c.from_residual.result c.from_residual.ensures.1 in
    rw (same.1, same.2) (c.in_err-before.ensures.marks ∙ same_input (g.I.Source.failed c.args.reader.now) c.in_err-before.field-0.0)

pub returns-in_err-before-clause-end : goal.returns-in_err-before-clause-end
returns-in_err-before-clause-end g c =
    let same = err_from_is_err_and c.from_residual.result c.from_residual.ensures.1 in
    rw (same.1, same.2) (same_end (g.I.Source.left c.read_by_within.new.source) c.in_err-before.field-0.0 c.in_err-before.ensures.end)

pub returns-in-Ok-clause-end : goal.returns-in-Ok-clause-end
returns-in-Ok-clause-end g c = read_out (g.I.Source.left c.read_by_within.new.source) c.write.result c.in_ok-before.ensures.end

pub returns-in-Ok-clause-input : goal.returns-in-Ok-clause-input
returns-in-Ok-clause-input g c =
    let text = c.write.ensures.text in
    c.in_ok-before.ensures.marks ∙ sent_input text.0 (g.O.Sink.written c.args.writer.now) (g.O.Sink.written c.write.new.sink) c.write.result (g.I.Source.failed c.args.reader.now) text.2

pub returns-in-Ok-clause-output : goal.returns-in-Ok-clause-output
returns-in-Ok-clause-output g c = c.write.ensures.mark

pub returns-in-Ok-clause-answer : goal.returns-in-Ok-clause-answer
returns-in-Ok-clause-answer g c =
    let text = c.write.ensures.text in
    run_written c.args.limits c.args.settings.now.cost c.args.settings.now.choice (g.I.Source.left c.args.reader.now) (g.O.Sink.written c.args.writer.now)
    (g.O.Sink.written c.write.new.sink) c.in_ok-before.before c.in-Ok.after c.image.result.now c.write.result
    c.in_ok-before.ensures.ok c.in-Ok.ensures.answer c.image.ensures.same text.0 text.1 text.2

pub returns-in-Err-clause-answer : goal.returns-in-Err-clause-answer
returns-in-Err-clause-answer g c =
    run_refused c.args.limits c.args.settings.now.cost c.args.settings.now.choice (g.I.Source.left c.args.reader.now) (g.O.Sink.written c.args.writer.now)
    c.in_ok-before.before c.in-Err.fault c.in-Err.ensures.no_device c.in_ok-before.ensures.ok c.in-Err.ensures.fault

pub returns-in-Err-clause-input : goal.returns-in-Err-clause-input
returns-in-Err-clause-input g c = c.in_ok-before.ensures.marks ∙ leaves_input (g.I.Source.failed c.args.reader.now) c.in-Err.fault c.in-Err.ensures.no_device

pub returns-in-Err-clause-output : goal.returns-in-Err-clause-output
returns-in-Err-clause-output g c = leaves_output (g.O.Sink.failed c.args.writer.now) c.in-Err.fault (c.in-Err.ensures.no_device device.Output)

pub returns-in-Err-clause-end : goal.returns-in-Err-clause-end
returns-in-Err-clause-end g c = read_out (g.I.Source.left c.read_by_within.new.source) (Err c.in-Err.fault) c.in_ok-before.ensures.end
