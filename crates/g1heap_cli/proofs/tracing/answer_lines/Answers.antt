use Rattle.std.proofs.Common.{◌≡◌, ◌⊎◌, inl, subst}
use Rattle.std.specs.Prelude.{IfErr}
use Rattle.g1_words.specs.declared.fault.Fault.TheVariants as fault
use Rattle.g1_words.specs.declared.fault.Device.TheVariants as device
use Rattle.g1_image.specs.Source.{HoldsOfLeft}
use Rattle.g1_command.specs.declared.refusal.Refusal.TheVariants as refusal
use Rattle.g1heap_cli.specs.Leaving.{SendsTrace}
use Rattle.g1heap_cli.specs.Refuses.{RefusesTraceBy}
use Rattle.g1heap_cli.specs.Traced.{RepliesToTrace, is_live, sent_command}
use Rattle.g1heap_cli.proofs.TraceNamed.{refused_first}
use Rattle.g1heap_cli.proofs.TraceRefused.{read_failed}
use Rattle.g1heap_cli.proofs.tracing.answer_lines.Goals as goal

pub returns-in-Err : goal.returns-in-Err
returns-in-Err g c =
    let trace = c.args.job.now.trace.now in
    let left = g.R.Read.remaining c.args.reader.now in
    record {
      sends = refused_first trace left (g.W.Write.contents c.args.writer.now) (sent_command trace.image) (refusal.Fault c.in-Err.fault);
      refused = read_failed trace (HoldsOfLeft left) c.in-Err.fault (inl c.in-Err.ensures.fault);
    }

pub returns : goal.returns
returns g c =
    let trace = c.args.job.now.trace.now in
    record {
      sends =
          subst (λ k. SendsTrace (is_live trace) (sent_command trace.image) (RepliesToTrace trace (HoldsOfLeft k)) (g.W.Write.contents c.args.writer.now) (g.W.Write.contents c.answer_all.new.writer) c.answer_all.result)
          c.in-Ok.ensures.left c.answer_all.ensures.sends;
      refused =
          subst (λ k. IfErr c.answer_all.result (λ r. (r ≡ refusal.Fault (fault.Device device.Input)) ⊎ RefusesTraceBy trace (HoldsOfLeft k) r)) c.in-Ok.ensures.left c.answer_all.ensures.refused;
    }
