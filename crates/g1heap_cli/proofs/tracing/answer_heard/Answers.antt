use Rattle.g1_image.specs.Source.{HoldsOfLeft}
use Rattle.g1heap_cli.specs.Traced.{is_live, sent_command}
use Rattle.g1heap_cli.proofs.TraceNamed.{named_sends}
use Rattle.g1heap_cli.proofs.TraceRefused.{named_refused}
use Rattle.g1heap_cli.proofs.tracing.answer_heard.Goals as goal

-- the trace is refused
pub returns-in-Err : goal.returns-in-Err
returns-in-Err g c =
    let trace = c.args.job.now.trace.now in
    let sends = rw c.new-heard.ensures at c.in-Err.ensures.sends in
    let refused = rw c.new-heard.ensures at c.in-Err.ensures.refused in
    record {
      sends = named_sends trace.name.bytes.items (is_live trace) (sent_command trace.image) _ _ _ c.in-Err.refusal c.with_name.result c.with_name.ensures sends;
      refused = named_refused trace (HoldsOfLeft (g.R.Read.remaining c.args.reader.now)) c.in-Err.refusal c.with_name.result c.with_name.ensures refused;
    }
