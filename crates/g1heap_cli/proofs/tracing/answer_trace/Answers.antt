use Rattle.std.proofs.Common.{rules, ◌≡◌, inl, inr, Err, subst}
use Rattle.std.specs.Prelude.{codes}
use Rattle.g1_command.specs.declared.refusal.Refusal.TheVariants as refusal
use Rattle.g1heap_cli.specs.Refusals.{IsUnread}
use Rattle.g1heap_cli.specs.Traced.{sent_command}
use Rattle.g1heap_cli.proofs.Refused.{err_so}
use Rattle.g1heap_cli.proofs.TraceNamed.{of_another, of_input, another_refused, input_refused, refused_first}
use Rattle.g1heap_cli.proofs.tracing.answer_trace.Goals as goal

-- a trace on standard input
pub returns-then-eq : goal.returns-then-eq
returns-then-eq g c =
    let trace = c.args.trace.now in
    let left = g.R.Read.remaining c.args.reader.now in
    record {
      sends =
          of_input trace left (g.W.Write.contents c.args.writer.now) (g.W.Write.contents c.answer_heard.new.writer) (sent_command trace.image) c.answer_heard.result c.answer_heard.ensures.sends;
      refused = err_so (input_refused trace left) c.answer_heard.result c.answer_heard.ensures.refused;
    }

-- the settings are refused
pub returns-in-Err : goal.returns-in-Err
returns-in-Err g c =
    let trace = c.args.trace.now in
    let left = g.R.Read.remaining c.args.reader.now in
    let old = g.W.Write.contents c.args.writer.now in
    let why = refusal.Fault c.in-Err.fault in
    record { sends = of_input trace left old old (sent_command trace.image) (Err why) (refused_first trace left old (sent_command trace.image) why); refused = inl c.in-Err.ensures.refused }

-- one in a file
pub returns-in-Ok-open_file : goal.returns-in-Ok-open_file
returns-in-Ok-open_file g c =
    let trace = c.args.trace.now in
    let left = g.R.Read.remaining c.args.reader.now in
    let heard = c.answer_heard-in-Ok-open_file in
    let other : trace.name.bytes.items ≡ codes "-" → ⊥ = search rules in
    record {
      sends = of_another trace _ left (g.W.Write.contents c.args.writer.now) (g.W.Write.contents heard.new.writer) (sent_command trace.image) heard.result other heard.ensures.sends;
      refused = err_so (λ e h. another_refused trace _ left e other h) heard.result heard.ensures.refused;
    }

-- it can't be opened
pub returns : goal.returns
returns g c =
    let trace = c.args.trace.now in
    let left = g.R.Read.remaining c.args.reader.now in
    let old = g.W.Write.contents c.args.writer.now in
    let why = c.in-Err-open_file.refusal in
    record { sends = of_input trace left old old (sent_command trace.image) (Err why) (refused_first trace left old (sent_command trace.image) why); refused = inr (inl (subst (λ n. IsUnread n why) c.as_str-name.ensures.value c.in-Err-open_file.ensures)) }
