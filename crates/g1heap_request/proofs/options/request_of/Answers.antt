use Rattle.std.proofs.Common.{◌≡◌, rules, sym, subst}
use Rattle.std.specs.Prelude.{codes}
use Rattle.clap.specs.Words.{found_of, rows_of}
use Rattle.g1heap_request.specs.Wrong.{IsRefused}
use Rattle.g1heap_request.specs.Wrong.IsRefused.{by_value}
use Rattle.g1heap_request.proofs.Checked.{refused_so}
use Rattle.g1heap_request.proofs.options.request_of.Goals as goal

pub returns-in-same-clause-refused : goal.returns-in-same-clause-refused
returns-in-same-clause-refused c = refused_so (λ k. by_value k) c.same_of.result c.same_of.ensures.refused

pub returns-in-print-clause-refused : goal.returns-in-print-clause-refused
returns-in-print-clause-refused c = refused_so (λ k. by_value k) c.print_of.result c.print_of.ensures.refused

pub returns-in-explain-clause-refused : goal.returns-in-explain-clause-refused
returns-in-explain-clause-refused c = refused_so (λ k. by_value k) c.explain_of.result c.explain_of.ensures.refused

pub returns-in-why-clause-refused : goal.returns-in-why-clause-refused
returns-in-why-clause-refused c = refused_so (λ k. by_value k) c.why_of.result c.why_of.ensures.refused

pub returns-in-trace-clause-refused : goal.returns-in-trace-clause-refused
returns-in-trace-clause-refused c = refused_so (λ k. by_value k) c.trace_of.result c.trace_of.ensures.refused

pub returns-in-convert-clause-refused : goal.returns-in-convert-clause-refused
returns-in-convert-clause-refused c =
    let rows = rows_of (found_of c.args.values.now) in
    let named : c.args.name.now ≡ codes "convert" = search rules in
    refused_so (λ k. subst (λ n. IsRefused n rows) (sym named) k) c.convert_of.result c.convert_of.ensures.refused

pub returns-in_default-name-clause-refused : goal.returns-in_default-name-clause-refused
returns-in_default-name-clause-refused c = refused_so (λ k. by_value k) c.make_of.result c.make_of.ensures.refused
