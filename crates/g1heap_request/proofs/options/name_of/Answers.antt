use Rattle.std.proofs.Common.{◌≡◌, ◌∙◌, refl}
use Rattle.std.proofs.lemmas.Result.{IfOk-weaker}
use Rattle.clap.specs.Words.{found_of, rows_of}
use Rattle.g1heap_request.specs.Values.{IsNameOf}
use Rattle.g1heap_request.proofs.Got.{name_got}
use Rattle.g1heap_request.proofs.options.name_of.Goals as goal

pub returns : goal.returns
returns c =
    let name = name_got (found_of c.args.values.now) c.args.argument.now.id.now c.get_str.result c.get_str.ensures _ c.unwrap_or.result c.unwrap_or.ensures refl in
    IfOk-weaker c.from_str.result (λ s. s.bytes.items ≡ c.unwrap_or.result.now) (λ s. IsNameOf (rows_of (found_of c.args.values.now)) c.args.argument.now.id.now s.bytes.items)
    (λ s h. h ∙ name) c.from_str.ensures.ok
