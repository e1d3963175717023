use Rattle.std.proofs.Common.{ℕ, Vec, Global, subst}
use Rattle.std.specs.Prelude.{IfOk}
use Rattle.g1_explain.specs.declared.form.Form.{Form}
use Rattle.g1heap_cli.specs.Texts.{IsPauseText}
use Rattle.g1heap_cli.specs.Reasons.{IsRefusedIn}
use Rattle.g1heap_cli.proofs.Explained.{answered}
use Rattle.g1heap_cli.proofs.Explains.{map_refused}
use Rattle.g1heap_cli.proofs.explaining.pause_lines.Goals as goal

pub returns-in-Ok-clause-text : goal.returns-in-Ok-clause-text
returns-in-Ok-clause-text g c =
    let s = c.args.settings.now in
    let i = c.args.image in
    subst (λ (f : Form). IfOk c.answer.result (λ x. IsPauseText s.cost s.choice f i x.0 x.1.bytes.items)) c.form_of-form.ensures
    (answered s.cost s.choice c.form_of-form.result i c.in-Ok.explanation c.answer.result (λ x. x.0) (λ x. x.1) c.in-Ok.ensures.explained c.answer.ensures.text c.answer.ensures.status)

-- there is no map
pub returns-in-Ok-clause-refused : goal.returns-in-Ok-clause-refused
returns-in-Ok-clause-refused g c =
    let s = c.args.settings.now in
    let source = c.args.source.now in
    map_refused source.image.now.name.bytes.items s.cost s.choice c.args.map c.form_of-form.result c.args.image c.in-Ok.explanation (IsRefusedIn {V = Vec ℕ Global} (λ v. v.items) source.kept source.image.now)
    c.answer.result c.form_of-form.ensures c.in-Ok.ensures.explained c.answer.ensures.refused
