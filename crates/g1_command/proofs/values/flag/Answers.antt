use Rattle.std.proofs.Common.{◌∙◌, sym}
use Rattle.std.proofs.lemmas.Bool.{true≢false, false≢true}
use Rattle.clap.specs.Words.{found_of}
use Rattle.clap.proofs.WalkLemmas.{one_text-rows}
use Rattle.g1_command.proofs.values.flag.Goals as goal

pub returns-clause-on : goal.returns-clause-on
returns-clause-on c = λ e.
    let text = one_text-rows (found_of c.args.values.now) c.args.argument.now.id.now in
    (λ none. false≢true (sym (c.get_flag.ensures.none (text ∙ none)) ∙ e), λ off. false≢true (sym (c.get_flag.ensures.other (text ∙ off)) ∙ e))

pub returns-clause-off : goal.returns-clause-off
returns-clause-off c = λ e.
    let text = one_text-rows (found_of c.args.values.now) c.args.argument.now.id.now in
    λ on. true≢false (sym (c.get_flag.ensures.value (text ∙ on)) ∙ e)
