use Rattle.std.proofs.Common.{◌∙◌, map, subst, sym}
use Rattle.g1heap_request.specs.Tips.{IsCommandTip, IsDue}
use Rattle.g1heap_request.proofs.tips.tip_for.Goals as goal

pub returns-in-InvalidSubcommand : goal.returns-in-InvalidSubcommand
returns-in-InvalidSubcommand c = λ tip due.
    let (word, quotes, is) = subst (λ k. IsDue k (map (λ w. w.bytes.items) c.args.words.now) c.args.text.now tip) (sym c.kind.ensures ∙ c.in-InvalidSubcommand.is) due in
    c.tip_of_command.ensures tip (subst (λ w. IsCommandTip w tip) (sym (c.quoted.ensures word quotes)) is)
