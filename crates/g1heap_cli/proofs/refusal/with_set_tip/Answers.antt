use Rattle.std.proofs.Common.{subst}
use Rattle.g1_command.specs.declared.refusal.Refusal.TheVariants as refusal
use Rattle.g1heap_cli.specs.Refusals.{IsUnread}
use Rattle.g1heap_cli.proofs.Refused.{tipped}
use Rattle.g1heap_cli.proofs.refusal.with_set_tip.Goals as goal

-- behind the line that it can't be opened
pub returns-in-Told-eq7-default : goal.returns-in-Told-eq7-default
returns-in-Told-eq7-default c = λ unread.
    let told = c.in-Told-eq7-default in
    let file = c.args.name.now in
    tipped file told.text c.as_str.result.now c.with_tip.result c.as_str.ensures.value c.with_tip.ensures
    (subst (λ n. IsUnread file (refusal.Told n told.text)) told.status-test (subst (IsUnread file) told.is unread))
