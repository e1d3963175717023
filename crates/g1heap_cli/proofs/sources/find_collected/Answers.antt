use Rattle.std.proofs.Common.{subst, sym}
use Rattle.g1heap_cli.specs.Refusals.{IsUnread}
use Rattle.g1heap_cli.specs.Refuses.{IsUnreadOrSet}
use Rattle.g1heap_cli.proofs.sources.find_collected.Goals as goal

-- with the tip, if there is one
pub returns-in-Err-clause-refused : goal.returns-in-Err-clause-refused
returns-in-Err-clause-refused g c =
    subst (λ n. IsUnreadOrSet n c.with_set_tip.result) c.as_str.ensures.value
    (c.with_set_tip.ensures (subst (λ n. IsUnread n c.in-Err.refusal) (sym c.as_str.ensures.value) c.in-Err.ensures.refused))
