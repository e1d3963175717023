use Rattle.std.proofs.Common.{◌≡◌, ◌∙◌, ap, sym, subst, length}
use Rattle.g1_frontier.specs.Items.{items_of, ArePaired}
use Rattle.g1_frontier.specs.declared.sought.Sought.{Sought}
use Rattle.g1_frontier.proofs.Soughts.{items_length}
use Rattle.g1_frontier.proofs.sought.Sought.len.Goals as goal

pub returns-in-Objects : goal.returns-in-Objects
returns-in-Objects c =
    let paired : length c.in-Objects.field-1.now ≡ length c.in-Objects.addresses.now = subst (λ (x : Sought). ArePaired x) c.in-Objects.is c.requires in
    sym (ap (λ (x : Sought). length (items_of x)) c.in-Objects.is ∙ items_length c.in-Objects.addresses.now c.in-Objects.field-1.now paired)
