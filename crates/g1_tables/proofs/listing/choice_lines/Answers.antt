use Rattle.std.proofs.Common.{◌∙◌, ap, take, drop}
use Rattle.g1_tables.proofs.Choosing.{choice_end}
use Rattle.g1_tables.proofs.listing.choice_lines.Goals as goal

pub returns-clause-text : goal.returns-clause-text
returns-clause-text c =
    let order = c.args.order.now in
    choice_end order _ _ c.args.taken c.args.total _ _ _ _ (c.split_at.ensures.front ∙ ap (λ n. take n order) c.min.ensures)
    (c.split_at.ensures.back ∙ ap (λ n. drop n order) c.min.ensures) c.new-text.ensures.bytes c.in_ok-push_candidates.ensures c.in_ok-push_candidates-2.ensures
    (ap (λ v. v.items) c.into_bytes.ensures.value ∙ c.in_ok-writeln.ensures.bytes)
