use Rattle.std.proofs.Common.{◌∙◌, length, ap}
use Rattle.g1_copy.specs.Links.{cards_by_region}
use Rattle.g1_copy.proofs.LinkingParts.{runs_all}
use Rattle.g1_copy.proofs.copied_cards.copied_cards.Goals as goal

pub returns-in_ok-cards_of_runs-in-1-clause-ok : goal.returns-in_ok-cards_of_runs-in-1-clause-ok
returns-in_ok-cards_of_runs-in-1-clause-ok g c =
    let h = c.args.copied.now.heap in
    let p = c.args.copied.now.plan in
    c.in_ok-cards_of_runs-in-1.ensures ∙ ap (cards_by_region h) (runs_all h p c.runs.ensures.made c.geometry.ensures.valid 0 (length c.runs.result.now) (ap length c.runs.ensures.same))
