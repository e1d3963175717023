use Rattle.g1_tables.proofs.Choosing.{choice_if_ok}
use Rattle.g1_tables.proofs.listing.candidates.Goals as goal

pub returns-clause-text : goal.returns-clause-text
returns-clause-text g c =
    choice_if_ok c.args.settings.now.cost c.cost.result c.args.tracked.now c.in_ok-before.before c.args.budget c.deref.result.now c.in_ok-live.live.items c.candidate_lines.result
    c.cost.ensures.value c.in_ok-before.ensures.image c.deref.ensures.value c.in_ok-live.ensures.counted c.candidate_lines.ensures.text
