use Rattle.g1_answers.proofs.Ranges.{settings_in_range}
use Rattle.g1_answers.proofs.question.settings_with.Goals as goal

pub returns-clause-taken : goal.returns-clause-taken
returns-clause-taken c =
    let range = c.know_ranges.ensures in
    let same = c.in_ok-settings.ensures.ok in
    settings_in_range c.args.sharing c.args.cost c.in_ok-settings.settings c.args.choice same range.workers range.chunk range.cost
