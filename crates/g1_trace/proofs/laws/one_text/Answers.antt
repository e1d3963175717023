use Rattle.g1_trace.proofs.OneText.{one_trace, no_bad_line, one_bad_line}
use Rattle.g1_trace.proofs.Deciding.{text_or_bad_line}
use Rattle.g1_trace.proofs.laws.one_text.Goals as goal

pub returns-clause-one : goal.returns-clause-one
returns-clause-one c = one_trace

pub returns-clause-good : goal.returns-clause-good
returns-clause-good c = no_bad_line

pub returns-clause-bad : goal.returns-clause-bad
returns-clause-bad c = one_bad_line

pub returns-clause-always : goal.returns-clause-always
returns-clause-always c = text_or_bad_line
