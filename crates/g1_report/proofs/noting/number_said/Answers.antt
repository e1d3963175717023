use Rattle.std.proofs.Common.{◌∙◌}
use Rattle.g1_report.proofs.NotedLines.{number_read}
use Rattle.g1_report.proofs.noting.number_said.Goals as goal

pub returns : goal.returns
returns c = c.ok.ensures.value ∙ number_read c.args.word.now c.parse.result c.parse.ensures.value.0
