use Rattle.std.proofs.Common.{◌≡◌, drop}
use Rattle.std.specs.List.{fold}
use Rattle.clap.specs.Words.{app_of}
use Rattle.g1_command.specs.Table.{with_command}
use Rattle.g1_command.proofs.table.build_program.Given as goal

abbrev pub invariant-loop-usage : goal.invariant-loop-usage
invariant-loop-usage l = fold with_command (app_of l.command) (drop l.usage-index l.usage-items) ≡ fold with_command (app_of l.initial.command) l.usage-items
