use Rattle.std.proofs.Common.{◌≡◌, drop, false}
use Rattle.std.specs.List.{fold}
use Rattle.clap.specs.Words.{app_of}
use Rattle.clap.specs.declared.builder.command.Command.TheViews.{out-Command}
use Rattle.g1_command.specs.Table.{with_argument}
use Rattle.g1_command.proofs.table.build_command.Given as goal

abbrev pub invariant-loop-argument : goal.invariant-loop-argument
invariant-loop-argument l = (fold with_argument (app_of l.command) (drop l.argument-index l.argument-items) ≡ fold with_argument (app_of l.initial.command) l.argument-items)
    × ((out-Command l.command).has_globals ≡ false)
