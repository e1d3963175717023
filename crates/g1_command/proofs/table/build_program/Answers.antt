use Rattle.std.proofs.Common.{◌∙◌, ap, arith}
use Rattle.std.specs.List.{fold}
use Rattle.clap.specs.Words.{App, app_of, with_subcommand}
use Rattle.g1_command.specs.Table.{with_command}
use Rattle.g1_command.proofs.Tabled.{fold_step, fold_end, begun}
use Rattle.g1_command.proofs.table.build_program.Goals as goal

pub loop-usage-preserved : goal.loop-usage-preserved
loop-usage-preserved c =
    let old = app_of c.loop-usage.command in
    let one = c.in_ok-build_command.ensures in
    fold_step with_command c.args.program.now.commands.now c.loop-usage.usage-index _ old (app_of c.in_ok-command-2.command) c.loop-usage-test.true
    (c.in_ok-command-2.ensures.shape one.1 ∙ ap (λ (a : App). with_subcommand old a.top) one.0)
    ∙ c.loop-usage.invariant

pub returns : goal.returns
returns c =
    let xs = c.args.program.now.commands.now in
    let start = begun c.args.program.now.name.now c.new.result c.no_binary_name.result c.version.result c.about.result c.after_help.result c.subcommand_required.result c.in_ok-command.command _ _ _
    c.new.ensures.app c.no_binary_name.ensures c.version.ensures c.about.ensures c.after_help.ensures c.subcommand_required.ensures c.in_ok-command.ensures.0 in
    fold_end with_command xs c.loop-usage.usage-index (app_of c.loop-usage.command) (omega (arith, c.loop-usage-test.false)) ∙ c.loop-usage.invariant
    ∙ ap (λ a. fold with_command a xs) start
