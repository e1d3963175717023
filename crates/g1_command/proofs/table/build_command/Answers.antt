use Rattle.std.proofs.Common.{◌≡◌, ◌∙◌, ap, arith}
use Rattle.std.specs.Prelude.{◌||◌}
use Rattle.std.specs.List.{fold}
use Rattle.clap.specs.Simple.{app_of_fields}
use Rattle.clap.specs.Words.{app_of, new_app, with_rule}
use Rattle.g1_command.specs.Table.{with_argument}
use Rattle.g1_command.proofs.Tabled.{fold_step, fold_end}
use Rattle.g1_command.proofs.table.build_command.Goals as goal

pub loop-argument-preserved : goal.loop-argument-preserved
loop-argument-preserved c =
    let added = c.in_ok-command.ensures in
    let of = c.in_ok-arg_of.ensures in
    let old = app_of c.loop-argument.command in (
      fold_step with_argument c.args.usage.now.arguments.now c.loop-argument.argument-index _ old (app_of c.in_ok-command.command) c.loop-argument-test.true (added.shape of.1 ∙ ap (with_rule old) of.0)
          ∙ c.loop-argument.invariant.0,
      added.globals ∙ (λ k. c.loop-argument.invariant.1 k || of.1 k),
    )

pub returns : goal.returns
returns c =
    let xs = c.args.usage.now.arguments.now in
    let start : app_of c.after_help-command.result ≡ new_app c.args.name.now = ap app_of_fields c.after_help-command.ensures ∙ ap app_of_fields c.about.ensures ∙ c.new.ensures.app in (
      fold_end with_argument xs c.loop-argument.argument-index (app_of c.loop-argument.command) (omega (arith, c.loop-argument-test.false)) ∙ c.loop-argument.invariant.0
          ∙ ap (λ a. fold with_argument a xs) start,
      c.loop-argument.invariant.1,
    )
