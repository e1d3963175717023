use Rattle.g1_command.proofs.Tabled.{steps_made, ruled}
use Rattle.g1_command.proofs.table.arg_of.Goals as goal

pub returns : goal.returns
returns c =
    let made = steps_made c.new.result c.help.result c.value_names.result c.num_args.result c.action.result c.required.result c.default_values.result _ _ _ _ _
    c.help.ensures c.value_names.ensures c.num_args.ensures.0 c.action.ensures c.required.ensures c.default_values.ensures in
    ruled c.args.argument.now c.new.result c.default_values.result c.in_ok-arg.arg _ c.num_args.result.num_vals c.rules-action.result.0.start c.rules-action.result.0.end _ _
    c.new.ensures.rule c.new.ensures.plain.1 c.new.ensures.optional.1 made c.num_args.ensures.1 c.in_ok-arg.ensures.0 c.in_ok-arg.ensures.1
    c.with_names.result c.with_names.ensures.place c.with_names.ensures.named c.rules-action.ensures.least c.rules-action.ensures.most c.rules-action.ensures.action c.rules-action.ensures.needed
