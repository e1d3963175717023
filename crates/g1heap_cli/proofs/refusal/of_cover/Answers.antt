use Rattle.std.proofs.Common.{codes, refl}
use Rattle.g1_command.specs.declared.refusal.Refusal.TheVariants as refusal
use Rattle.g1heap_cli.specs.Refusals.{RefusesCover, cause_line}
use Rattle.g1heap_cli.proofs.Told.{reported, with_graph}
use Rattle.g1heap_cli.proofs.refusal.of_cover.Goals as goal

-- with the line behind it
pub returns-in-Told : goal.returns-in-Told
returns-in-Told c =
    let told = c.in-Told in
    let file = c.args.name.now in
    let made = with_graph c.format.result (λ s. s.bytes.items) told.status file c.args.fault told.text.bytes.items (cause_line (codes "the graph is the same")) told.ensures c.format.ensures.ok in
    reported (RefusesCover file c.args.fault) c.format.result (λ s. refusal.Told told.status s) c.refusal.result refl made c.refusal.ensures.told c.refusal.ensures.memory
