use Rattle.std.proofs.Common.{sym, ◌∙◌}
use Rattle.g1heap_cli.proofs.StaleFaults.{first_is_fault, none_is_fault}
use Rattle.g1heap_cli.proofs.files.with_stale.Goals as goal

-- the first stale word is the fault
pub returns-in-Some-clause-content : goal.returns-in-Some-clause-content
returns-in-Some-clause-content c = λ limits bytes text. (
  text,
  first_is_fault limits bytes c.args.image c.heap.ensures.valid c.args.stale.roots.items c.args.stale.slots.items text c.in-Some.place (sym c.first_place_of.ensures ∙ c.in-Some.is),
)

pub returns-in-None-clause-none : goal.returns-in-None-clause-none
returns-in-None-clause-none c = λ limits bytes text.
    none_is_fault limits bytes c.args.image c.heap.ensures.valid c.args.stale.roots.items c.args.stale.slots.items text (sym c.first_place_of.ensures ∙ c.in-None.is)
