use Rattle.std.proofs.Common.{◌∙◌, map, ap, length, arith}
use Rattle.std.specs.Prelude.{if◌then◌else◌}
use Rattle.g1_words.specs.Heap.{Heap, is_first}
use Rattle.g1_explain.specs.declared.humongous.Keeper.TheVariants.{NoObject, Nothing}
use Rattle.g1_explain.proofs.FirstKeepers.{keepers_end, written_back}
use Rattle.g1_explain.proofs.humongous.keepers.Goals as goal

pub returns : goal.returns
returns c = λ chosen tracked sets marks are.
    let none = c.in_ok-keepers.ensures ∙ ap (λ (g : Heap). map (λ q. if is_first q.kind then Nothing else NoObject) g.regions) c.heap.ensures.same in
    let each = c.keep_each.ensures are in
    written_back c.in_ok-keepers.keepers.len c.in_ok-keepers.keepers.items c.keep_each.new.keepers (each.one_each ∙ ap length c.deref_mut.ensures.value) (omega (arith, c.in_ok-keepers.keepers.ok))
    ∙ keepers_end c.args.walkable.now tracked chosen c.args.survivors.now c.args.set.now (map (λ s. s.items) c.args.refined.now) sets marks are _ c.keep_each.new.keepers (c.deref_mut.ensures.value ∙ none) each
