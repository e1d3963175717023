use Rattle.std.proofs.Common.{◌≡◌, map, take}
use Rattle.std.specs.Prelude.{if◌then◌else◌}
use Rattle.g1_words.specs.Heap.{is_first}
use Rattle.g1_explain.specs.declared.humongous.Keeper.TheVariants.{NoObject, Nothing}
use Rattle.g1_explain.proofs.humongous.no_keepers.Given as goal

abbrev pub invariant-loop-region : goal.invariant-loop-region
invariant-loop-region l = l.keepers.items ≡ map (λ q. if is_first q.kind then Nothing else NoObject) (take l.region-index l.region-items)
