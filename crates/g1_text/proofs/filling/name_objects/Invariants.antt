use Rattle.std.proofs.Common.{◌≡◌, ◌<◌, ℕ, List, Bor, length, map, take}
use Rattle.std.specs.Prelude.{All}
use Rattle.g1_text.specs.Graphs.{NamedObject, NamedGraph}
use Rattle.g1_text.specs.ByName.{read_holder}
use Rattle.g1_text.specs.Carried.{named_at}
use Rattle.g1_text.specs.Filled.{located}
use Rattle.g1_text.proofs.filling.name_objects.Given as goal

abbrev pub invariant-loop-place : goal.invariant-loop-place
invariant-loop-place l =
    (g : NamedGraph) → map (λ (t : Bor (List ℕ)). t.now) l.names ≡ map (λ (o : NamedObject). o.name) g.objects → length l.places.addresses.items ≡ length g.objects
    → All (λ k. k < length g.objects) l.places.order.items → map read_holder l.named.items ≡ map named_at (located g l.places.addresses.items (take l.place-index l.places.order.items))
