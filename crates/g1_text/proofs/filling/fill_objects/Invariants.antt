use Rattle.std.proofs.Common.{◌≡◌, ◌<◌, ℕ, List, ◌++◌, length, map, flat_map, take}
use Rattle.std.specs.Prelude.{All}
use Rattle.std.specs.List.{AllZip}
use Rattle.g1_text.specs.Graphs.{NamedObject, NamedGraph}
use Rattle.g1_text.specs.ByName.{read_holder}
use Rattle.g1_text.specs.Drafts.{content}
use Rattle.g1_text.specs.Carried.{stale_slots}
use Rattle.g1_text.specs.Filled.{AreLocated, AreWordsOf, IsNoted, located}
use Rattle.g1_text.proofs.filling.fill_objects.Given as goal

abbrev pub invariant-loop-place : goal.invariant-loop-place
invariant-loop-place l = record {
  words : (g : NamedGraph) → AreLocated l.lines g l.places.addresses.items → All (λ k. k < length g.objects) l.places.order.items
      → (wordss : List (List ℕ)) × AllZip (λ (o : NamedObject × ℕ) ws. AreWordsOf g l.places.addresses.items o.0 ws) (located g l.places.addresses.items (take l.place-index l.places.order.items)) wordss
      × (content l.draft ≡ record (content l.fn.draft) { words = (content l.fn.draft).words ++ flat_map (λ ws. ws) wordss });
  stale : (g : NamedGraph) → AreLocated l.lines g l.places.addresses.items → All (λ k. k < length g.objects) l.places.order.items
      → map read_holder l.stale.names.items ≡ map read_holder l.fn.stale.names.items ++ flat_map (stale_slots g) (located g l.places.addresses.items (take l.place-index l.places.order.items));
  noted : IsNoted l.fn.stale → IsNoted l.stale;
}
