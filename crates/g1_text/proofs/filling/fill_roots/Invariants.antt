use Rattle.std.proofs.Common.{◌≡◌, ◌++◌, map, take}
use Rattle.g1_text.specs.Graphs.{NamedRoot, NamedGraph}
use Rattle.g1_text.specs.ByName.{read_holder}
use Rattle.g1_text.specs.Carried.{root_value, stale_from}
use Rattle.g1_text.specs.Filled.{AreLocated, IsNoted}
use Rattle.g1_text.proofs.filling.fill_roots.Given as goal

abbrev pub invariant-loop-number : goal.invariant-loop-number
invariant-loop-number l = record {
  words : (g : NamedGraph) → AreLocated l.lines g l.addresses → l.roots.items ≡ l.fn.roots.items ++ map (root_value g l.addresses) (take l.number g.roots);
  stale : (g : NamedGraph) → AreLocated l.lines g l.addresses
      → map read_holder l.stale.names.items ≡ map read_holder l.fn.stale.names.items ++ stale_from g 0 (map (λ (r : NamedRoot). r.target) (take l.number g.roots));
  noted : IsNoted l.fn.stale → IsNoted l.stale;
}
