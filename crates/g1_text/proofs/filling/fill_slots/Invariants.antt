use Rattle.std.proofs.Common.{◌≡◌, ◌<◌, ◌+◌, ◌^◌, ℕ, List, ◌++◌, length, map, take}
use Rattle.std.specs.Prelude.{Option, All}
use Rattle.g1_text.specs.Graphs.{NamedGraph, IsTargetName, target_word}
use Rattle.g1_text.specs.ByName.{read_holder}
use Rattle.g1_text.specs.Carried.{word_for, stale_from}
use Rattle.g1_text.specs.Filled.{AreLocated, IsNoted}
use Rattle.g1_text.specs.Laid.{IsAddress}
use Rattle.g1_text.proofs.filling.fill_slots.Given as goal

abbrev pub invariant-loop-slot : goal.invariant-loop-slot
invariant-loop-slot l = record {
  words : (g : NamedGraph) (targets : List (Option (List ℕ))) → AreLocated l.lines g l.addresses → All IsTargetName targets → map (λ t. t.now) l.names ≡ map target_word targets
      → l.out.items ≡ l.fn.out.items ++ map (word_for g l.addresses) (take l.slot targets);
  stale : (g : NamedGraph) (targets : List (Option (List ℕ))) → AreLocated l.lines g l.addresses → All IsTargetName targets → map (λ t. t.now) l.names ≡ map target_word targets → IsAddress l.at → length l.names < 2 ^ 32
      → map read_holder l.stale.names.items ≡ map read_holder l.fn.stale.names.items ++ stale_from g (l.at + 1) (take l.slot targets);
  noted : IsNoted l.fn.stale → IsNoted l.stale;
}
