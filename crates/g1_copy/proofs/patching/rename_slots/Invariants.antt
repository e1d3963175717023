use Rattle.std.proofs.Common.{◌≡◌, ◌++◌, ℕ, map, take, drop, length}
use Rattle.g1_words.specs.Copy.{renamed}
use Rattle.g1_words.specs.Layout.{moved_to}
use Rattle.g1_copy.proofs.patching.rename_slots.Given as goal

abbrev pub invariant-loop-index : goal.invariant-loop-index
invariant-loop-index l = record {
  slots : l.slots.items ≡ map (λ (x : ℕ × ℕ). (x.0, renamed (moved_to l.moving.plan.survivors l.moving.plan.places) x.1)) (take l.index l.initial.slots.items) ++ drop l.index l.initial.slots.items;
  long : length l.slots.items ≡ length l.initial.slots.items;
}
