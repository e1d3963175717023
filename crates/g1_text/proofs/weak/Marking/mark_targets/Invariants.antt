use Rattle.std.proofs.Common.{◌≡◌, ◌+◌, true, ℕ, List, Contains, take}
use Rattle.std.specs.Vec.{vec_len}
use Rattle.std.specs.HashMap.{hash_map_len}
use Rattle.g1_text.specs.Weak.{plain_slot, IsStrong}
use Rattle.g1_text.specs.Marking.{slots_of, has_name, IsFound, StayMarked}
use Rattle.g1_text.proofs.weak.Marking.mark_targets.Given as goal

abbrev pub invariant-targets : goal.invariant-targets
invariant-targets l = record {
  found : (lines hand : List (List (List ℕ))) → ((name : List ℕ) → Contains (slots_of l.targets) (plain_slot name) → IsStrong lines name) → IsFound lines hand l.fn.self → IsFound lines hand l.self;
  marked : (name : List ℕ) → Contains (slots_of (take l.target-index l.targets)) (plain_slot name) → has_name l.self.strong name ≡ true;
  stay : StayMarked l.fn.self l.self;
  fewer : hash_map_len l.self.objects + vec_len l.self.unread ≡ hash_map_len l.fn.self.objects + vec_len l.fn.self.unread;
}
