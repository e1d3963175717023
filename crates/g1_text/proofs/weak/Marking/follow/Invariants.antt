use Rattle.std.proofs.Common.{◌+◌, ℕ, List, []}
use Rattle.std.specs.Vec.{vec_len}
use Rattle.std.specs.HashMap.{hash_map_len}
use Rattle.g1_text.specs.Marking.{IsFound, StayMarked}
use Rattle.g1_text.proofs.weak.Marking.follow.Given as goal

abbrev pub decreases-lines : goal.decreases-lines
decreases-lines l = hash_map_len l.self.objects + vec_len l.self.unread

abbrev pub invariant-lines : goal.invariant-lines
invariant-lines l = record {
  found : (lines : List (List (List ℕ))) → IsFound lines [] l.fn.self → IsFound lines [] l.self;
  stay : StayMarked l.fn.self l.self;
}
