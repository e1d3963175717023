use Rattle.std.proofs.Common.{◌≡◌, true, ℕ, List, [], All, take}
use Rattle.g1_text.specs.Weak.{IsStrong}
use Rattle.g1_text.specs.Marking.{texts, has_name, IsFound}
use Rattle.g1_text.proofs.weak.Marking.mark_roots.Given as goal

abbrev pub invariant-roots : goal.invariant-roots
invariant-roots l = record {
  found : (lines : List (List (List ℕ))) → All (IsStrong lines) (texts l.roots) → IsFound lines [] l.fn.self → IsFound lines [] l.self;
  marked : All (λ name. has_name l.self.strong name ≡ true) (texts (take l.root-index l.roots));
}
