use Rattle.std.proofs.Common.{◌≡◌, ◌++◌, ℕ, List, take}
use Rattle.std.specs.List.{AllZip}
use Rattle.g1_text.specs.Weak.{IsWordFor, IsStrong}
use Rattle.g1_text.specs.Marking.{slots_of, spaced, HasStrong}
use Rattle.g1_text.proofs.weak.push_targets.Given as goal

abbrev pub invariant-loop-target : goal.invariant-loop-target
invariant-loop-target l = (lines : List (List (List ℕ))) → HasStrong lines l.strong
    → (words : List (List ℕ)) × AllZip (IsWordFor (IsStrong lines)) (slots_of (take l.target-index l.targets)) words × (l.out.items ≡ l.fn.out.items ++ spaced words)
