use Rattle.std.proofs.Common.{◌≡◌, ℕ, List, ◌++◌, All, IsUtf8}
use Rattle.std.specs.List.{AllZip}
use Rattle.g1_text.specs.Reading.{parts_of}
use Rattle.g1_text.specs.Weak.{IsReadAs, IsStrong}
use Rattle.g1_text.specs.Marking.{HasStrong}
use Rattle.g1_text.proofs.Turns.{parts_left, size_left}
use Rattle.g1_text.proofs.WeakTexts.{IsWritten}
use Rattle.g1_text.proofs.weak.write_lines.Given as goal

abbrev pub decreases-lines : goal.decreases-lines
decreases-lines l = size_left l.rest

abbrev pub invariant-lines : goal.invariant-lines
invariant-lines l = (done : List (List ℕ)) × (parts_of l.fn.text ≡ done ++ parts_left l.rest) × All IsUtf8 done
    × ((lines : List (List (List ℕ))) → HasStrong lines l.fn.strong → (others : List (List ℕ)) × AllZip (IsReadAs (IsStrong lines)) done others × IsWritten l.rest l.out.items others)
