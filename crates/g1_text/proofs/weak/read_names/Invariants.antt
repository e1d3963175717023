use Rattle.std.proofs.Common.{◌≡◌, ℕ, List, ◌++◌, map, All, IsUtf8}
use Rattle.g1_text.specs.Reading.{words_in, parts_of}
use Rattle.g1_text.specs.Marking.{IsKnown}
use Rattle.g1_text.proofs.Turns.{parts_left, size_left}
use Rattle.g1_text.proofs.weak.read_names.Given as goal

abbrev pub decreases-lines : goal.decreases-lines
decreases-lines l = size_left l.rest

abbrev pub invariant-lines : goal.invariant-lines
invariant-lines l = (done : List (List ℕ)) × (parts_of l.fn.text ≡ done ++ parts_left l.rest) × All IsUtf8 done × IsKnown (map words_in done) l.known
