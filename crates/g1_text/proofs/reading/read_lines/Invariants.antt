use Rattle.std.proofs.Common.{◌≡◌, ◌≤◌, ◌+◌, Some, None, List, ℕ, length}
use Rattle.std.specs.Option.{is_some}
use Rattle.g1_text.specs.Reading.{parts_of, HasLines}
use Rattle.g1_text.specs.Forms.{ImageHeading, ImageLine}
use Rattle.g1_text.specs.Content.{Content}
use Rattle.g1_text.specs.Short.{TellsAll}
use Rattle.g1_text.specs.Drafts.{said, numbers_read}
use Rattle.g1_text.proofs.Turns.{ToRead, parts_left, size_left}
use Rattle.g1_text.proofs.Formed.{IsLeft}
use Rattle.g1_text.proofs.Refusing.{IsReadUpTo}
use Rattle.g1_text.proofs.Numbered.{AreNumbered}
use Rattle.g1_text.proofs.reading.read_lines.Given as goal

abbrev pub decreases-lines : goal.decreases-lines
decreases-lines l = size_left l.rest

abbrev pub invariant-lines : goal.invariant-lines
invariant-lines l =
    ((lines : List (List (List ℕ))) (c : Content) → HasLines l.fn.text lines → TellsAll (said l.fn.draft) lines (Some c) → ToRead (parts_left l.rest) (said l.draft) (Some c))
    × IsLeft ImageHeading ImageLine (parts_of l.fn.text) (is_some (said l.fn.draft)) (parts_left l.rest) (is_some (said l.draft))
    × (said l.fn.draft ≡ None → IsReadUpTo (parts_of l.fn.text) (parts_left l.rest) l.number (said l.draft)) × (l.number + size_left l.rest ≤ length l.fn.text + 1)
    × (said l.fn.draft ≡ None → AreNumbered (parts_of l.fn.text) (parts_left l.rest) l.number (numbers_read l.draft))
