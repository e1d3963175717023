use Rattle.std.proofs.Common.{◌+◌, ◌≤◌, false, length}
use Rattle.g1_text.specs.Reading.{parts_of}
use Rattle.g1_text.specs.Forms.{GraphHeading, GraphLine}
use Rattle.g1_text.specs.Drafts.{is_begun}
use Rattle.g1_text.proofs.Turns.{parts_left, size_left}
use Rattle.g1_text.proofs.Formed.{IsLeft}
use Rattle.g1_text.proofs.NamedLines.{IsNamedUpTo}
use Rattle.g1_text.proofs.named.read_lines.Given as goal

abbrev pub decreases-lines : goal.decreases-lines
decreases-lines l = size_left l.rest

abbrev pub invariant-lines : goal.invariant-lines
invariant-lines l = record {
  forms : IsLeft GraphHeading GraphLine (parts_of l.fn.text) false (parts_left l.rest) (is_begun l.lines);
  says : IsNamedUpTo (parts_of l.fn.text) (parts_left l.rest) l.number l.lines;
  count : l.number + size_left l.rest ≤ length l.fn.text + 1;
}
