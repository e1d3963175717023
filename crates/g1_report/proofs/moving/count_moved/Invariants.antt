use Rattle.std.proofs.Common.{◌≡◌, ◌≤◌, map, count_by}
use Rattle.std.specs.Prelude.{is_some, slice_index}
use Rattle.std.specs.List.{range_with_len}
use Rattle.g1_report.specs.Wording.{has_moved, is_yes}
use Rattle.g1_report.specs.Answer.{AreNamesInOrder}
use Rattle.g1_report.specs.Given.{compared}
use Rattle.g1_report.proofs.moving.count_moved.Given as goal

abbrev pub invariant-loop-place : goal.invariant-loop-place
invariant-loop-place l = record {
  few_moved : l.moved ≤ l.place;
  few : l.all ≤ l.place;
  moved : AreNamesInOrder (compared l.sides) → l.moved ≡ count_by is_yes (map (λ n. has_moved (compared l.sides) (compared l.sides).names_after (slice_index l.before n) (slice_index l.after n)) (range_with_len 0 l.place));
  all : AreNamesInOrder (compared l.sides) → l.all ≡ count_by is_some (map (λ n. has_moved (compared l.sides) (compared l.sides).names_after (slice_index l.before n) (slice_index l.after n)) (range_with_len 0 l.place));
}
