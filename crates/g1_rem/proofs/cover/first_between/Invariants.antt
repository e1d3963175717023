use Rattle.std.proofs.Common.{◌≡◌, ◌-◌, filter}
use Rattle.std.specs.List.{range_with_len}
use Rattle.g1_rem.specs.Cover.{is_bare}
use Rattle.g1_rem.specs.Places.{AreBehind}
use Rattle.g1_rem.proofs.cover.first_between.Given as goal

abbrev pub invariant-loop-p : goal.invariant-loop-p
invariant-loop-p l = record {
  same : filter (is_bare l.fn.image) (range_with_len l.from (l.to - l.from)) ≡ filter (is_bare l.fn.image) (range_with_len l.p (l.to - l.p));
  behind : AreBehind l.fn.image l.places l.p;
}
