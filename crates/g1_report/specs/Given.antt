-- What functions inside are given of two sides.
use Rattle.std.specs.Prelude.{Option, Some, None}
use Rattle.std.specs.Borrow.{Bor}
use Rattle.g1_report.specs.declared.comparing.Sides.{Sides}
use Rattle.g1_report.specs.Program.{names_told}
use Rattle.g1_report.specs.Wording.{Called, Compared}

abbrev pub listed : Option (Bor Called) → Option Called
listed None = None
listed (Some names) = Some names.now

abbrev pub compared : Sides → Compared
compared s = record {
  before = s.heaps.before.now;
  after = s.heaps.after.now;
  names = names_told s.names;
  names_after = names_told s.names_after;
  objects_before = listed s.labels_before;
  objects_after = listed s.labels_after;
  roots = s.holders.now;
  texts_before = s.texts_before.now.entries;
  texts_after = s.texts_after.now.entries;
  stale = listed s.stale_names;
}
