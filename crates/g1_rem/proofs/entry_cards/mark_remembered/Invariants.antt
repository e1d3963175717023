use Rattle.std.proofs.Common.{map, take}
use Rattle.g1_words.specs.Marks.{AreMarked}
use Rattle.g1_rem.specs.EntryCards.{is_listed}
use Rattle.g1_rem.proofs.entry_cards.mark_remembered.Given as goal

abbrev pub invariant-loop-region : goal.invariant-loop-region
invariant-loop-region l = AreMarked (is_listed (map (λ s. s.items) l.remembered) (take l.region-index l.set)) l.initial.marks l.marks
