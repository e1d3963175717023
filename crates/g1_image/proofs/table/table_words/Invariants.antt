use Rattle.std.proofs.Common.{◌≡◌, ◌≤◌, ◌*◌, ◌^◌, take}
use Rattle.g1_image.specs.Text.{table_words}
use Rattle.g1_image.proofs.table.table_words.Given as goal

abbrev pub invariant-loop-e : goal.invariant-loop-e
invariant-loop-e l = (l.sum ≡ table_words (take l.e-index l.table)) × (l.sum ≤ l.e-index * 2 ^ 32)
