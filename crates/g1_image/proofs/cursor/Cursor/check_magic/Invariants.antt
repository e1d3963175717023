use Rattle.std.proofs.Common.{◌≡◌, ℕ, ◌<◌, ◌≤◌, slice_index, length}
use Rattle.g1_image.specs.Text.{magic}
use Rattle.g1_image.specs.declared.cursor.Version.TheVariants.{One}
use Rattle.g1_image.proofs.cursor.Cursor.check_magic.Given as goal

abbrev pub invariant-loop-i : goal.invariant-loop-i
invariant-loop-i l = (l.i ≤ length l.self-inside.rest.now) × ((k : ℕ) → k < l.i → slice_index l.self-inside.rest.now k ≡ slice_index (magic One) k)
