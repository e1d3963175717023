use Rattle.std.proofs.Common.{◌≡◌, ◌++◌, take, map}
use Rattle.g1_image.specs.Text.{table_text}
use Rattle.g1_image.specs.declared.cursor.Version.TheVariants.{Two}
use Rattle.g1_image.specs.Image.{entry_of}
use Rattle.g1_image.proofs.file_parts.push_table.Given as goal

abbrev pub invariant-loop-region : goal.invariant-loop-region
invariant-loop-region l = l.out.items ≡ l.fn.out.items ++ table_text Two (map entry_of (take l.region-index l.regions))
