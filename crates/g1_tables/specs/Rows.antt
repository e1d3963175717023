-- The lines of the table of an image, by chunks of regions.
use Rattle.std.specs.Prelude.{◌≡◌, ℕ, List, ◌+◌, ◌-◌, ◌*◌, map, min}
use Rattle.std.specs.List.{range_with_len}
use Rattle.g1_image.specs.Image.{Image}
use Rattle.g1_text.specs.Lines.{text_of, region_line}

-- the text is that of the lines of chunk k, where a chunk has `size` regions
abbrev pub AreRows : Image → ℕ → ℕ → List ℕ → Type 0
AreRows i size k text = text ≡ text_of (map (region_line i) (range_with_len (k * size) (min i.heap.geometry.n (k * size + size) - k * size)))
