-- The parts of a file, be they those of an image or not.
use Rattle.std.specs.Prelude.{◌<◌, ◌^◌, ℕ, List, length, map, unwrap_or, All}
use Rattle.g1_image.specs.Text.{File}
use Rattle.g1_image.specs.Image.{entry_of}
use Rattle.g1_image.specs.declared.cursor.Version.TheVariants.{Two}
use Rattle.g1_image.specs.declared.file_parts.FileParts.{FileParts}

-- what stands in a file of these parts and these words
abbrev pub file_of_parts : FileParts → List ℕ → File
file_of_parts p words = record {
  version = Two;
  w = p.geometry.w;
  k = p.geometry.k;
  n = p.geometry.n;
  current = unwrap_or p.current p.geometry.n;
  table = map entry_of p.regions.now;
  roots = p.roots.now;
  log = p.log.now;
  remembered = map (λ s. s.items) p.remembered.now;
  words = words;
}

-- counts that a file has room for
pub record CountsFit (f : File) : Type 0 where
  pub roots : length f.roots < 2 ^ 32
  pub log : length f.log < 2 ^ 32
  pub remembered : All (λ cards. length cards < 2 ^ 32) f.remembered
