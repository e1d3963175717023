-- An image that was read, and whose heap and cards haven't been looked at.
use Rattle.std.specs.Prelude.{◌≡◌, ℕ, List, map}
use Rattle.g1_words.specs.declared.limits.Limits.{Limits}
use Rattle.g1_image.specs.declared.judging.DraftImage.{DraftImage}
use Rattle.g1_image.specs.Text.{File, file_text}
use Rattle.g1_image.specs.Image.{heap_of}
use Rattle.g1_image.specs.Faults.{FileFits, AreKnown}

-- the bytes are the text of a file whose kinds and flags have a meaning, and the image has this file's heap and cards
pub record IsDraftOf (limits : Limits) (bytes : List ℕ) (d : DraftImage) : Type 0 where
  pub file : File
  pub fits : FileFits limits file
  pub text : bytes ≡ file_text file
  pub known : AreKnown file.table file.n
  pub heap : d.draft ≡ heap_of file
  pub log : d.log.items ≡ file.log
  pub remembered : map (λ s. s.items) d.remembered.items ≡ file.remembered
