-- What the bytes are that lines make whose counts agree.
use Rattle.std.specs.Prelude.{◌≡◌, ◌<◌, ℕ, List, length, IfSome}
use Rattle.g1_words.specs.declared.region.Kind.TheVariants.{Ordinary}
use Rattle.g1_image.specs.declared.cursor.Version.TheVariants.{Two}
use Rattle.g1_image.specs.Text.{file_text}
use Rattle.g1_image.specs.Image.{Image, IsTextIn}
use Rattle.g1_text.specs.Content.{Content, Agrees, IsCount, file_with, region_said}

-- the current region, if there is one, is an ordinary one
abbrev pub IsCurrentOrdinary : Content → Type 0
IsCurrentOrdinary c = IfSome c.current (λ r. (r < length c.regions) × ((region_said c r).kind ≡ Ordinary))

-- the counts of the heading agree
pub record HeadingAgrees (c : Content) : Type 0 where
  pub roots : IsCount c.root_count (length c.roots)
  pub dirty : IsCount c.dirty_count (length c.log)
  pub current : IsCurrentOrdinary c

-- THE BYTES ARE MADE of what was read: all counts agree, and the bytes are the file with its numbers, that of an image
pub record IsMadeOf (c : Content) (bytes : List ℕ) : Type 0 where
  pub agrees : Agrees c
  pub numbers : bytes ≡ file_text (file_with c)
  pub image : Image
  pub text : IsTextIn Two bytes image
