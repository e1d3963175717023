-- What bytes have that need not be an image's text, as far as it can be read.
use Rattle.std.specs.Prelude.{◌≡◌, ℕ, List, ◌++◌}
use Rattle.g1_image.specs.declared.text_parts.TextParts.{TextParts}
use Rattle.g1_image.specs.declared.text_parts.TextParts.TheVariants as parts
use Rattle.g1_image.specs.Text.{magic, heading_text}
use Rattle.g1_words.specs.declared.limits.Limits.{Limits}
use Rattle.g1_image.specs.Faults.{FaultWithin, HeadingFits}
use Rattle.g1_image.specs.Front.{IsGoodFront, text_of, IsLaidOut}

-- these are the parts of the bytes: all of them, or those in front of the one that a fault ends
abbrev pub ArePartsIn : Limits → List ℕ → TextParts → Type 0
-- the bytes end in the magic or in the heading, or begin with another magic
ArePartsIn limits bytes (parts.Unknown e) = FaultWithin limits bytes e
-- a magic and a heading begin the bytes; its numbers, or how many bytes follow it, are the fault
ArePartsIn limits bytes (parts.Heading v h e) = HeadingFits h × ((rest : List ℕ) × (bytes ≡ magic v ++ (heading_text h ++ rest))) × FaultWithin limits bytes e
-- all that precedes the words begins the bytes; there are too few bytes behind it, or too many
ArePartsIn limits bytes (parts.Front f rest e) = IsGoodFront limits f × (bytes ≡ text_of f rest.now) × FaultWithin limits bytes e
-- the bytes are a whole file, in which these words are laid
ArePartsIn limits bytes (parts.Whole f words) = IsLaidOut limits bytes f words.items
