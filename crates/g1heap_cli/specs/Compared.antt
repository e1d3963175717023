-- What `same` reads of two files.
use Rattle.std.specs.Prelude.{ℕ, List, [], ◌∷◌, Option, Some, None}
use Rattle.g1_words.specs.declared.limits.Limits.{Limits}
use Rattle.g1_words.specs.declared.fault.Place.{Place}
use Rattle.g1_words.specs.declared.fault.Place.TheVariants as place
use Rattle.g1_image.specs.Image.{IsTextWithin}
use Rattle.g1_image.specs.Faults.{FaultWithin}
use Rattle.g1_image.specs.Stale.{IsTextWithout}
use Rattle.g1_text.specs.Plain.{IsPlainText}
use Rattle.g1_text.specs.Reading.{AreGraphLines, parts_of}
use Rattle.g1heap_cli.specs.declared.files.SideContent.{SideContent}
use Rattle.g1heap_cli.specs.declared.files.SideContent.TheVariants as content

-- bytes are lines of objects by name
abbrev pub AreLines : List ℕ → Type 0
AreLines bytes = AreGraphLines (parts_of bytes)

-- what bytes have: lines in plain words, or the image is theirs; or it is theirs with null for its stale words, for which they have this fault
abbrev pub IsContent : Limits → List ℕ → SideContent → Type 0
IsContent limits bytes (content.Lines lines) = AreLines bytes × IsPlainText bytes lines.items
IsContent limits bytes (content.Image image) = IsTextWithin limits bytes image
IsContent limits bytes (content.Stale image stale fault) = IsTextWithout limits bytes image stale.roots.items stale.slots.items × FaultWithin limits bytes fault

-- THE FIRST PLACE of stale words, by the roots and by the slots that have them: that of a root, else that of a slot
abbrev pub first_place : List (ℕ × ℕ) → List (ℕ × ℕ) → Option Place
first_place (root ∷ roots) slots = Some (place.Root root.0)
first_place [] (slot ∷ slots) = Some (place.Slot slot.0)
first_place [] [] = None
