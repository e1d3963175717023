-- What is printed of a file.
use Rattle.std.specs.Prelude.{◌≡◌, ℕ, List, ⊤}
use Rattle.g1_command.specs.declared.refusal.Refusal.{Refusal}
use Rattle.g1heap_cli.specs.declared.commands.Printed.{Printed}
use Rattle.g1heap_cli.specs.declared.commands.Printed.TheVariants as printed
use Rattle.g1heap_cli.specs.Leaving.{Reply, Just}

-- P holds of the lines, if they are those of an image
abbrev pub IfLines : (List ℕ → Type 0) → Printed → Type 0
IfLines P (printed.Lines text) = P text.bytes.items
IfLines P (printed.Broken text refusal) = ⊤

-- P holds of the refusal behind the lines of bytes that are no image's
abbrev pub IfBroken : (Refusal → Type 0) → Printed → Type 0
IfBroken P (printed.Lines text) = ⊤
IfBroken P (printed.Broken text refusal) = P refusal

-- the refusal is that one; there is none behind the lines of an image
abbrev pub IsRefusalOf : Printed → Refusal → Type 0
IsRefusalOf (printed.Lines text) r = ⊥
IsRefusalOf (printed.Broken text refusal) r = r ≡ refusal

-- the lines of an image are a reply, with status 0, and those of bytes that are none are not
abbrev pub reply_of : Printed → Reply
reply_of (printed.Lines text) = Just 0 text.bytes.items
reply_of (printed.Broken text refusal) = λ s t. ⊥
