-- What the values of options say that more than one command has: by the rows that clap found, each with an option's name and the
-- texts of its values, those of its default if the words give none.
use Rattle.std.specs.Prelude.{◌≡◌, ◌≢◌, ◌⊎◌, ℕ, List, Bool, true, false, Option, Some, None, String, Vec, option_map, unwrap_or, map, codes}
use Rattle.clap.specs.Words.{Row, Text, first_of, one_of}
use Rattle.g1_command.specs.Values.{IsNumber, texts_of}
use Rattle.g1_words.specs.declared.limits.Limits.{Limits}
use Rattle.g1_words.specs.declared.limits.Limits.TheVariants.{Specified, Wide}
use Rattle.g1heap_request.specs.declared.image_file.ImageFile.{ImageFile}
use Rattle.g1heap_request.specs.declared.output.Output.{Output}
use Rattle.g1heap_request.specs.declared.output.Output.TheVariants.{Default, Standard, File}

-- whether a flag is given, as its value says; it is not where the command has no such flag
abbrev pub IsFlag : List Row → Text → Bool → Type 0
IsFlag rows flag given = (one_of flag rows ≡ None → given ≡ false) × (one_of flag rows ≡ Some (codes "true") → given ≡ true)
    × (one_of flag rows ≡ Some (codes "false") → given ≡ false)

-- the name of a standard stream
abbrev pub standard : Text
standard = codes "-"

-- a name is that of an option; that of the standard stream if it has none
abbrev pub IsNameOf : List Row → Text → Text → Type 0
IsNameOf rows option name = name ≡ unwrap_or (first_of option rows) standard

-- the name of an option, if it has one
abbrev pub IsNameIfGiven : {Z : Type 0} → List Row → Text → Option (String Z) → Type 0
IsNameIfGiven rows option name = option_map (λ s. s.bytes.items) name ≡ first_of option rows

-- where an answer goes that gets this name, if one
abbrev pub GoesTo : Option Text → Output → Type 0
GoesTo name Default = name ≡ None
GoesTo name Standard = name ≡ Some standard
GoesTo name (File file) = (name ≡ Some file.bytes.items) × (file.bytes.items ≢ standard)

-- WHERE THE ANSWER GOES
abbrev pub IsOutputOf : List Row → Output → Type 0
IsOutputOf rows output = GoesTo (first_of (codes "output") rows) output

-- THE LIMITS of images: the wide ones, if no others are given
abbrev pub AreLimitsOf : List Row → Limits → Type 0
AreLimitsOf rows Wide = (first_of (codes "limits") rows ≡ None) ⊎ (first_of (codes "limits") rows ≡ Some (codes "wide"))
AreLimitsOf rows Specified = first_of (codes "limits") rows ≡ Some (codes "specification")

-- THE IMAGE that is read
pub record IsImageOf (rows : List Row) (image : ImageFile) : Type 0 where
  pub name : IsNameOf rows (codes "image") image.name.bytes.items
  pub limits : AreLimitsOf rows image.limits

-- a number that counts: it is not 0
abbrev pub IsCount : ℕ → Text → Type 0
IsCount n text = IsNumber n text × (n ≢ 0)

-- the texts of an option that may be given several times
abbrev pub AreTextsOf : {Z Y : Type 0} → List Row → Text → Vec (String Z) Y → Type 0
AreTextsOf rows option texts = map (λ s. s.bytes.items) texts.items ≡ texts_of rows option
