-- What the values of a command's options say, by the rows that clap found: each has an option's name and the texts of its
-- values, those of its default if the words give none.
use Rattle.std.specs.Prelude.{◌≡◌, ◌≢◌, ◌<◌, ◌^◌, ℕ, List, [], ◌∷◌, Option, Some, None, codes, unwrap_or, ⊤}
use Rattle.std.specs.List.{AllZip, Any}
use Rattle.std.specs.Str.Parse.{IsNumeral, digits_value}
use Rattle.clap.specs.Words.{Row, Text, all_of, first_of, one_of}
use Rattle.g1_choose.specs.declared.parameters.Cost.{Cost}
use Rattle.g1_command.specs.declared.values.Misuse.{Misuse}
use Rattle.g1_command.specs.declared.values.Misuse.TheVariants as misuse

-- a text is digits alone, at least one; this is the number that they say, and it is below a bound
abbrev pub Spells : ℕ → ℕ → Text → Type 0
Spells bound n text = IsNumeral 10 text × (digits_value 10 text ≡ n) × (n < bound)

-- a text is a number below a bound
abbrev pub IsBelow : ℕ → Text → Type 0
IsBelow bound text = (n : ℕ) × Spells bound n text

-- a number and a region, as texts say them
abbrev pub IsNumber : ℕ → Text → Type 0
IsNumber n text = Spells (2 ^ 64) n text

abbrev pub IsRegion : ℕ → Text → Type 0
IsRegion r text = Spells (2 ^ 32) r text

-- what a value says, if there is one
abbrev pub IfGiven : (ℕ → Text → Type 0) → Option Text → Option ℕ → Type 0
IfGiven Says None None = ⊤
IfGiven Says (Some text) (Some n) = Says n text
IfGiven Says _ _ = ⊥

-- what a value says, or 0 if there is none
abbrev pub OrZero : Option Text → ℕ → Type 0
OrZero None n = n ≡ 0
OrZero (Some text) n = IsNumber n text

-- the number of an option; 0 of a command that has no such option
abbrev pub IsNumberOf : List Row → Text → ℕ → Type 0
IsNumberOf rows option n = OrZero (first_of option rows) n

-- the texts of an option's values
abbrev pub texts_of : List Row → Text → List Text
texts_of rows option = unwrap_or (all_of option rows) []

-- the regions of an argument, in their order
abbrev pub AreRegionsOf : List Row → Text → List ℕ → Type 0
AreRegionsOf rows option regions = AllZip IsRegion regions (texts_of rows option)

-- a flag is on; off. What clap finds of a flag is the text of a truth value
abbrev pub IsOn : List Row → Text → Type 0
IsOn rows flag = (one_of flag rows ≢ None) × (one_of flag rows ≢ Some (codes "false"))

abbrev pub IsOff : List Row → Text → Type 0
IsOff rows flag = one_of flag rows ≢ Some (codes "true")

-- THE COSTS that the options give
pub record IsCostOf (rows : List Row) (cost : Cost) : Type 0 where
  pub fixed : IsNumberOf rows (codes "fixed") cost.fixed
  pub dirty : IsNumberOf rows (codes "dirty") cost.dirty
  pub card : IsNumberOf rows (codes "card") cost.card
  pub byte : IsNumberOf rows (codes "byte") cost.byte

-- the options of the costs
abbrev pub cost_options : List Text
cost_options = codes "fixed" ∷ codes "dirty" ∷ codes "card" ∷ codes "byte" ∷ []

-- the value of an option is no number
abbrev pub IsNoNumberOf : List Row → Text → Type 0
IsNoNumberOf rows option = (text : Text) × (first_of option rows ≡ Some text) × (IsBelow (2 ^ 64) text → ⊥)

-- the value of an argument is no region; one of its values is none
abbrev pub IsNoRegionOf : List Row → Text → Type 0
IsNoRegionOf rows option = (text : Text) × (first_of option rows ≡ Some text) × (IsBelow (2 ^ 32) text → ⊥)

abbrev pub AreNoRegionsOf : List Row → Text → Type 0
AreNoRegionsOf rows option = Any (λ text. IsBelow (2 ^ 32) text → ⊥) (texts_of rows option)

-- a misuse is of a value, and no want of memory
abbrev pub IsValue : Misuse → Type 0
IsValue misuse.Memory = ⊥
IsValue (misuse.Value message) = ⊤

-- why values are no request: memory was wanted, or this is wrong with them
abbrev pub Because : Type 0 → Misuse → Type 0
Because Wrong misuse.Memory = ⊤
Because Wrong (misuse.Value message) = Wrong
