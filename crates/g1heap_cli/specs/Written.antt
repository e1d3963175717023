-- What is written of lines that a writer takes.
use Rattle.std.specs.Prelude.{◌≡◌, ◌⊎◌, ℕ, List, ◌∷◌, length, Option, Some, None, ⊤}
use Rattle.std.specs.Option.{option_map}
use Rattle.std.specs.Coded.{×_prop, Unit-prop, Coded-set, coded_list, coded_ℕ}
use Rattle.std.specs.Io.{StartsWith}
use Rattle.std.specs.Io.KnownBytes.{append_known, Keeps}
use Rattle.g1_command.specs.Deliveries.{broken_pipe}

-- what stood there stands, and behind it a beginning of what was taken
abbrev pub HasBegun : (stood now taken : Option (List ℕ)) → Type 0
HasBegun None now taken = ⊤
HasBegun (Some xs) None taken = ⊥
HasBegun (Some xs) (Some ys) None = ⊥
HasBegun (Some xs) (Some ys) (Some zs) = StartsWith ys xs × StartsWith zs ys

pub HasBegun-prop : (stood now taken : Option (List ℕ)) → IsProp (HasBegun stood now taken)
HasBegun-prop None now taken = Unit-prop
HasBegun-prop (Some xs) None taken = λ x y. absurd x
HasBegun-prop (Some xs) (Some ys) None = λ x y. absurd x
HasBegun-prop (Some xs) (Some ys) (Some zs) = ×_prop (Coded-set (coded_list coded_ℕ) _ _) (Coded-set (coded_list coded_ℕ) _ _)

-- the writer before the lines that wait
abbrev pub before_of : {S W : Type 0} → (S → W) → Option S → W → W
before_of value None w = w
before_of value (Some s) w = value s

-- the number of bytes that stood there, and then these
abbrev pub with_number : Option (List ℕ) → Option (List ℕ) → Option (List ℕ)
with_number None known = None
with_number (Some xs) known = option_map (λ zs. length xs ∷ zs) known

-- what was taken: the lines that wait, behind what the writer before them has
abbrev pub taken_of : {S W : Type 0} → (W → Option (List ℕ)) → (S → W) → Option S → W → List ℕ → Option (List ℕ)
taken_of known value kept w text = append_known (known (before_of value kept w)) text

-- the status behind lines: the given one if all that was taken is written, that of a broken pipe if the reader went away
abbrev pub EndsLines : ℕ → Option (List ℕ) → Option (List ℕ) → ℕ → Type 0
EndsLines status taken now s = ((s ≡ status) × Keeps taken now) ⊎ (s ≡ broken_pipe)
