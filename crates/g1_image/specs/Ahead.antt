-- The bytes of a text that wait to be taken, and what taking them says.
use Rattle.std.specs.Prelude.{◌≡◌, ◌<◌, ℕ, Bool, true, List, ◌++◌, length, replicate, min, Option, IfSome, ◌-◌}
use Rattle.std.specs.Io.KnownBytes.{Consumes, IsAtEnd, prepend_known}
use Rattle.g1_words.specs.declared.fault.Fault.{Fault}
use Rattle.g1_words.specs.declared.limits.Limits.{Limits}
use Rattle.g1_words.specs.declared.fault.Fault.TheVariants as fault
use Rattle.g1_words.specs.declared.fault.Device.TheVariants as device
use Rattle.g1_image.specs.declared.ahead.Ahead.{Ahead}
use Rattle.g1_image.specs.declared.ahead.Ahead.TheVariants.{Whole, Read}
use Rattle.g1_image.specs.Buffer.{buffered, SeesEnd}
use Rattle.g1_image.specs.Text.{words_of}
use Rattle.g1_image.specs.Reading.{IsBytes}
use Rattle.g1_image.specs.Faults.{FaultWithin}
use Rattle.g1_image.specs.Source.{HoldsOfLeft}

-- the bytes that wait: all that is left of a text in memory, or those that were read from a source
abbrev pub waiting : Ahead → List ℕ
waiting (Whole bytes) = bytes
waiting (Read buffer) = buffered buffer

-- what is still to be taken: the bytes that wait, and behind them those that are left in the source
abbrev pub to_take : Ahead → Option (List ℕ) → Option (List ℕ)
to_take a left = prepend_known (waiting a) left

-- no source has more of a text in memory; where another source was seen to end, none is left in it
abbrev pub KnowsEnd : Ahead → Option (List ℕ) → Type 0
KnowsEnd (Whole bytes) left = IsAtEnd left
KnowsEnd (Read buffer) left = SeesEnd buffer left

-- these bytes were taken; the mark is as before
pub record Takes (old_mark new_mark : Bool) (old new : Option (List ℕ)) (taken : List ℕ) : Type 0 where
  pub mark : new_mark ≡ old_mark
  pub bytes : Consumes old new taken
  pub are_bytes : IsBytes taken

-- so many bytes aren't taken for want of memory, by a read that failed, or because there are fewer; the marks are those before and after
abbrev pub TakeFails : Bool → Bool → Option (List ℕ) → ℕ → Fault → Type 0
TakeFails old_mark new_mark old wanted fault.Memory = new_mark ≡ old_mark
TakeFails old_mark new_mark old wanted (fault.Device device.Input) = new_mark ≡ true
TakeFails old_mark new_mark old wanted fault.Short = (new_mark ≡ old_mark) × IfSome old (λ xs. length xs < wanted)
TakeFails _ _ _ _ _ = ⊥

-- a text isn't read for want of memory, by a read that failed, or for its own fault; the marks are those before and after
abbrev pub TextFails : Limits → Bool → Bool → Option (List ℕ) → Fault → Type 0
TextFails limits old_mark new_mark old fault.Memory = new_mark ≡ old_mark
TextFails limits old_mark new_mark old (fault.Device device.Input) = new_mark ≡ true
TextFails limits old_mark new_mark old (fault.Device device.Output) = ⊥
TextFails limits old_mark new_mark old e = (new_mark ≡ old_mark) × HoldsOfLeft old (λ xs. FaultWithin limits xs e)

-- the words of a region whose used words these bytes are
abbrev pub region_words : ℕ → ℕ → List ℕ → List ℕ
region_words w top bytes = words_of (min top w) bytes ++ replicate (w - top) 0
