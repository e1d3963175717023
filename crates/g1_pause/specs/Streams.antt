-- What a whole run over a source and a sink gives.
use Rattle.std.specs.Prelude.{ℕ, ◌<◌, List, length, take, Option, Result, Ok, Err}
use Rattle.std.specs.Io.KnownBytes.{Appends, Keeps}
use Rattle.g1_words.specs.declared.limits.Limits.{Limits}
use Rattle.g1_words.specs.declared.limits.Limits.TheVariants.{Specified}
use Rattle.g1_words.specs.declared.fault.Fault.{Fault}
use Rattle.g1_words.specs.declared.fault.Fault.TheVariants.{Memory, Device}
use Rattle.g1_words.specs.declared.fault.Device.TheVariants.{Input, Output}
use Rattle.g1_choose.specs.declared.parameters.Cost.{Cost}
use Rattle.g1_pause.specs.declared.settings.Choice.{Choice}
use Rattle.g1_pause.specs.Answer.{IsAnswerWithin}
pub use Rattle.g1_image.specs.Source.{HoldsOfLeft, input_mark}
pub use Rattle.g1_image.specs.Sink.{output_mark}

-- WHAT A RUN GIVES within these limits, by the bytes xs that were left to read, and those written before and after: the answer to xs stands
-- appended; or the output failed, and a beginning of that answer stands; or the input failed or memory was wanted, and nothing
-- was written; or xs is refused, and nothing was written
abbrev pub RunGivesWithin : Limits → Cost → Choice → List ℕ → Option (List ℕ) → Option (List ℕ) → Result (Unit {0}) Fault → Type 0
RunGivesWithin limits cost choice xs old new (Ok u) = (ys : List ℕ) × IsAnswerWithin limits cost choice xs (Ok ys) × Appends old new ys
RunGivesWithin limits cost choice xs old new (Err (Device Output)) = (ys : List ℕ) × (k : ℕ) × IsAnswerWithin limits cost choice xs (Ok ys) × (k < length ys) × Appends old new (take k ys)
RunGivesWithin limits cost choice xs old new (Err (Device Input)) = Keeps old new
RunGivesWithin limits cost choice xs old new (Err Memory) = Keeps old new
RunGivesWithin limits cost choice xs old new (Err e) = Keeps old new × IsAnswerWithin limits cost choice xs (Err e)

-- what a run gives within the limits of the specification
abbrev pub RunGives : Cost → Choice → List ℕ → Option (List ℕ) → Option (List ℕ) → Result (Unit {0}) Fault → Type 0
RunGives cost choice xs old new r = RunGivesWithin Specified cost choice xs old new r
