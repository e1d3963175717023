-- What is found in the bytes of a file that is to be an image.
use Rattle.std.specs.Prelude.{ℕ, List, Result, Ok, Err}
use Rattle.g1_words.specs.declared.limits.Limits.{Limits}
use Rattle.g1_words.specs.declared.fault.Fault.{Fault}
use Rattle.g1_image.specs.Image.{Image, IsTextWithin}
use Rattle.g1_image.specs.Faults.{FaultWithin}
use Rattle.g1_command.specs.declared.refusal.Refusal.{Refusal}
use Rattle.g1heap_cli.specs.Refusals.{RefusesFile}

-- the refusal of a file for the fault of its bytes, within these limits
abbrev pub RefusesBytes : Limits → List ℕ → List ℕ → Refusal → Type 0
RefusesBytes limits file bytes r = (f : Fault) × FaultWithin limits bytes f × RefusesFile file f r

-- WHAT IS FOUND in bytes, within these limits: their image, or the fault for which they are none
abbrev pub IsFoundIn : Limits → List ℕ → Result Image Fault → Type 0
IsFoundIn limits bytes (Ok i) = IsTextWithin limits bytes i
IsFoundIn limits bytes (Err e) = FaultWithin limits bytes e
