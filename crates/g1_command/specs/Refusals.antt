-- What is reported of a refusal, and how a program ends by one.
use Rattle.std.specs.Prelude.{◌≡◌, ℕ, List, ◌++◌, Option, codes, decimal}
use Rattle.g1_words.specs.Fault.{number_of, status_of, fault_text}
use Rattle.g1_words.specs.declared.fault.Fault.{Fault}
use Rattle.g1_command.specs.declared.refusal.Refusal.{Refusal}
use Rattle.g1_command.specs.declared.refusal.Refusal.TheVariants as refusal
use Rattle.g1_command.specs.declared.refusal.Ending.{Ending}
use Rattle.g1_command.specs.Deliveries.{Delivers}

-- the line of a fault: the program's name, the number and the text
abbrev pub fault_line : List ℕ → Fault → List ℕ
fault_line program fault =
    program ++ (codes ": fault " ++ (decimal (number_of fault) ++ (codes ": " ++ (fault_text fault ++ codes "\n"))))

-- WHAT IS REPORTED of a refusal
abbrev pub refusal_text : List ℕ → Refusal → List ℕ
refusal_text program (refusal.Told status text) = text.bytes.items
refusal_text program (refusal.Fault fault) = fault_line program fault

-- THE EXIT STATUS of a refusal
abbrev pub status_of_refusal : Refusal → ℕ
status_of_refusal (refusal.Told status text) = status
status_of_refusal (refusal.Fault fault) = status_of fault

-- HOW A PROGRAM ENDS by a refusal, by what was reported before and after: with its status, and its text is reported, or a
-- beginning of it if a write failed
pub record EndsBy (program : List ℕ) (refusal : Refusal) (old new : Option (List ℕ)) (ending : Ending) : Type 0 where
  pub status : ending.status ≡ status_of_refusal refusal
  pub reported : Delivers (refusal_text program refusal) old new ending.reported
