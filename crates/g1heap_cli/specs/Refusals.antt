-- What g1heap reports of a file, and with which status.
use Rattle.std.specs.Prelude.{◌≡◌, ◌⊎◌, ℕ, Bool, true, false, List, [], ◌++◌, codes, decimal}
use Rattle.g1_words.specs.Fault.{number_of, status_of, fault_text}
use Rattle.g1_words.specs.declared.fault.Fault.{Fault}
use Rattle.g1_words.specs.declared.fault.Fault.TheVariants as fault
use Rattle.g1_words.specs.declared.fault.Device.TheVariants as device
use Rattle.g1_command.specs.declared.refusal.Refusal.{Refusal}
use Rattle.g1_command.specs.declared.refusal.Refusal.TheVariants as refusal

-- what is reported is a text like this, with this status; or memory was wanted for it
abbrev pub Tells : ℕ → (List ℕ → Type 0) → Refusal → Type 0
Tells status Says (refusal.Told s text) = (s ≡ status) × Says text.bytes.items
Tells status Says (refusal.Fault f) = f ≡ fault.Memory

-- the line of a cause
abbrev pub cause_line : List ℕ → List ℕ
cause_line cause = codes "g1heap: " ++ (cause ++ codes "\n")

-- what is behind the first line: nothing, or the line of the cause
abbrev pub MayBeCause : List ℕ → Type 0
MayBeCause behind = (behind ≡ []) ⊎ ((cause : List ℕ) × (behind ≡ cause_line cause))

-- a line that says this of a file, with its end
abbrev pub told_line : List ℕ → List ℕ → List ℕ
told_line file what = codes "g1heap: " ++ (file ++ (codes ": " ++ what))

-- this, and the end of a line
abbrev pub ended : List ℕ → List ℕ
ended what = what ++ codes "\n"

-- the line of a file's fault, with the file, the number and the text, and what is behind it
abbrev pub file_line : List ℕ → Fault → List ℕ → List ℕ
file_line file f behind =
    codes "g1heap: " ++ (file ++ (codes ": fault " ++ (decimal (number_of f) ++ (codes ": " ++ (fault_text f ++ (codes "\n" ++ behind))))))

-- the text of a file's fault, with the cause or without it
abbrev pub IsFileText : List ℕ → Fault → List ℕ → Type 0
IsFileText file f text = (behind : List ℕ) × MayBeCause behind × (text ≡ file_line file f behind)

-- THE REFUSAL OF A FILE for a fault: with the fault's status
abbrev pub RefusesFile : List ℕ → Fault → Refusal → Type 0
RefusesFile file f r = Tells (status_of f) (IsFileText file f) r

-- a file can't be opened
abbrev pub CantOpen : List ℕ → Refusal → Type 0
CantOpen file r = Tells 7 (λ t. (why : List ℕ) × (t ≡ told_line file (codes "can't be opened: " ++ ended why))) r

-- a fault is of the machine, and not of bytes that are read
abbrev pub is_of_machine : Fault → Bool
is_of_machine fault.Memory = true
is_of_machine (fault.Device d) = true
is_of_machine _ = false

-- THE REFUSAL OF A FILE THAT IS NOT READ: it can't be opened, or the machine has a fault, a want of memory or a read that failed
abbrev pub IsUnread : List ℕ → Refusal → Type 0
IsUnread file r = CantOpen file r ⊎ ((f : Fault) × (is_of_machine f ≡ true) × RefusesFile file f r)

-- the refusal for a want of cover, of an image that has the graph of another one
abbrev pub RefusesCover : List ℕ → Fault → Refusal → Type 0
RefusesCover file f r = Tells (status_of f) (λ t. (text : List ℕ) × IsFileText file f text × (t ≡ text ++ cause_line (codes "the graph is the same"))) r

-- the line of a line that is not what is expected, and what is behind it
abbrev pub wrong_line : List ℕ → ℕ → List ℕ → List ℕ → List ℕ
wrong_line file number expected behind =
    codes "g1heap: " ++ (file ++ (codes ": line " ++ (decimal number ++ (codes ": expected " ++ (expected ++ (codes "\n" ++ behind))))))

abbrev pub IsLineText : List ℕ → ℕ → List ℕ → Type 0
IsLineText file number text = (expected : List ℕ) × (behind : List ℕ) × MayBeCause behind × (text ≡ wrong_line file number expected behind)

-- THE REFUSAL OF A LINE of a file, by its number
abbrev pub RefusesLine : List ℕ → ℕ → Refusal → Type 0
RefusesLine file number r = Tells 3 (IsLineText file number) r

-- the line of a fault that is of no file, and what is behind it
abbrev pub bare_line : Fault → List ℕ → List ℕ
bare_line f behind = codes "g1heap: fault " ++ (decimal (number_of f) ++ (codes ": " ++ (fault_text f ++ (codes "\n" ++ behind))))

-- that of standard output
abbrev pub output_line : List ℕ → List ℕ
output_line behind = bare_line (fault.Device device.Output) behind

-- THE REFUSAL OF STANDARD OUTPUT: its fault, with the system's reason if there is one, and memory for it
abbrev pub RefusesOutput : Refusal → Type 0
RefusesOutput (refusal.Told s text) = (s ≡ 6) × ((cause : List ℕ) × (text.bytes.items ≡ output_line (cause_line cause)))
RefusesOutput (refusal.Fault f) = f ≡ fault.Device device.Output
