-- What a refusal of lines reports.
use Rattle.std.specs.Prelude.{◌≡◌, ℕ}
use Rattle.g1_words.specs.declared.fault.Fault.TheVariants.{Memory}
use Rattle.g1_text.specs.declared.expected.Expected.{Expected as Wanted}
use Rattle.g1_text.specs.declared.expected.Expected.TheVariants.{FewerWords}
use Rattle.g1_text.specs.declared.expected.Refusal.{Refusal}
use Rattle.g1_text.specs.declared.expected.Refusal.TheVariants.{Expected, Memory as OutOfMemory}
use Rattle.g1_text.specs.declared.expected.Wrong.{Wrong}
use Rattle.g1_text.specs.declared.expected.Wrong.TheVariants.{Line, Fault}

-- a line, or a fault: only that memory is out
abbrev pub IsLineOrMemory : Wrong → Type 0
IsLineOrMemory (Line number expected) = Unit {0}
IsLineOrMemory (Fault f) = f ≡ Memory

-- the line of this number
abbrev pub IsAtLine : Wrong → ℕ → Type 0
IsAtLine (Line number expected) n = number ≡ n
IsAtLine (Fault f) n = ⊥

-- what is expected is something else than fewer words
abbrev pub IsOther : Wanted → Type 0
IsOther (FewerWords words most) = ⊥
IsOther _ = Unit {0}

-- a line is not taken for another reason than its words in all, or memory is out
abbrev pub IsOtherRefusal : Refusal → Type 0
IsOtherRefusal (Expected e) = IsOther e
IsOtherRefusal OutOfMemory = Unit {0}
