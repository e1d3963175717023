-- What a line does to a session.
use Rattle.std.specs.Prelude.{◌≡◌, ⊤, ℕ, ◌+◌, ◌-◌, ◌^◌, ◌<◌, min, List, [], ◌∷◌, Option, Some, None}
use Rattle.g1_words.specs.Geometry.{Geometry}
use Rattle.g1_words.specs.declared.fault.Fault.TheVariants.{Memory, Geometry as OutOfRange}
use Rattle.g1_image.specs.Image.{Image}
use Rattle.g1_choose.specs.declared.parameters.Cost.{Cost}
use Rattle.g1_pause.specs.declared.settings.Choice.{Choice}
use Rattle.g1_pause.specs.declared.steps.Steps.{Steps}
use Rattle.g1_pause.specs.Steps.{AreStepsOf}
use Rattle.g1_trace.specs.declared.command.Command.{Command}
use Rattle.g1_trace.specs.declared.command.Command.TheVariants.{Pause}
use Rattle.g1_trace.specs.declared.command.Reply.{Reply as ReplyOf}
use Rattle.g1_trace.specs.declared.expected.Expected.TheVariants.{Heap}
use Rattle.g1_trace.specs.TraceText.{heap_line, command_line, numbers_of, AllFit, IsHeapLine, IsCommandLine}
use Rattle.g1_trace.specs.Run.{empty_image}
use Rattle.g1_trace.specs.Running.{IsHeapSize}
use Rattle.g1_trace.specs.Mutator.{IsStep}
use Rattle.g1_trace.specs.declared.session.Session.{Session}
use Rattle.g1_trace.specs.declared.session.Session.TheVariants.{Begun, Open}
use Rattle.g1_trace.specs.declared.session.Taken.{Taken}
use Rattle.g1_trace.specs.declared.session.Taken.TheVariants.{Nothing, Reply}
use Rattle.g1_trace.specs.declared.session.Wrong.{Wrong}
use Rattle.g1_trace.specs.declared.session.Wrong.TheVariants.{Line, Fault}

-- the line is empty, or its first byte is a number sign
abbrev pub IsComment : List ℕ → Type 0
IsComment [] = ⊤
IsComment (first ∷ rest) = first ≡ 35

-- one command more, counted up to the greatest number of 64 bits
abbrev pub one_more : ℕ → ℕ
one_more n = min (n + 1) (2 ^ 64 - 1)

-- The line was done, at this cost: a comment changes nothing; the line with the sizes, which are within the limits, makes the heap
-- of a trace; and a command is a step of a trace, whose reply is what the line gets, and is counted.
pub data IsDone (cost : Cost) : Session → List ℕ → Taken → Session → Type 0 where
  comment : {s : Session} {line : List ℕ} → IsComment line → IsDone cost s line Nothing s
  sizes : {line : List ℕ} (g : Geometry) (roots : ℕ) → IsHeapSize g roots → line ≡ heap_line g.w g.k g.n roots
      → IsDone cost Begun line Nothing (Open (empty_image g roots) 0)
  command : {i j : Image} {n : ℕ} {line : List ℕ} {reply : ReplyOf} (c : Command) → AllFit (numbers_of c) → line ≡ command_line c
      → IsStep cost i c reply j → IsDone cost (Open i n) line (Reply reply) (Open j (one_more n))

-- the sizes of the line are outside the limits
abbrev pub IsOutOfRange : List ℕ → Type 0
IsOutOfRange line = (g : Geometry) × (roots : ℕ) × AllFit (g.w ∷ g.k ∷ g.n ∷ roots ∷ []) × (line ≡ heap_line g.w g.k g.n roots) × (IsHeapSize g roots → ⊥)

-- why a session doesn't do a line: it isn't of its form, its sizes are outside the limits, or memory is out
abbrev pub IsReason : Session → List ℕ → Wrong → Type 0
IsReason Begun line (Line expected) = (IsHeapLine line → ⊥) × (expected ≡ Heap)
IsReason (Open i n) line (Line expected) = IsCommandLine line → ⊥
IsReason Begun line (Fault OutOfRange) = IsOutOfRange line
IsReason s line (Fault Memory) = ⊤
IsReason s line (Fault _) = ⊥

-- WHAT AN ERROR SAYS: the line is no comment, and this is why it isn't done
abbrev pub IsWrong : Session → List ℕ → Wrong → Type 0
IsWrong s line wrong = (IsComment line → ⊥) × IsReason s line wrong

-- how many commands are done
abbrev pub commands_of : Session → ℕ
commands_of Begun = 0
commands_of (Open i n) = n

-- the image of the heap, once it has sizes
abbrev pub image_of : Session → Option Image
image_of Begun = None
image_of (Open i n) = Some i

-- the line asks a session that has sizes for a pause with this budget
abbrev pub AsksPause : Session → List ℕ → ℕ → Type 0
AsksPause Begun line budget = ⊥
AsksPause (Open i n) line budget = (budget < 2 ^ 64) × (line ≡ command_line (Pause budget))

-- the steps are those of this pause of the session's heap
abbrev pub AreStepsFor : Cost → Choice → Session → Steps → Type 0
AreStepsFor cost choice s steps = (i : Image) × (image_of s ≡ Some i) × AreStepsOf cost choice i steps
