-- The text of the replies to a trace.
use Rattle.std.specs.Prelude.{◌≡◌, ◌⊎◌, ℕ, List, [], ◌∷◌, ◌++◌, flat_map, decimal, codes}
use Rattle.g1_words.specs.declared.fault.Fault.{Fault}
use Rattle.g1_words.specs.declared.fault.Fault.TheVariants.{Memory, Line, Geometry as Outside}
use Rattle.g1_words.specs.Geometry.{Geometry}
use Rattle.g1_image.specs.Image.{Image}
use Rattle.g1_choose.specs.declared.parameters.Cost.{Cost}
use Rattle.g1_trace.specs.declared.command.Command.{Command}
use Rattle.g1_trace.specs.declared.command.Reply.{Reply}
use Rattle.g1_trace.specs.declared.command.Reply.TheVariants.{Ok, Full, Range, Null, Room, Number}
use Rattle.g1_trace.specs.Run.{IsRun, empty_image}
use Rattle.g1_trace.specs.Running.{IsHeapSize}
use Rattle.g1_trace.specs.TraceText.{AllFit, heap_line, IsText, IsFirstBadLine}

-- the line of a reply: its word, or its number in decimal digits, and the end of the line
abbrev pub reply_line : Reply → List ℕ
reply_line Ok = codes "ok\n"
reply_line Full = codes "full\n"
reply_line Range = codes "range\n"
reply_line Null = codes "null\n"
reply_line Room = codes "room\n"
reply_line (Number x) = decimal x ++ 10 ∷ []

-- the lines of replies, in their order
abbrev pub reply_lines : List Reply → List ℕ
reply_lines replies = flat_map reply_line replies

-- THE TEXT OF A RUN: the bytes are a trace's text, its first line is within the limits, and the answer tells the replies of its run
pub record IsTold (cost : Cost) (bytes answer : List ℕ) : Type 0 where
  pub sizes : Geometry
  pub roots : ℕ
  pub commands : List Command
  pub replies : List Reply
  pub text : IsText bytes sizes roots commands
  pub limits : IsHeapSize sizes roots
  pub run : IsRun cost sizes roots commands replies
  pub told : answer ≡ reply_lines replies

-- the bytes are the text of a trace whose first line has a number outside the limits
pub record IsOutsideLimits (bytes : List ℕ) : Type 0 where
  pub sizes : Geometry
  pub roots : ℕ
  pub commands : List Command
  pub text : IsText bytes sizes roots commands
  pub outside : IsHeapSize sizes roots → ⊥

-- why bytes have no text of replies: memory, the first line that isn't of its form, or a number outside the limits
abbrev pub IsRefusal : List ℕ → Fault → Type 0
IsRefusal bytes fault = (fault ≡ Memory) ⊎ (((n : ℕ) × (fault ≡ Line n) × IsFirstBadLine bytes n) ⊎ ((fault ≡ Outside) × IsOutsideLimits bytes))

-- the bytes are a first line with these sizes and so many roots, and the rest
pub record BeginsWith (bytes : List ℕ) (g : Geometry) (roots : ℕ) (rest : List ℕ) : Type 0 where
  pub text : bytes ≡ (heap_line g.w g.k g.n roots ++ 10 ∷ []) ++ rest
  pub first : AllFit (g.w ∷ g.k ∷ g.n ∷ roots ∷ [])

-- the bytes begin with a first line that is within the limits: the image that its run starts from, and the lines to run
pub record IsBegun (bytes : List ℕ) (i : Image) (rest : List ℕ) : Type 0 where
  pub sizes : Geometry
  pub roots : ℕ
  pub begins : BeginsWith bytes sizes roots rest
  pub limits : IsHeapSize sizes roots
  pub start : i ≡ empty_image sizes roots

-- the bytes begin with a first line that has a number outside the limits
pub record BeginsOutside (bytes : List ℕ) : Type 0 where
  pub sizes : Geometry
  pub roots : ℕ
  pub rest : List ℕ
  pub begins : BeginsWith bytes sizes roots rest
  pub outside : IsHeapSize sizes roots → ⊥
