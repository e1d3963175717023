-- The text of a trace: each trace has one, and bytes that are no trace's text have a first bad line.
use Rattle.std.specs.Prelude.{◌≡◌, ◌⊎◌, ℕ, zero, suc, List, [], ◌∷◌, ◌++◌, ◌+◌, ◌^◌, ◌<◌, length, flat_map, decimal, codes, Contains, All, ⊤}
use Rattle.g1_words.specs.Geometry.{Geometry}
use Rattle.g1_trace.specs.declared.command.Command.{Command}
use Rattle.g1_trace.specs.declared.command.Command.TheVariants.{New, Get, Put, Set, Say, Same, Copy, Drop, Pause}
use Rattle.g1_trace.specs.declared.trace.Trace.{Trace}

-- the numbers of a line, each in decimal after one space
abbrev pub spaced : List ℕ → List ℕ
spaced [] = []
spaced (x ∷ xs) = 32 ∷ (decimal x ++ spaced xs)

-- a command's word: `new`, `get`, `put`, `set`, `say`, `same`, `copy`, `drop`, `pause`
abbrev pub name_of : Command → List ℕ
name_of (New r refs words) = codes "new"
name_of (Get r q m) = codes "get"
name_of (Put r m q) = codes "put"
name_of (Set r m x) = codes "set"
name_of (Say r m) = codes "say"
name_of (Same r q) = codes "same"
name_of (Copy r q) = codes "copy"
name_of (Drop r) = codes "drop"
name_of (Pause b) = codes "pause"

-- its numbers, in the order of the line
abbrev pub numbers_of : Command → List ℕ
numbers_of (New r refs words) = r ∷ refs ∷ words ∷ []
numbers_of (Get r q m) = r ∷ q ∷ m ∷ []
numbers_of (Put r m q) = r ∷ m ∷ q ∷ []
numbers_of (Set r m x) = r ∷ m ∷ x ∷ []
numbers_of (Say r m) = r ∷ m ∷ []
numbers_of (Same r q) = r ∷ q ∷ []
numbers_of (Copy r q) = r ∷ q ∷ []
numbers_of (Drop r) = r ∷ []
numbers_of (Pause b) = b ∷ []

-- every number has 64 bits
abbrev pub AllFit : List ℕ → Type 0
AllFit xs = All (λ x. x < 2 ^ 64) xs

-- the line of a command, without its end
abbrev pub command_line : Command → List ℕ
command_line c = name_of c ++ spaced (numbers_of c)

-- a first line, without its end: `heap` and four numbers
abbrev pub heap_line : ℕ → ℕ → ℕ → ℕ → List ℕ
heap_line w k n roots = codes "heap" ++ spaced (w ∷ k ∷ n ∷ roots ∷ [])

-- the lines, each ended
abbrev pub ended : List (List ℕ) → List ℕ
ended lines = flat_map (λ line. line ++ 10 ∷ []) lines

-- THE RELATION: the bytes are the text of a first line with these sizes and so many roots, and of these commands
pub record IsText (bytes : List ℕ) (g : Geometry) (roots : ℕ) (commands : List Command) : Type 0 where
  pub text : bytes ≡ (heap_line g.w g.k g.n roots ++ 10 ∷ []) ++ flat_map (λ c. command_line c ++ 10 ∷ []) commands
  pub first : AllFit (g.w ∷ g.k ∷ g.n ∷ roots ∷ [])
  pub later : All (λ c. AllFit (numbers_of c)) commands

-- the sizes that a trace's first line tells
abbrev pub sizes : Trace → Geometry
sizes t = record { w = t.w; k = t.k; n = t.n }

-- the bytes are the trace's text
abbrev pub IsTraceText : List ℕ → Trace → Type 0
IsTraceText bytes t = IsText bytes (sizes t) t.roots t.commands.items

-- a line of a command's form
abbrev pub IsCommandLine : List ℕ → Type 0
IsCommandLine line = (c : Command) × AllFit (numbers_of c) × (line ≡ command_line c)

-- a line of the first line's form
abbrev pub IsHeapLine : List ℕ → Type 0
IsHeapLine line = (w : ℕ) × (k : ℕ) × (n : ℕ) × (roots : ℕ) × AllFit (w ∷ k ∷ n ∷ roots ∷ []) × (line ≡ heap_line w k n roots)

-- a line of its form, by how many lines stand before it
abbrev pub IsLineAt : ℕ → List ℕ → Type 0
IsLineAt zero line = IsHeapLine line
IsLineAt (suc m) line = IsCommandLine line

-- lines of their form, the first of them after m others
abbrev pub AreLines : ℕ → List (List ℕ) → Type 0
AreLines m [] = ⊤
AreLines m (line ∷ lines) = IsLineAt m line × AreLines (suc m) lines

-- what is left begins with a line that isn't of its form, or isn't ended; where nothing is left, a first line is wanted
abbrev pub IsBadRest : ℕ → List ℕ → Type 0
IsBadRest m rest =
    ((Contains rest 10 → ⊥) × ((0 < length rest) ⊎ (m ≡ 0)))
    ⊎ ((line : List ℕ) × (more : List ℕ) × (rest ≡ line ++ 10 ∷ more) × (Contains line 10 → ⊥) × (IsLineAt m line → ⊥))

-- THE FIRST BAD LINE of bytes is line n, from 1
pub record IsFirstBadLine (bytes : List ℕ) (n : ℕ) : Type 0 where
  pub good : List (List ℕ)
  pub rest : List ℕ
  pub split : bytes ≡ ended good ++ rest
  pub are_lines : AreLines 0 good
  pub number : n ≡ length good + 1
  pub bad : IsBadRest (length good) rest
