-- The laws that public functions of this crate prove.
use Rattle.std.specs.Prelude.{◌≡◌, ◌⊎◌, ℕ, List, ◌^◌, ◌<◌, ◌≤◌, ⊤}
use Rattle.std.specs.List.{AllByRecursion}
use Rattle.g1_words.specs.Geometry.{Geometry, IsWithinLimits, most_roots}
use Rattle.g1_image.specs.Image.{Image}
use Rattle.g1_image.specs.Cards.{IsTracked}
use Rattle.g1_choose.specs.declared.parameters.Cost.{Cost}
use Rattle.g1_trace.specs.declared.command.Command.{Command}
use Rattle.g1_trace.specs.declared.command.Command.TheVariants.{Set}
use Rattle.g1_trace.specs.declared.command.Reply.{Reply}
use Rattle.g1_trace.specs.Store.{Store, IsPlainStep}
use Rattle.g1_trace.specs.Mutator.{IsStep}
use Rattle.g1_trace.specs.TraceText.{IsText, IsFirstBadLine}
use Rattle.g1_trace.specs.Telling.{IsTold, IsOutsideLimits}
use Rattle.g1_trace.specs.Views.{Shows}
use Rattle.g1_trace.specs.Run.{Replies, IsRun, empty_store, empty_image}

-- a value that a command writes is a word of the heap
abbrev pub WritesWord : Command → Type 0
WritesWord (Set r m x) = x < 2 ^ 64
WritesWord _ = ⊤

-- a command keeps a heap and a plain store alike: what the image's step replies and does, a step of the plain store replies and does
abbrev pub StepShows : Type 0
StepShows = (cost : Cost) (s : Store) (i : Image) (c : Command) (reply : Reply) (j : Image) → IsTracked i → Shows s i.heap → IsStep cost i c reply j
    → (t : Store) × IsPlainStep s c reply t × Shows t j.heap

-- every command keeps an image tracked: its heap valid, its cards in used regions, its references covered
abbrev pub StepKeeps : Type 0
StepKeeps = (cost : Cost) (i : Image) (c : Command) (reply : Reply) (j : Image) → WritesWord c → IsTracked i → IsStep cost i c reply j → IsTracked j

-- a command has one reply and one image after
abbrev pub OneStep : Type 0
OneStep = (cost : Cost) (i : Image) (c : Command) (reply told : Reply) (j k : Image) → IsStep cost i c reply j → IsStep cost i c told k → (reply ≡ told) × (j ≡ k)

-- every command has a step on every tracked image
abbrev pub StepExists : Type 0
StepExists = (cost : Cost) (i : Image) (c : Command) → IsTracked i → (reply : Reply) × (j : Image) × IsStep cost i c reply j

-- at the start there is nothing to show
abbrev pub StartShows : Type 0
StartShows = (g : Geometry) (roots : ℕ) → Shows (empty_store roots) (empty_image g roots).heap

-- the image that a trace starts from is tracked
abbrev pub StartTracked : Type 0
StartTracked = (g : Geometry) (roots : ℕ) → IsWithinLimits g.w g.k g.n → roots ≤ most_roots → IsTracked (empty_image g roots)

-- WHOLE TRACES: the replies of a run on images are replies of the plain store
abbrev pub WholeTraces : Type 0
WholeTraces = (cost : Cost) (g : Geometry) (roots : ℕ) (commands : List Command) (replies : List Reply) → IsWithinLimits g.w g.k g.n → roots ≤ most_roots → AllByRecursion WritesWord commands
    → Replies (IsStep cost) (empty_image g roots) commands replies → Replies IsPlainStep (empty_store roots) commands replies

-- the replies of a run are told by the trace and the cost
abbrev pub OneRun : Type 0
OneRun = (cost : Cost) (g : Geometry) (roots : ℕ) (commands : List Command) (replies told : List Reply) → IsRun cost g roots commands replies → IsRun cost g roots commands told → replies ≡ told

-- every list of commands has a run on a heap within the limits
abbrev pub RunExists : Type 0
RunExists = (cost : Cost) (g : Geometry) (roots : ℕ) (commands : List Command) → IsWithinLimits g.w g.k g.n → roots ≤ most_roots →
    AllByRecursion WritesWord commands → (replies : List Reply) × IsRun cost g roots commands replies

-- a text is that of one trace
abbrev pub OneTrace : Type 0
OneTrace = (bytes : List ℕ) (g h : Geometry) (roots more : ℕ) (commands others : List Command) → IsText bytes g roots commands →
    IsText bytes h more others → (g ≡ h) × (roots ≡ more) × (commands ≡ others)

-- a trace's text has no bad line
abbrev pub NoBadLine : Type 0
NoBadLine = (bytes : List ℕ) (g : Geometry) (roots : ℕ) (commands : List Command) (n : ℕ) → IsText bytes g roots commands → IsFirstBadLine bytes n → ⊥

-- bytes have one first bad line
abbrev pub OneBadLine : Type 0
OneBadLine = (bytes : List ℕ) (n m : ℕ) → IsFirstBadLine bytes n → IsFirstBadLine bytes m → n ≡ m

-- any bytes are a trace's text or have a first bad line
abbrev pub TextOrBadLine : Type 0
TextOrBadLine = (bytes : List ℕ) → ((g : Geometry) × (roots : ℕ) × (commands : List Command) × IsText bytes g roots commands) ⊎ ((n : ℕ) × IsFirstBadLine bytes n)

-- the text of a run's replies is told by the trace's text and the cost
abbrev pub OneTold : Type 0
OneTold = (cost : Cost) (bytes answer other : List ℕ) → IsTold cost bytes answer → IsTold cost bytes other → answer ≡ other

-- any bytes have a text of replies, a first bad line, or a number outside the limits
abbrev pub AlwaysTold : Type 0
AlwaysTold = (cost : Cost) (bytes : List ℕ) → ((answer : List ℕ) × IsTold cost bytes answer) ⊎ (((n : ℕ) × IsFirstBadLine bytes n) ⊎ IsOutsideLimits bytes)
