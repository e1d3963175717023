-- The plain store: objects have numbers, never move and are never freed.
use Rattle.std.specs.Prelude.{◌≡◌, ◌⊎◌, ℕ, suc, List, [], ◌∷◌, ◌++◌, length, replicate, slice_index_or, slice_set, Contains}
use Rattle.g1_trace.specs.declared.command.Command.{Command}
use Rattle.g1_trace.specs.declared.command.Reply.{Reply}
use Rattle.g1_trace.specs.declared.command.Reply.TheVariants.{Full, Room}
use Rattle.g1_trace.specs.Commands.{View, Effect, Nothing, SetRoot, SetSlot, SetValue, MakeNew, MakePause, answer_of}

-- an object: its slots and its data words
pub record Stored : Type 0 where
  pub slots : List ℕ
  pub values : List ℕ

-- all objects ever made, by number, and the roots
pub record Store : Type 0 where
  pub objects : List Stored
  pub roots : List ℕ

-- past the last object there is an empty one
abbrev pub no_object : Stored
no_object = record { slots = []; values = [] }

-- the object of a number
abbrev pub object : Store → ℕ → Stored
object s m = slice_index_or s.objects m no_object

-- what a command sees of the store
abbrev pub store_view : Store → View
store_view s = record { roots = s.roots; slots = λ m. (object s m).slots; values = λ m. (object s m).values }

-- the store after an effect; a pause changes nothing
abbrev pub store_after : Store → Effect → Store
store_after s Nothing = s
store_after s (SetRoot r x) = record s { roots = slice_set s.roots r x }
store_after s (SetSlot m p x) = record s { objects = slice_set s.objects m (record { slots = slice_set (object s m).slots p x; values = (object s m).values }) }
store_after s (SetValue m p x) = record s { objects = slice_set s.objects m (record { slots = (object s m).slots; values = slice_set (object s m).values p x }) }
store_after s (MakeNew r refs words) =
    record { objects = s.objects ++ record { slots = replicate refs 0; values = replicate words 0 } ∷ []; roots = slice_set s.roots r (suc (length s.objects)) }
store_after s (MakePause b) = s

-- by which replies a new object and a pause may be turned down, and then nothing changes
abbrev pub refusals : Effect → List Reply
refusals (MakeNew r refs words) = Full ∷ []
refusals (MakePause b) = Room ∷ []
refusals _ = []

-- ONE COMMAND on the plain store
abbrev pub IsPlainStep : Store → Command → Reply → Store → Type 0
IsPlainStep s c reply t =
    let a = answer_of (store_view s) c in
    ((reply ≡ a.reply) × (t ≡ store_after s a.effect)) ⊎ (Contains (refusals a.effect) reply × (t ≡ s))
