-- Whole lists of commands, and where they start.
use Rattle.std.specs.Prelude.{ℕ, List, [], ◌∷◌, ◌*◌, replicate, None, ⊤}
use Rattle.g1_words.specs.Geometry.{Geometry}
use Rattle.g1_words.specs.Heap.{free_region}
use Rattle.g1_image.specs.Image.{Image}
use Rattle.g1_choose.specs.declared.parameters.Cost.{Cost}
use Rattle.g1_trace.specs.declared.command.Command.{Command}
use Rattle.g1_trace.specs.declared.command.Reply.{Reply}
use Rattle.g1_trace.specs.Store.{Store, IsPlainStep}
use Rattle.g1_trace.specs.Mutator.{IsStep}

-- the replies of a run, one a command, step by step from a state on
abbrev pub Replies : {S : Type 0} → (S → Command → Reply → S → Type 0) → S → List Command → List Reply → Type 0
Replies step s [] [] = ⊤
Replies step s [] (r ∷ rs) = ⊥
Replies step s (c ∷ cs) [] = ⊥
Replies {S} step s (c ∷ cs) (r ∷ rs) = (t : S) × step s c r t × Replies step t cs rs

-- a plain store without objects, all roots null
abbrev pub empty_store : ℕ → Store
empty_store roots = record { objects = []; roots = replicate roots 0 }

-- an image of free regions, all roots null
abbrev pub empty_image : Geometry → ℕ → Image
empty_image g roots = record {
  heap = record { geometry = g; words = replicate (g.n * g.w) 0; regions = replicate g.n free_region; roots = replicate roots 0; current = None };
  remembered = replicate g.n [];
  log = [];
}

-- A RUN: the replies are those of the plain store, which never moves or frees an object, and those of the heap, so that each `full` and `room` comes exactly where the heap has no place
pub record IsRun (cost : Cost) (g : Geometry) (roots : ℕ) (commands : List Command) (replies : List Reply) : Type 0 where
  pub plain : Replies IsPlainStep (empty_store roots) commands replies
  pub heap : Replies (IsStep cost) (empty_image g roots) commands replies
