-- Plans that were made from a heap.
use Rattle.std.specs.Prelude.{◌≡◌, ◌≤◌, ℕ, List, Option, length, map}
use Rattle.g1_words.specs.Heap.{Heap, regions}
use Rattle.g1_words.specs.Survivors.{Survivors}
use Rattle.g1_words.specs.Layout.{need, free_regions}
use Rattle.g1_image.specs.Cards.{refined}
use Rattle.g1_image.specs.Image.{Image}
use Rattle.g1_rem.specs.Starts.{IsStartsOf}
use Rattle.g1_layout.specs.Placed.{CanPlace}
use Rattle.g1_layout.specs.Plan.{Plan, plan_of}

-- the plan was made from this heap
pub record IsPlanOf (h : Heap) (p : Plan) : Type 0 where
  pub placeable : CanPlace h p.set p.survivors
  pub room : need h p.survivors ≤ length (free_regions h)
  pub plan : p ≡ plan_of h p.set p.survivors

-- the plan was made from this heap, this set and the set's survivors
pub record IsPauseOf (h : Heap) (set : List ℕ) (p : Plan) : Type 0 where
  pub made : IsPlanOf h p
  pub same : p.set ≡ set
  pub survivors : Survivors h set p.survivors

-- a heap, and a plan by which its survivors move
pub record Moving : Type 0 where
  pub heap : Heap
  pub plan : Plan

-- the image before a pause, its collection set and its plan
pub record Pausing : Type 0 where
  pub image : Image
  pub set : List ℕ
  pub plan : Plan

-- the starts and the refined sets are those of the image, and the plan is that of the pause
pub record IsPausing (i : Image) (set : List ℕ) (p : Plan) (begins : List (Option ℕ)) (sets : List (List ℕ)) : Type 0 where
  pub starts : IsStartsOf i.heap begins
  pub remembered : sets ≡ map (refined i) (regions i.heap)
  pub plan : IsPauseOf i.heap set p
