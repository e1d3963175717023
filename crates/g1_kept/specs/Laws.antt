-- The laws that public functions of this crate prove.
use Rattle.std.specs.Prelude.{◌≡◌, ◌<◌, ◌+◌, ◌*◌, ◌↔◌, Bool, List, ℕ}
use Rattle.g1_words.specs.declared.region.Kind.TheVariants.{Free, HumongousFirst}
use Rattle.g1_words.specs.Heap.{Heap, kind, start, object_at}
use Rattle.g1_words.specs.Valid.{IsValid}
use Rattle.g1_words.specs.Layout.{HasRoom}
use Rattle.g1_words.specs.Graph.{SameGraph}
use Rattle.g1_image.specs.Image.{Image}
use Rattle.g1_after.specs.Paused.{IsPaused}
use Rattle.g1_kept.specs.declared.lost.Lost.{Lost}
use Rattle.g1_kept.specs.Keeps.{Keeps}
use Rattle.g1_kept.specs.Lost.{IsLoss}
use Rattle.g1_kept.specs.Order.{IsEarliestLoss}

-- the image after a pause of a set keeps what a pause of the set keeps
abbrev pub PauseKeeps : Type 0
PauseKeeps = (fill : Bool) (i : Image) (set l : List ℕ) (j : Image) → IsValid i.heap → HasRoom i.heap set l → IsPaused i set l j → Keeps fill set i.heap j.heap

-- a heap that keeps this shows the same graph
abbrev pub KeepsGraph : Type 0
KeepsGraph = (fill : Bool) (set : List ℕ) (g h : Heap) → IsValid g → IsValid h → Keeps fill set g h → SameGraph g h

-- and nothing of it is lost
abbrev pub NothingLost : Type 0
NothingLost = (fill : Bool) (set : List ℕ) (g h : Heap) (l : Lost) → IsValid g → IsValid h → Keeps fill set g h → IsLoss fill set g h l → ⊥

-- of a humongous object's run all regions are free or none
abbrev pub FreesRuns : Type 0
FreesRuns = (fill : Bool) (set : List ℕ) (g h : Heap) (r i : ℕ) → IsValid g → IsValid h → Keeps fill set g h
    → r < g.geometry.n → kind g r ≡ HumongousFirst → i * g.geometry.w < (object_at g (start g r)).size
    → (kind h (r + i) ≡ Free) ↔ (kind h r ≡ Free)

-- two heaps have one first loss
abbrev pub OneLoss : Type 0
OneLoss = (fill : Bool) (set : List ℕ) (g h : Heap) (l m : Lost) → IsValid g → IsValid h
    → IsLoss fill set g h l → IsEarliestLoss fill set g h l → IsLoss fill set g h m → IsEarliestLoss fill set g h m → l ≡ m
