-- What a pause stands on.
use Rattle.std.proofs.Common.{ℕ, List, subst}
use Rattle.g1_words.specs.Heap.{Heap}
use Rattle.g1_words.specs.Layout.{HasRoom}
use Rattle.g1_words.specs.Survivors.{AllOrdinary}
use Rattle.g1_words.specs.Valid.{IsValid}
use Rattle.g1_words.proofs.Shapes.{IsBuilt, built}
use Rattle.g1_words.proofs.Sound.{IsSound}
use Rattle.g1_words.proofs.Standing.{built_is_sound}
use Rattle.g1_image.specs.Image.{Image}
use Rattle.g1_after.specs.Made.{image_moved}
use Rattle.g1_after.specs.Moved.{IsMoved}
use Rattle.g1_after.proofs.Existence.{made_is_moved}
use Rattle.g1_layout.specs.Plan.{Plan}
use Rattle.g1_copy.specs.Plans.{IsPauseOf}

-- a heap that is built and sound, with room for the survivors, and the image after they moved
pub record Ground (i : Image) (set l : List ℕ) : Type 0 where
  pub built : IsBuilt i.heap
  pub sound : IsSound i.heap
  pub room : HasRoom i.heap set l
  pub moved : IsMoved i set l (image_moved i set l)

pub ground : (i : Image) (set l : List ℕ) → IsValid i.heap → HasRoom i.heap set l → Ground i set l
ground i set l valid room =
    let b : IsBuilt i.heap = built i.heap valid in
    record { built = b; sound = built_is_sound i.heap b; room = room; moved = made_is_moved i set l b room }

-- a pause by a plan has room
pub room_of : (h : Heap) (set : List ℕ) (p : Plan) → IsPauseOf h set p → HasRoom h set p.survivors
room_of h set p pause = record {
  ordinary = subst (AllOrdinary h) pause.same pause.made.placeable.ordinary;
  survivors = pause.survivors;
  room = pause.made.room;
}
