-- A place in each remembered set, which moves on while the slots are asked by rising address.
use Rattle.std.specs.Prelude.{◌≡◌, ◌≤◌, ◌<◌, ℕ, List, length, slice_index}
use Rattle.g1_words.specs.declared.object.Object.{Object}
use Rattle.g1_words.specs.Heap.{card_of}
use Rattle.g1_image.specs.Image.{Image, remembered_of}
use Rattle.g1_rem.specs.Marks.{Chain}

-- all cards before the place are below one
pub record IsBehind (set : List ℕ) (place card : ℕ) : Type 0 where
  pub within : place ≤ length set
  pub below : (k : ℕ) → k < place → slice_index set k < card

-- in each region's remembered set, all cards before its place are below that of an address
pub record AreBehind (i : Image) (places : List ℕ) (p : ℕ) : Type 0 where
  pub one_each : length places ≡ i.heap.geometry.n
  pub each : (r : ℕ) → r < i.heap.geometry.n → IsBehind (remembered_of i r) (slice_index places r) (card_of i.heap p)

-- the same, before all slots of these objects
pub record AreReadyFor (i : Image) (places : List ℕ) (os : List Object) : Type 0 where
  pub from : ℕ
  pub behind : AreBehind i places from
  pub ahead : Chain from os
