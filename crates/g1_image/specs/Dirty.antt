-- Cards that are put behind those of a log.
use Rattle.std.specs.Prelude.{ℕ, List, [], ◌∷◌, ◌++◌, if◌then◌else◌}
use Rattle.g1_words.specs.Lists.{has}
use Rattle.g1_image.specs.Image.{Image}

-- the log with one card behind, unless it is there already
abbrev pub with_dirty_card : List ℕ → ℕ → List ℕ
with_dirty_card log c = if has log c then log else (log ++ c ∷ [])

-- the log with these cards behind, each unless it is there already
abbrev pub with_dirty_cards : List ℕ → List ℕ → List ℕ
with_dirty_cards log [] = log
with_dirty_cards log (c ∷ cards) = with_dirty_cards (with_dirty_card log c) cards

-- the image with another log
abbrev pub with_log : Image → List ℕ → Image
with_log i log = record { heap = i.heap; remembered = i.remembered; log = log }

-- the image with these cards dirty, too
abbrev pub dirtied : Image → List ℕ → Image
dirtied i cards = with_log i (with_dirty_cards i.log cards)
