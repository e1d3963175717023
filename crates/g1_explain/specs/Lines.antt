-- The lines of what keeps an object.
use Rattle.std.specs.Prelude.{ℕ, if◌then◌else◌, List, [], ◌∷◌, ◌++◌, map, flat_map, decimal, codes}
use Rattle.g1_words.specs.declared.object.Object.{Object}
use Rattle.g1_words.specs.Heap.{Heap, pinned, region_of}
use Rattle.g1_words.specs.Lists.{has}
use Rattle.g1_image.specs.Image.{Image, remembered_of}
use Rattle.g1_explain.specs.declared.finder.Finder.{Finder}
use Rattle.g1_explain.specs.declared.finder.Finder.TheVariants.{Root, Card, Object as Slot}
use Rattle.g1_explain.specs.declared.paths.Leg.{Leg}
use Rattle.g1_explain.specs.declared.paths.Entry.{Entry}
use Rattle.g1_explain.specs.declared.paths.Reason.{Reason}
use Rattle.g1_explain.specs.declared.paths.Reason.TheVariants as reason

-- root I, or card C slot P, or object A slot J
abbrev pub finder_words : Finder → List (List ℕ)
finder_words (Root k) = codes "root" ∷ decimal k ∷ []
finder_words (Card c p) = codes "card" ∷ decimal c ∷ codes "slot" ∷ decimal p ∷ []
finder_words (Slot m a s) = codes "object" ∷ decimal a ∷ codes "slot" ∷ decimal s ∷ []

-- the same on a path, which knows the object before: slot J
abbrev pub step_words : Finder → List (List ℕ)
step_words (Root k) = codes "root" ∷ decimal k ∷ []
step_words (Card c p) = codes "card" ∷ decimal c ∷ codes "slot" ∷ decimal p ∷ []
step_words (Slot m a s) = codes "slot" ∷ decimal s ∷ []

-- WORD A SIZE/SLOTS
abbrev pub object_words : List ℕ → Object → List (List ℕ)
object_words word o = word ∷ decimal o.at ∷ (decimal o.size ++ 47 ∷ decimal o.refs) ∷ []

-- object A SIZE/SLOTS by FINDER
abbrev pub leg_line : Leg → List (List ℕ)
leg_line l = object_words (codes "object") l.object ++ codes "by" ∷ finder_words l.finder

-- WORD A root I slot J .., or WORD A card C slot P slot J ..
abbrev pub path_line : List ℕ → ℕ → List Leg → List (List ℕ)
path_line word a legs = word ∷ decimal a ∷ flat_map (λ l. step_words l.finder) legs

-- card C remembered R, or card C dirty
abbrev pub card_line : Image → ℕ → ℕ → List (List ℕ)
card_line i r c = codes "card" ∷ decimal c ∷ (if has (remembered_of i r) c then codes "remembered" ∷ decimal r ∷ [] else codes "dirty" ∷ [])

-- holder B SIZE/SLOTS slot P
abbrev pub holder_line : Entry → List (List ℕ)
holder_line e = object_words (codes "holder") e.holder ++ codes "slot" ∷ decimal e.slot ∷ []

-- pinned R, if the region is
abbrev pub pin_lines : Heap → ℕ → List (List (List ℕ))
pin_lines h r = if pinned h r then (codes "pinned" ∷ decimal r ∷ []) ∷ [] else []

-- THE LINES of what keeps the object at an address
abbrev pub reason_lines : Image → ℕ → Reason → List (List (List ℕ))
reason_lines i a (reason.Live legs) = path_line (codes "live") a legs.items ∷ map leg_line legs.items
reason_lines i a (reason.Kept entry legs) =
    path_line (codes "kept") a legs.items ∷ card_line i (region_of i.heap a) entry.card ∷ holder_line entry ∷ (map leg_line legs.items ++ pin_lines i.heap (region_of i.heap a))
reason_lines i a reason.Garbage = (codes "garbage" ∷ decimal a ∷ []) ∷ pin_lines i.heap (region_of i.heap a)
