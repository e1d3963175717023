-- What bytes are found to be.
use Rattle.std.specs.Prelude.{◌≡◌, ◌≢◌, ℕ, ◌⊎◌, List, length, slice_index, ◌∷◌, sum_by, false}
use Rattle.g1_words.specs.declared.limits.Limits.TheVariants.{Wide}
use Rattle.g1_words.specs.declared.fault.Fault.{Fault}
use Rattle.g1_words.specs.declared.fault.Fault.TheVariants as fault
use Rattle.g1_words.specs.Heap.{Heap, object_at}
use Rattle.g1_words.specs.Graph.{SameGraph}
use Rattle.g1_image.specs.Image.{Image, IsTextWithin, IsImageTextWithin}
use Rattle.g1_image.specs.Faults.{FaultWithin}
use Rattle.g1_image.specs.Cards.{Covered, uncovered}
use Rattle.g1_choose.specs.Named.{AreTakeable, IsFirstBad}
use Rattle.g1_same.specs.declared.difference.Difference.{Difference}
use Rattle.g1_same.specs.Same.{IsFirstDifference, IsRenaming}
use Rattle.g1_same.specs.declared.comparing_stale.Earliest.TheVariants as earliest
use Rattle.g1_same.specs.Earliest.{IsEarliestOf}
use Rattle.g1_kept.specs.declared.lost.Lost.{Lost}
use Rattle.g1_kept.specs.Keeps.{Keeps}
use Rattle.g1_kept.specs.Lost.{IsLoss}
use Rattle.g1_kept.specs.Order.{IsEarliestLoss}
use Rattle.g1_same.specs.declared.ending.Ends.{Ends}
use Rattle.g1_same.specs.Ends.{AreEnds}
use Rattle.g1judge.specs.declared.verdict.Verdict.{Verdict}
use Rattle.g1judge.specs.declared.verdict.Verdict.TheVariants.{Good, Same, Differ, Stale, NoImage, Uncovered, Loss, NoSet, Memory}
use Rattle.g1judge.specs.Stale.{IsStaleText, ShowsStale}

-- the words of the objects at these addresses, together
abbrev pub words_of : Heap → List ℕ → ℕ
words_of h l = sum_by (λ a. (object_at h a).size) l

-- two heaps show one graph, and the roots reach so many objects and words
abbrev pub ShowSame : Heap → Heap → ℕ → ℕ → Type 0
ShowSame g h objects words = (olds : List ℕ) × (news : List ℕ) × IsRenaming g h olds news × (objects ≡ length olds) × (words ≡ words_of g olds)

-- two heaps do not show one graph, this is their first difference, and there its path ends
pub record ShowOther (g h : Heap) (d : Difference) (e : Ends) : Type 0 where
  pub first : IsFirstDifference g h d
  pub ends : AreEnds g h d e
  pub never : SameGraph g h → ⊥

-- what two images are to each other
abbrev pub JudgesImages : Image → Image → Verdict → Type 0
JudgesImages g h (Same objects words) = ShowSame g.heap h.heap objects words
JudgesImages g h (Differ d e) = ShowOther g.heap h.heap d e
JudgesImages g h Memory = Unit {0}
JudgesImages g h _ = ⊥

-- what a heap is to one with these stale words: the first difference, or the stale word that comes before all
abbrev pub JudgesStale : Heap → Heap → List (ℕ × ℕ) → List (ℕ × ℕ) → Verdict → Type 0
JudgesStale g h roots slots (Differ d e) = IsEarliestOf g h roots slots (earliest.Differ d) × AreEnds g h d e
JudgesStale g h roots slots (Stale end) = IsEarliestOf g h roots slots (earliest.Stale end)
JudgesStale g h roots slots Memory = Unit {0}
JudgesStale g h roots slots _ = ⊥

-- what an image is to the one of these bytes, by its stale words too
abbrev pub IsBesideStale : Image → List ℕ → Verdict → Type 0
IsBesideStale g after v =
    (h : Image) × (roots : List (ℕ × ℕ)) × (slots : List (ℕ × ℕ)) × IsStaleText after h roots slots × JudgesStale g.heap h.heap roots slots v

-- what an image is to bytes: they are an image's text, or they have stale words and no other fault, or they are refused for their fault
abbrev pub JudgesAfter : Image → List ℕ → Verdict → Type 0
JudgesAfter g after (Same objects words) = (h : Image) × IsTextWithin Wide after h × ShowSame g.heap h.heap objects words
JudgesAfter g after (Differ d e) = ((h : Image) × IsTextWithin Wide after h × ShowOther g.heap h.heap d e) ⊎ IsBesideStale g after (Differ d e)
JudgesAfter g after (Stale end) = IsBesideStale g after (Stale end)
JudgesAfter g after (NoImage image e) = (image ≡ 2) × FaultWithin Wide after e × (ShowsStale g after → ⊥)
JudgesAfter g after Memory = Unit {0}
JudgesAfter g after _ = ⊥

-- what an image is by its slots
abbrev pub JudgesSlots : Image → Verdict → Type 0
JudgesSlots i Good = Covered i
JudgesSlots i (Uncovered slot) = (others : List ℕ) × (uncovered i ≡ slot ∷ others)
JudgesSlots i Memory = Unit {0}
JudgesSlots i _ = ⊥

-- a heap does not keep what a pause of the set keeps of another one, and this is lost
pub record Loses (set : List ℕ) (g h : Heap) (l : Lost) : Type 0 where
  pub is : IsLoss false set g h l
  pub earliest : IsEarliestLoss false set g h l
  pub never : Keeps false set g h → ⊥

-- what a heap keeps of another one
abbrev pub JudgesLoss : List ℕ → Heap → Heap → Verdict → Type 0
JudgesLoss set g h Good = Keeps false set g h
JudgesLoss set g h (Loss l) = Loses set g h l
JudgesLoss set g h Memory = Unit {0}
JudgesLoss set g h _ = ⊥

-- the first region of a set that the heap does not allow
abbrev pub IsRefused : Heap → List ℕ → ℕ → Type 0
IsRefused h set region = (i : ℕ) × IsFirstBad h set i × (region ≡ slice_index set i)

-- the same of two images and a set that the first allows, else the first region of the set that it does not allow
abbrev pub JudgesSet : Image → Image → List ℕ → Verdict → Type 0
JudgesSet g h set Good = AreTakeable g.heap set × Keeps false set g.heap h.heap
JudgesSet g h set (Loss l) = AreTakeable g.heap set × Loses set g.heap h.heap l
JudgesSet g h set (NoSet region) = IsRefused g.heap set region
JudgesSet g h set Memory = Unit {0}
JudgesSet g h set _ = ⊥

-- bytes that were not read to an image
abbrev pub IsUnread : ℕ → Fault → Verdict → Type 0
IsUnread which e (NoImage image f) = (image ≡ which) × (f ≡ e) × (e ≢ fault.Memory)
IsUnread which e Memory = e ≡ fault.Memory
IsUnread which e _ = ⊥

-- the fault is that of the first of two byte strings, or the first is an image's text and the fault is that of the second
abbrev pub IsPairFault : List ℕ → List ℕ → ℕ → Fault → Type 0
IsPairFault before after image e = ((image ≡ 1) × FaultWithin Wide before e) ⊎ ((image ≡ 2) × IsImageTextWithin Wide before × FaultWithin Wide after e)

-- two byte strings that were not read to two images
abbrev pub AreUnread : List ℕ → List ℕ → Verdict → Type 0
AreUnread before after (NoImage image e) = IsPairFault before after image e
AreUnread before after Memory = Unit {0}
AreUnread before after _ = ⊥

-- THE VERDICT of two byte strings: the fault of the first, or what its image is to the second. Memory may be refused at any time.
abbrev pub JudgesPair : List ℕ → List ℕ → Verdict → Type 0
JudgesPair before after (NoImage image e) = ((image ≡ 1) × FaultWithin Wide before e) ⊎ ((g : Image) × IsTextWithin Wide before g × JudgesAfter g after (NoImage image e))
JudgesPair before after Memory = Unit {0}
JudgesPair before after v = (g : Image) × IsTextWithin Wide before g × JudgesAfter g after v

-- THE VERDICT of bytes: an image's text, or their fault
abbrev pub JudgesImage : List ℕ → Verdict → Type 0
JudgesImage bytes Good = IsImageTextWithin Wide bytes
JudgesImage bytes (NoImage image e) = (image ≡ 1) × FaultWithin Wide bytes e
JudgesImage bytes Memory = Unit {0}
JudgesImage bytes _ = ⊥

-- THE VERDICT of bytes on cover: a covered image's text, or an image's with the lowest slot that is not covered, or their fault
abbrev pub JudgesCover : List ℕ → Verdict → Type 0
JudgesCover bytes Good = (i : Image) × IsTextWithin Wide bytes i × Covered i
JudgesCover bytes (Uncovered slot) = (i : Image) × IsTextWithin Wide bytes i × (others : List ℕ) × (uncovered i ≡ slot ∷ others)
JudgesCover bytes (NoImage image e) = (image ≡ 1) × FaultWithin Wide bytes e
JudgesCover bytes Memory = Unit {0}
JudgesCover bytes _ = ⊥

-- THE VERDICT of two byte strings on what the second keeps of the first
abbrev pub JudgesKept : List ℕ → List ℕ → List ℕ → Verdict → Type 0
JudgesKept before after set (NoImage image e) = IsPairFault before after image e
JudgesKept before after set Memory = Unit {0}
JudgesKept before after set v = (g : Image) × (h : Image) × IsTextWithin Wide before g × IsTextWithin Wide after h × JudgesSet g h set v
