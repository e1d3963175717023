-- The laws that public functions of this crate prove.
use Rattle.std.specs.Prelude.{◌≡◌, ◌↔◌, ◌⊎◌, ℕ, List, false}
use Rattle.g1_words.specs.declared.limits.Limits.TheVariants.{Wide}
use Rattle.g1_words.specs.declared.fault.Fault.{Fault}
use Rattle.g1_words.specs.Graph.{SameGraph}
use Rattle.g1_image.specs.Image.{Image, IsTextWithin, IsImageTextWithin}
use Rattle.g1_image.specs.Faults.{FaultWithin}
use Rattle.g1_image.specs.Cards.{Covered}
use Rattle.g1_choose.specs.Named.{AreTakeable}
use Rattle.g1_kept.specs.Keeps.{Keeps}
use Rattle.g1judge.specs.declared.verdict.Verdict.{Verdict}
use Rattle.g1judge.specs.declared.verdict.Verdict.TheVariants.{Memory}
use Rattle.g1judge.specs.Judged.{JudgesPair, JudgesImage, JudgesCover, JudgesKept}
use Rattle.g1judge.specs.Answered.{status_of}
use Rattle.g1judge.specs.Stale.{ShowsStale}

-- the bytes are the texts of two images that show one graph from their roots
abbrev pub ShowOneGraph : List ℕ → List ℕ → Type 0
ShowOneGraph before after = (g : Image) × (h : Image) × IsTextWithin Wide before g × IsTextWithin Wide after h × SameGraph g.heap h.heap

-- the bytes are the texts of two images that do not
abbrev pub ShowTwoGraphs : List ℕ → List ℕ → Type 0
ShowTwoGraphs before after = (g : Image) × (h : Image) × IsTextWithin Wide before g × IsTextWithin Wide after h × (SameGraph g.heap h.heap → ⊥)

-- the first bytes are an image's text, and the second show their stale words, or another graph beside them
abbrev pub ShowStaleWords : List ℕ → List ℕ → Type 0
ShowStaleWords before after = (g : Image) × IsTextWithin Wide before g × ShowsStale g after

-- the bytes are no image's text: they have a fault
abbrev pub HasFault : List ℕ → Type 0
HasFault bytes = (e : Fault) × FaultWithin Wide bytes e

-- the bytes are the text of an image each of whose slots is covered
abbrev pub IsCoveredText : List ℕ → Type 0
IsCoveredText bytes = (i : Image) × IsTextWithin Wide bytes i × Covered i

-- the bytes are the text of an image with a slot that is not covered
abbrev pub IsBareText : List ℕ → Type 0
IsBareText bytes = (i : Image) × IsTextWithin Wide bytes i × (Covered i → ⊥)

-- the bytes are the texts of two images, the first allows the set, and the second keeps what a pause of it keeps
abbrev pub ShowKept : List ℕ → List ℕ → List ℕ → Type 0
ShowKept before after set =
    (g : Image) × (h : Image) × IsTextWithin Wide before g × IsTextWithin Wide after h × AreTakeable g.heap set × Keeps false set g.heap h.heap

-- and the second does not keep it
abbrev pub ShowLost : List ℕ → List ℕ → List ℕ → Type 0
ShowLost before after set =
    (g : Image) × (h : Image) × IsTextWithin Wide before g × IsTextWithin Wide after h × AreTakeable g.heap set × (Keeps false set g.heap h.heap → ⊥)

-- the bytes are the texts of two images, and the first does not allow the set
abbrev pub ShowNoSet : List ℕ → List ℕ → List ℕ → Type 0
ShowNoSet before after set = (g : Image) × (h : Image) × IsTextWithin Wide before g × IsTextWithin Wide after h × (AreTakeable g.heap set → ⊥)

-- what the status of g1_same says, each way round
pub record SaysOfPair (before after : List ℕ) (status : ℕ) : Type 0 where
  pub zero : (status ≡ 0) ↔ ShowOneGraph before after
  pub one : (status ≡ 1) ↔ (ShowTwoGraphs before after ⊎ ShowStaleWords before after)
  pub three : (status ≡ 3) ↔ (HasFault before ⊎ (HasFault after × (ShowStaleWords before after → ⊥)))
  pub no_other : (status ≡ 0) ⊎ (status ≡ 1) ⊎ (status ≡ 3)

-- what the status of g1_image says
pub record SaysOfImage (bytes : List ℕ) (status : ℕ) : Type 0 where
  pub zero : (status ≡ 0) ↔ IsImageTextWithin Wide bytes
  pub three : (status ≡ 3) ↔ HasFault bytes
  pub no_other : (status ≡ 0) ⊎ (status ≡ 3)

-- what the status of g1_covered says
pub record SaysOfCover (bytes : List ℕ) (status : ℕ) : Type 0 where
  pub zero : (status ≡ 0) ↔ IsCoveredText bytes
  pub three : (status ≡ 3) ↔ HasFault bytes
  pub four : (status ≡ 4) ↔ IsBareText bytes
  pub no_other : (status ≡ 0) ⊎ (status ≡ 3) ⊎ (status ≡ 4)

-- what the status of g1_kept says
pub record SaysOfKept (before after set : List ℕ) (status : ℕ) : Type 0 where
  pub zero : (status ≡ 0) ↔ ShowKept before after set
  pub one : (status ≡ 1) ↔ ShowLost before after set
  pub three : (status ≡ 3) ↔ (HasFault before ⊎ HasFault after)
  pub five : (status ≡ 5) ↔ ShowNoSet before after set
  pub no_other : (status ≡ 0) ⊎ (status ≡ 1) ⊎ (status ≡ 3) ⊎ (status ≡ 5)

-- where memory was not refused, the status of a verdict is exactly what the bytes are
abbrev pub PairStatus : Type 0
PairStatus = (before after : List ℕ) (v : Verdict) → JudgesPair before after v → (v ≡ Memory) ⊎ SaysOfPair before after (status_of v)

abbrev pub ImageStatus : Type 0
ImageStatus = (bytes : List ℕ) (v : Verdict) → JudgesImage bytes v → (v ≡ Memory) ⊎ SaysOfImage bytes (status_of v)

abbrev pub CoverStatus : Type 0
CoverStatus = (bytes : List ℕ) (v : Verdict) → JudgesCover bytes v → (v ≡ Memory) ⊎ SaysOfCover bytes (status_of v)

abbrev pub KeptStatus : Type 0
KeptStatus = (before after set : List ℕ) (v : Verdict) → JudgesKept before after set v
    → (v ≡ Memory) ⊎ SaysOfKept before after set (status_of v)

-- 6 is the status of memory alone
abbrev pub MemoryStatus : Type 0
MemoryStatus = (v : Verdict) → (status_of v ≡ 6) ↔ (v ≡ Memory)
