-- The numbers of lines, and which line says what is wrong with the bytes that lines make.
use Rattle.std.specs.Prelude.{◌≡◌, ◌≢◌, ◌⊎◌, ◌≤◌, ◌<◌, ℕ, List, ◌∷◌, [], ◌++◌, length, slice_index, All}
use Rattle.g1_words.specs.declared.fault.Fault.{Fault}
use Rattle.g1_words.specs.declared.fault.Fault.TheVariants.{Reference, Card}
use Rattle.g1_words.specs.declared.fault.Place.TheVariants.{Root, Slot}
use Rattle.g1_words.specs.declared.fault.Stand.TheVariants.{Dirty, Region}
use Rattle.g1_words.specs.declared.limits.Limits.TheVariants.{Wide}
use Rattle.g1_words.specs.Heap.{Heap, objects}
use Rattle.g1_words.specs.declared.object.Object.{Object}
use Rattle.g1_image.specs.Text.{file_text}
use Rattle.g1_image.specs.Image.{heap_of}
use Rattle.g1_image.specs.Faults.{FaultWithin}
use Rattle.g1_text.specs.Content.{Content, file_with}

-- the numbers of lines, by their first word: that of a `dirty` line as often as it has cards, and with that of a `remembered` line its region
pub record LineNumbers : Type 0 where
  pub headings : List ℕ
  pub roots : List ℕ
  pub log : List ℕ
  pub regions : List ℕ
  pub remembered : List (ℕ × ℕ)
  pub objects : List ℕ

-- the line of the last object below a slot, by the addresses of the objects, or the heading if there is none
abbrev pub IsLineBelow : LineNumbers → List ℕ → ℕ → ℕ → Type 0
IsLineBelow lines addresses slot number =
    ((k : ℕ) × (k < length lines.objects) × (number ≡ slice_index lines.objects k)
    × (slice_index addresses k < slot) × ((j : ℕ) → k < j → j < length addresses → slot ≤ slice_index addresses j))
    ⊎ (((j : ℕ) → j < length addresses → slot ≤ slice_index addresses j) × (lines.headings ≡ number ∷ []))

-- THE LINE OF A SLOT: that of the last object of the heap which starts below it. The objects, by address, have the `object` lines,
-- one after the other
pub record IsSlotLine (lines : LineNumbers) (h : Heap) (slot number : ℕ) : Type 0 where
  pub before : List Object
  pub object : Object
  pub behind : List Object
  pub place : objects h ≡ before ++ object ∷ behind
  pub below : object.at < slot
  pub last : All (λ o. slot ≤ o.at) behind
  pub there : length before < length lines.objects
  pub line : number ≡ slice_index lines.objects (length before)

-- THE LINE OF A REGION'S REMEMBERED SET: the last one that tells its cards, or the heading if none does
abbrev pub IsSetLine : LineNumbers → ℕ → ℕ → Type 0
IsSetLine lines region number =
    ((front back : List (ℕ × ℕ)) × (lines.remembered ≡ front ++ (region, number) ∷ back) × All (λ told. told.0 ≢ region) back)
    ⊎ (All (λ told. told.0 ≢ region) lines.remembered × (lines.headings ≡ number ∷ []))

-- THE BYTES WITH THE NUMBERS OF THE LINES ARE NO IMAGE: they have a fault. Of root n the n-th `root` line is reported, counted from 0;
-- of a card of the log the `dirty` line that has it, of a remembered set its last line, and of a slot that of the last object below it
pub record IsFaultyLine (lines : LineNumbers) (c : Content) (number : ℕ) : Type 0 where
  pub fault : Fault
  pub is : FaultWithin Wide (file_text (file_with c)) fault
  pub root : (n : ℕ) → fault ≡ Reference (Root n) → (n < length lines.roots) × (number ≡ slice_index lines.roots n)
  pub slot : (p : ℕ) → fault ≡ Reference (Slot p) → IsSlotLine lines (heap_of (file_with c)) p number
  pub dirty : (n : ℕ) → fault ≡ Card (Dirty n) → (n < length lines.log) × (number ≡ slice_index lines.log n)
  pub region : (r : ℕ) → fault ≡ Card (Region r) → IsSetLine lines r number
