-- The line of the last object below a slot, as objects are gone through, and by the objects of the heap.
use Rattle.std.proofs.Common.{◌≡◌, ◌≤◌, ◌<◌, ◌⊎◌, inl, inr, ℕ, ◌+◌, List, [], ◌∷◌, ◌++◌, length, get_or, slice_index, map, take, drop, sym, ◌∙◌, ap, subst, arith, length-take-le, length-drop, get_or-drop}
use Rattle.std.proofs.lemmas.Bool.{cases_lt}
use Rattle.std.proofs.lemmas.List.{drop_more, get_or_default, take-append-drop, length-map}
use Rattle.g1_words.specs.Heap.{Heap, objects}
use Rattle.g1_words.specs.declared.object.Object.{Object}
use Rattle.g1_words.specs.declared.fault.Fault.TheVariants.{Reference}
use Rattle.g1_words.specs.declared.fault.Place.TheVariants.{Slot}
use Rattle.g1_words.specs.declared.limits.Limits.TheVariants.{Wide}
use Rattle.g1_words.proofs.Computed.{has_contains}
use Rattle.g1_image.specs.Text.{file_text}
use Rattle.g1_image.specs.Image.{heap_of}
use Rattle.g1_image.specs.Faults.{FaultWithin, IsGoodSlot, HeapFault}
use Rattle.g1_image.specs.Parts.{CountsFit}
use Rattle.g1_text.specs.Content.{Content, file_with}
use Rattle.g1_text.specs.Drafts.{StandsInHeap}
use Rattle.g1_text.specs.FaultLines.{LineNumbers, IsLineBelow, IsSlotLine}
use Rattle.g1_text.proofs.Adding.{address_of}
use Rattle.g1_text.proofs.Gathering.{map_at}
use Rattle.g1_text.proofs.OneHeap.{same_heap}

module _ (l : LineNumbers) (ats : List ℕ) (slot : ℕ) where
  -- of these objects and those behind them, none that was gone through lies below the slot
  abbrev NoneBelow : ℕ → ℕ → Type 0
  NoneBelow from i = (j : ℕ) → from ≤ j → j < i → slot ≤ slice_index ats j

  -- the line, if so many objects were gone through
  abbrev pub IsBelowSoFar : ℕ → ℕ → Type 0
  IsBelowSoFar i number =
      ((k : ℕ) × (k < length l.objects) × (number ≡ slice_index l.objects k) × (slice_index ats k < slot) × NoneBelow (k + 1) i)
      ⊎ (NoneBelow 0 i × (l.headings ≡ number ∷ []))

  pub below_start : (number : ℕ) → l.headings ≡ number ∷ [] → IsBelowSoFar 0 number
  below_start number e = inr ((λ j from lt. absurd (omega (arith, lt))), e)

  pub below_this : (i number : ℕ) → i < length l.objects → number ≡ slice_index l.objects i → slice_index ats i < slot → IsBelowSoFar (i + 1) number
  below_this i number lt e below = inl (i, lt, e, below, λ j from less. absurd (omega (arith, from, less)))

  none_more : (from i : ℕ) → slot ≤ slice_index ats i → NoneBelow from i → NoneBelow from (i + 1)
  none_more from i above none j le lt = elim (cases_lt j i) [
    | inl less ↦ none j le less
    | inr ge ↦ (let here : i ≡ j = omega (arith, lt, ge) in subst (λ x. slot ≤ slice_index ats x) here above)
  ]

  pub below_other : (i number : ℕ) → slot ≤ slice_index ats i → IsBelowSoFar i number → IsBelowSoFar (i + 1) number
  below_other i number above (inl (k, lt, e, below, none)) = inl (k, lt, e, below, none_more (k + 1) i above none)
  below_other i number above (inr (none, e)) = inr (none_more 0 i above none, e)

  pub below_end : (i number : ℕ) → length ats ≤ i → IsBelowSoFar i number → IsLineBelow l ats slot number
  below_end i number all (inl (k, lt, e, below, none)) = inl (k, lt, e, below, λ j from less. none j (omega (arith, from)) (omega (arith, less, all)))
  below_end i number all (inr (none, e)) = inr ((λ j less. none j (omega arith) (omega (arith, less, all))), e)

-- BY THE OBJECTS of a heap, which have these addresses
module _ (h : Heap) (ats : List ℕ) (same : ats ≡ map address_of (objects h)) where
  all : length ats ≡ length (objects h)
  all = ap length same ∙ length-map (objects h) address_of

  address_at : (j : ℕ) (d : Object) → j < length (objects h) → slice_index ats j ≡ (get_or (objects h) j d).at
  address_at j d lt =
      let count = length-map (objects h) address_of in
      ap (λ l. slice_index l j) same ∙ get_or_default (map address_of (objects h)) j 0 d.at (omega (arith, count, lt)) ∙ map_at address_of (objects h) j d

  module _ (l : LineNumbers) (many : length l.objects ≡ length ats) (slot : ℕ) (wrong : IsGoodSlot h slot → ⊥) where
    -- one is below a slot that is wrong
    some_below : ((j : ℕ) → j < length ats → slot ≤ slice_index ats j) → ⊥
    some_below none =
        wrong (λ o has its.
        let there = has_contains h o has in
        let here = address_at there.0 o there.1 in
        let above = none there.0 (omega (arith, all, there.1)) in
        let is = ap address_of there.2 in
        absurd (omega (arith, here, above, is, its.0)))

    slot_line_of : (number : ℕ) → IsLineBelow l ats slot number → IsSlotLine l h slot number
    slot_line_of number (inr (none, e)) = absurd (some_below none)
    slot_line_of number (inl (k, lt, e, below, none)) =
        let os : List Object = objects h in
        let d : Object = record { at = 0; size = 0; refs = 0 } in
        let here : k < length os = omega (arith, lt, many, all) in
        let count : length (take k os) ≡ k = length-take-le k os (omega (arith, here)) in
        record {
          before = take k os;
          object = get_or os k d;
          behind = drop (k + 1) os;
          place = sym (take-append-drop k os) ∙ ap (λ xs. take k os ++ xs) (drop_more os k d here);
          below = (let at = address_at k d here in omega (arith, at, below));
          last = λ i q less.
              let left = length-drop (k + 1) os in
              let further : k + 1 + i < length os = omega (arith, left, less) in
              let at = address_at (k + 1 + i) q further in
              let above = none (k + 1 + i) (omega arith) (omega (arith, all, further)) in
              let there = ap address_of (get_or-drop (k + 1) os i q) in
              omega (arith, at, above, there);
          there = omega (arith, count, lt);
          line = e ∙ ap (slice_index l.objects) (sym count);
        }

-- THE LINE OF A SLOT that a fault names
pub slot_told : (l : LineNumbers) (c : Content) (slot number : ℕ) → StandsInHeap c → CountsFit (file_with c) → length l.objects ≡ length c.addresses
    → FaultWithin Wide (file_text (file_with c)) (Reference (Slot slot)) → IsLineBelow l c.addresses slot number → IsSlotLine l (heap_of (file_with c)) slot number
slot_told l c slot number stands fit many (f, fits, e, broken) below =
    let heap = same_heap (file_with c) f (stands.fits fit.roots fit.log) fits e in
    let fault = subst (λ h. HeapFault h (Reference (Slot slot))) (sym heap) broken.1 in
    slot_line_of (heap_of (file_with c)) c.addresses (stands.objects fault.0) l many slot fault.2.breach number below
