-- Bytes with stale words have one reading, and no other fault.
use Rattle.std.proofs.Common.{◌≡◌, ℕ, inl, inr, List, slice_index, get_or, sym, ap, subst, ◌∙◌, arith}
use Rattle.g1_words.specs.declared.limits.Limits.TheVariants.{Wide}
use Rattle.g1_words.specs.declared.fault.Fault.{Fault}
use Rattle.g1_words.specs.declared.fault.Fault.TheVariants as fault
use Rattle.g1_words.specs.declared.fault.Place.{Place}
use Rattle.g1_words.specs.declared.fault.Stand.{Stand}
use Rattle.g1_words.specs.declared.fault.Stand.TheVariants as stand
use Rattle.g1_words.specs.Fault.{number_of}
use Rattle.g1_words.specs.Heap.{Heap}
use Rattle.g1_words.specs.Graph.{SameGraph}
use Rattle.g1_words.proofs.Ordered.{same_order}
use Rattle.g1_image.specs.Text.{File}
use Rattle.g1_image.specs.Image.{Image, IsImage, IsUsedCard, IsRememberedSet, heap_of}
use Rattle.g1_image.specs.Faults.{CardFault, FaultWithin}
use Rattle.g1_image.specs.Stale.{HasLowerPlace, IsStaleRoot, IsStaleSlot, IsTextWithout, FaultWithout, Lists, without}
use Rattle.g1_image.proofs.OneFile.{one_file}
use Rattle.g1_image.proofs.OneVerdict.{one_fault}
use Rattle.g1_image.proofs.StaleWords.{gathers_of}
use Rattle.g1judge.specs.Stale.{IsStaleText, ReachesStale, HidesStale, ShowsStale}

-- ---- one reading

same_lists : (P : ℕ → ℕ → Type 0) (r s : List (ℕ × ℕ)) → Lists P r → Lists P s → r ≡ s
same_lists P r s a b =
    let x = gathers_of P r a in
    let y = gathers_of P s b in
    same_order HasLowerPlace (λ u v l m. omega (arith, l, m)) r s x.rising y.rising
    (λ z m. y.whole z.0 z.1 (x.sound z.0 z.1 m)) (λ z m. x.whole z.0 z.1 (y.sound z.0 z.1 m))

abbrev image_of : File → List (ℕ × ℕ) → List (ℕ × ℕ) → Image
image_of f roots slots = record { heap = without (heap_of f) roots slots; remembered = f.remembered; log = f.log }

pub one_reading : (bytes : List ℕ) (h k : Image) (r s u v : List (ℕ × ℕ)) → IsTextWithout Wide bytes h r s → IsTextWithout Wide bytes k u v → (h ≡ k) × (r ≡ u) × (s ≡ v)
one_reading bytes h k r s u v a b =
    let file : a.file ≡ b.file = one_file {limits = Wide} bytes a.file b.file a.fits b.fits a.text b.text in
    let roots : r ≡ u = same_lists (IsStaleRoot (heap_of b.file)) r u (subst (λ f. Lists (IsStaleRoot (heap_of f)) r) file a.stale_roots) b.stale_roots in
    let slots : s ≡ v = same_lists (IsStaleSlot (heap_of b.file)) s v (subst (λ f. Lists (IsStaleSlot (heap_of f)) s) file a.stale_slots) b.stale_slots in
    let images : image_of a.file r s ≡ image_of b.file u v = λ t. image_of (file t) (roots t) (slots t) in
    (a.image ∙ images ∙ sym b.image, roots, slots)

-- ---- no other fault

module _ (h : Heap) (roots slots : List (ℕ × ℕ)) where
  used_back : (c : ℕ) → IsUsedCard (without h roots slots) c → IsUsedCard h c
  used_back c u = record { in_heap = u.in_heap; used = u.used }

  set_back : (r : ℕ) (cards : List ℕ) → IsRememberedSet (without h roots slots) r cards → IsRememberedSet h r cards
  set_back r cards s = record {
    rising = s.rising;
    elsewhere = λ k d lt. let e = s.elsewhere k d lt in (used_back (get_or cards k d) e.0, e.1);
    count = s.count;
    owner = s.owner;
  }

  no_card_fault : (log : List ℕ) (sets : List (List ℕ)) (s : Stand) → IsImage (record { heap = without h roots slots; remembered = sets; log = log }) → CardFault h log sets s → ⊥
  no_card_fault log sets (stand.Dirty i) good x =
      x.breach (used_back (slice_index log i) (good.log.used i 0 x.within), λ j le. good.log.distinct j i 0 le x.within)
  no_card_fault log sets (stand.Region r) good x = x.1.breach (set_back r _ (good.remembered r x.1.within))

module _ (bytes : List ℕ) (h : Image) (roots slots : List (ℕ × ℕ)) (stale : IsStaleText bytes h roots slots) where
  of_other : (e : Fault) → (number_of e ≡ 7 → ⊥) → FaultWithin Wide bytes e → ⊥
  of_other e differs x = differs (ap number_of (one_fault Wide bytes e (fault.Reference stale.fault.0) x stale.fault.1))

  pub no_other_fault : (e : Fault) → FaultWithout Wide bytes e → ⊥
  no_other_fault (fault.Reference p) x = x
  no_other_fault (fault.Card s) (f, fits, text, known, shaped, card) =
      let t = stale.text in
      let file : t.file ≡ f = one_file {limits = Wide} bytes t.file f t.fits fits t.text text in
      let image : h ≡ image_of f roots slots = t.image ∙ (λ i. image_of (file i) roots slots) in
      no_card_fault (heap_of f) roots slots f.log f.remembered s (subst IsImage image stale.image) card
  no_other_fault fault.Magic x = of_other fault.Magic (λ e. omega (arith, e)) x
  no_other_fault fault.Geometry x = of_other fault.Geometry (λ e. omega (arith, e)) x
  no_other_fault fault.Short x = of_other fault.Short (λ e. omega (arith, e)) x
  no_other_fault fault.Trailing x = of_other fault.Trailing (λ e. omega (arith, e)) x
  no_other_fault (fault.Kind r) x = of_other (fault.Kind r) (λ e. omega (arith, e)) x
  no_other_fault (fault.Shape r) x = of_other (fault.Shape r) (λ e. omega (arith, e)) x
  no_other_fault (fault.Uncovered p) x = of_other (fault.Uncovered p) (λ e. omega (arith, e)) x
  no_other_fault (fault.Set r) x = of_other (fault.Set r) (λ e. omega (arith, e)) x
  no_other_fault (fault.Room m n) x = of_other (fault.Room m n) (λ e. omega (arith, e)) x
  no_other_fault (fault.Settings w) x = of_other (fault.Settings w) (λ e. omega (arith, e)) x
  no_other_fault fault.Memory x = of_other fault.Memory (λ e. omega (arith, e)) x
  no_other_fault (fault.Device d) x = of_other (fault.Device d) (λ e. omega (arith, e)) x
  no_other_fault (fault.Line n) x = of_other (fault.Line n) (λ e. omega (arith, e)) x
  no_other_fault (fault.Flags r) x = of_other (fault.Flags r) (λ e. omega (arith, e)) x

-- ---- what is not shown

-- bytes with another fault show no stale word
pub other_fault_shows_none : (g : Image) (bytes : List ℕ) (e : Fault) → FaultWithout Wide bytes e → ShowsStale g bytes → ⊥
other_fault_shows_none g bytes e x (h, roots, slots, stale, shown) = no_other_fault bytes h roots slots stale e x

-- nor do bytes whose stale words are hidden beside an image
pub hidden_shows_none : (g h : Image) (bytes : List ℕ) (r s : List (ℕ × ℕ)) → IsTextWithout Wide bytes h r s → HidesStale g.heap h.heap r s → ShowsStale g bytes → ⊥
hidden_shows_none g h bytes r s text hidden (k, u, v, stale, shown) =
    let one = one_reading bytes h k r s u v text stale.text in
    elim shown [
      | inl never ↦ never (subst (λ i. SameGraph g.heap i.heap) one.0 hidden.0)
      | inr reaches ↦ hidden.1
          (subst (λ (i : Image). ReachesStale g.heap i.heap r s) (sym one.0)
          (subst (λ z. ReachesStale g.heap k.heap z s) (sym one.1)
          (subst (λ z. ReachesStale g.heap k.heap u z) (sym one.2) reaches)))
    ]

-- nor do bytes whose fault is no reference
pub no_reference_shows_none : (g : Image) (bytes : List ℕ) (e : Fault) → FaultWithin Wide bytes e → ((p : Place) → e ≡ fault.Reference p → ⊥) → ShowsStale g bytes → ⊥
no_reference_shows_none g bytes e x other (h, roots, slots, stale, shown) = other stale.fault.0 (one_fault Wide bytes e (fault.Reference stale.fault.0) x stale.fault.1)
