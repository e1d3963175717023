-- What is returned for lines of objects by name.
use Rattle.std.proofs.Common.{◌≡◌, ◌<◌, ℕ, ◌^◌, List, [], ◌++◌, length, map, flat_map, append-nil, refl, sym, ◌∙◌, ap, subst, arith}
use Rattle.std.specs.Prelude.{Option, Some, None, IfSome, All, Contains}
use Rattle.std.specs.List.{AllZip}
use Rattle.std.proofs.lemmas.Slice.Zip.{AllZip-long}
use Rattle.std.proofs.lemmas.List.{length-map}
use Rattle.std.proofs.lemmas.List.Elements.{All-nil}
use Rattle.g1_words.specs.Geometry.{Geometry}
use Rattle.g1_words.specs.Heap.{Heap}
use Rattle.g1_words.specs.declared.region.Region.{Region}
use Rattle.g1_words.specs.declared.limits.Limits.TheVariants.{Wide}
use Rattle.g1_image.specs.Text.{file_text}
use Rattle.g1_image.specs.Image.{Image, IsTextWithin, entry_of, heap_of}
use Rattle.g1_image.specs.Reading.{IsU32}
use Rattle.g1_image.proofs.FileOf.{regions_again}
use Rattle.g1_text.specs.declared.named.Lines.{Lines}
use Rattle.g1_text.specs.declared.reading.HeapSizes.{HeapSizes}
use Rattle.g1_text.specs.Content.{Content, file_with}
use Rattle.g1_text.specs.Graphs.{NamedGraph}
use Rattle.g1_text.specs.ByName.{HasRead, AreSizes, IsEntryOf}
use Rattle.g1_text.specs.Carried.{Carries, AreListed, AllNamed, root_value, root_targets, stale_from, stale_slots, named_at}
use Rattle.g1_text.specs.Filled.{AreLocated, AreWordsOf, located}
use Rattle.g1_text.specs.Laid.{AreLaid, ArePlaced, laid_content, placed, own_addresses, used_addresses}
use Rattle.g1_text.proofs.Carrying.{heap_object, all_placed, entry_fits, located_fits, long, carried, listed, all_named}
use Rattle.g1_text.specs.Drafts.{HeapFits}
use Rattle.g1_text.proofs.OneHeap.{image_heap, entries_small, announced, roots_fit, words_fit}

-- what was filled
abbrev pub filled_content : Geometry → List Region → List ℕ → List ℕ → List (List ℕ) → Content
filled_content geometry regions roots words remembered = record (laid_content geometry regions 0) { roots = roots; words = words; remembered = remembered }

pub filled_is : (geometry : Geometry) (regions : List Region) (roots all_roots words : List ℕ) (first second third : Content) → first ≡ laid_content geometry regions 0
    → all_roots ≡ first.roots ++ roots → second ≡ record (record first { roots = all_roots }) { words = first.words ++ words } → third ≡ record second { remembered = third.remembered }
    → third ≡ filled_content geometry regions roots words third.remembered
filled_is geometry regions roots all_roots words first second third is more filled covered =
    let root_words : all_roots ≡ roots = more ∙ ap (λ (c : Content). c.roots ++ roots) is in
    let all_words : first.words ++ words ≡ words = ap (λ (c : Content). c.words ++ words) is in
    covered ∙ ap (λ (c : Content). record c { remembered = third.remembered }) filled ∙ (λ i. record (is i) { roots = root_words i; words = all_words i; remembered = third.remembered })

pub told_sizes : (sizes : Option HeapSizes) (said : Option Geometry) (geometry : Geometry) → AreSizes sizes said → IfSome sizes (λ s. geometry ≡ record { w = s.w; k = s.k; n = s.n }) → IfSome said (λ s. geometry ≡ s)
told_sizes None said geometry are is = subst (λ o. IfSome o (λ s. geometry ≡ s)) (sym are) tt
told_sizes (Some s) said geometry are is = subst (λ o. IfSome o (λ s. geometry ≡ s)) (sym are) is

module _ (l : Lines) (g : NamedGraph) (read : HasRead l g) (geometry : Geometry) (ats order : List ℕ) (c : Content) (places : ArePlaced geometry l.entries.items ats order c) where
  count : length ats ≡ length g.objects
  count = places.count ∙ sym (AllZip-long IsEntryOf l.entries.items g.objects read.entries)

  pub are_located : AreLocated l g ats
  are_located = record { read = read; count = count; small = places.small }

  pub below : All (λ k. k < length g.objects) order
  below k d lt = let some = places.ordered.places k d lt in omega (arith, some, count, places.count)

  all : (k : ℕ) → k < length g.objects → Contains order k
  all k lt = places.ordered.all k (omega (arith, lt, count, places.count))

  pub none_stale : stale_from g 0 (root_targets g) ≡ [] → flat_map (stale_slots g) (located g ats order) ≡ [] → AllNamed g
  none_stale roots slots = all_named g ats order all roots slots

  module _ (sizes : IfSome g.sizes (λ s. geometry ≡ s)) (wordss : List (List ℕ)) (are : AllZip (λ o ws. AreWordsOf g ats o.0 ws) (located g ats order) wordss) (remembered : List (List ℕ)) where
    abbrev regions : List Region
    regions = places.laid.0

    abbrev full : Content
    full = filled_content geometry regions (map (root_value g ats) g.roots) (flat_map (λ ws. ws) wordss) remembered

    abbrev heap : Heap
    heap = record (heap_of (file_with full)) { regions = regions }

    heap_is : heap ≡ heap_of (file_with full)
    heap_is = λ i. record (heap_of (file_with full)) { regions = sym (regions_again regions) i }

    same : map (placed l.entries.items ats) order ≡ map heap_object (located g ats order)
    same = all_placed l.entries.items g read.entries ats order below

    laid : AreLaid geometry regions 0 (map heap_object (located g ats order))
    laid = subst (AreLaid geometry regions 0) same places.laid.1

    addresses : flat_map own_addresses (map heap_object (located g ats order)) ≡ used_addresses geometry.w 0 regions
    addresses = laid.words ∙ append-nil (used_addresses geometry.w 0 regions)

    pub carries : Carries g ats (heap_of (file_with full))
    carries = subst (Carries g ats) heap_is
        (carried g ats order heap wordss count below all (entry_fits l.entries.items g.objects read.entries) places.laid.2 laid.tops laid.starts addresses refl are sizes refl)

    pub are_listed : (names roots slots : List (ℕ × List ℕ)) → names ≡ map named_at (located g ats order) → roots ≡ stale_from g 0 (root_targets g) → slots ≡ flat_map (stale_slots g) (located g ats order)
        → AreListed g ats names roots slots
    are_listed = listed g ats order heap wordss count below all (entry_fits l.entries.items g.objects read.entries) places.laid.2 laid.tops laid.starts addresses refl are

    fits : HeapFits (file_with full)
    fits =
        let tops : All (λ q. q.top < 2 ^ 32) regions = λ k d lt. let top = laid.tops k d lt in omega (arith, top, places.bounds.w_most) in
        let root_count = length-map g.roots (root_value g ats) in
        record {
          heading = record {
            w = omega (arith, places.bounds.w_most);
            k = omega (arith, places.bounds.k_most);
            n = omega (arith, places.bounds.n_most);
            roots = omega (arith, root_count, read.few);
            dirty = omega arith;
            current = omega (arith, places.bounds.n_most);
          };
          table = record { how_many = length-map regions entry_of ∙ places.laid.2; each = entries_small regions tops };
          roots = roots_fit g ats places.small;
          log = All-nil IsU32;
          words = record {
            how_many = long g ats order heap wordss count below all (entry_fits l.entries.items g.objects read.entries) places.laid.2 laid.tops laid.starts addresses refl are ∙ announced geometry.w 0 regions;
            each = words_fit g ats places.small (located g ats order) wordss
                (located_fits g ats order heap wordss count below all (entry_fits l.entries.items g.objects read.entries) places.laid.2 laid.tops laid.starts addresses refl are) are;
          };
        }

    pub same_heap : (bytes : List ℕ) → bytes ≡ file_text (file_with full) → (i : Image) → IsTextWithin Wide bytes i → i.heap ≡ heap_of (file_with full)
    same_heap bytes text i is = image_heap (file_with full) bytes i fits text is
