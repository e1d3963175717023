-- Where unnamed humongous objects were freed, the roots read the same graph: what they reach stays where it is.
use Rattle.std.proofs.Common.{◌≡◌, ℕ, zero, suc, ◌+◌, ◌<◌, inl, inr, false, List, [], ◌∷◌, length, get_or, map, flat_map, Contains, refl, sym, ◌∙◌, arith}
use Rattle.std.proofs.lemmas.List.{ext_get_or}
use Rattle.std.proofs.lemmas.List.FromFn.{get_or-map-range_with_len, length-map-range_with_len}
use Rattle.g1_after.proofs.CopyWords.{length-renamed_words, renamed_word}
use Rattle.g1_after.proofs.LeftRefs.{ref_away, refs_fit, root_away, slot_with_header}
use Rattle.g1_after.proofs.LeftRules.{stands_left}
use Rattle.g1_after.proofs.ObjectsLeft.{IsLeft, heap_is_left, with_parts}
use Rattle.g1_after.proofs.UnnamedRegions.{word_with_header}
use Rattle.g1_after.specs.Freed.{GraphLeft, heap_left}
use Rattle.g1_after.specs.Unnamed.{unnamed_regions}
use Rattle.g1_words.proofs.Members.{Contains-flat_map, Contains-map, flat_map_cases}
use Rattle.g1_words.proofs.Shapes.{IsBuilt, built}
use Rattle.g1_words.specs.Copy.{IsCopy, renamed, renamed_words, words_at}
use Rattle.g1_words.specs.Graph.{SameGraph}
use Rattle.g1_words.specs.Heap.{Heap, object_at, objects, slots, word}
use Rattle.g1_words.specs.Live.{Live, child, seed}
use Rattle.g1_words.specs.References.{Ref, named, refs, refs_at}
use Rattle.g1_words.specs.Survivors.{in_set}
use Rattle.g1_words.specs.declared.object.Object.{Object}
use Rattle.g1_words.specs.declared.region.Region.{Region}

-- where nothing moves, a reference word stays
renamed_same : (x : ℕ) → renamed (λ a. a) x ≡ x
renamed_same zero = refl
renamed_same (suc a) = refl

-- the roots stay
roots_same : (xs : List ℕ) → xs ≡ map (renamed (λ a. a)) xs
roots_same [] = refl
roots_same (x ∷ xs) = λ t. sym (renamed_same x) t ∷ roots_same xs t

module _ (h : Heap) (valid : IsBuilt h) where
  -- what the roots reach is an object outside the freed regions
  pub live_away : (a : ℕ) → Live h a → Contains (objects h) (object_at h a) × (in_set h (unnamed_regions h) a ≡ false)
  live_away a (seed c) = (valid.root_named a c, root_away h valid a c)
  live_away b (child {a = a} r c) =
      let k = live_away a r in
      let o : Object = object_at h a in
      let p = flat_map_cases (λ p. named (word h p)) (slots o) b c in
      let e : Ref = record { slot = p.0; target = b } in
      let here : Contains (refs_at h p.0) e = Contains-map (λ a. record { slot = p.0; target = a }) (named (word h p.0)) b p.2 in
      let m : Contains (refs h) e = Contains-flat_map (λ o. flat_map (refs_at h) (slots o)) (objects h) o e k.0 (Contains-flat_map (refs_at h) (slots o) p.0 e p.1 here) in
      (valid.slot_named e m, ref_away h valid e m (slot_with_header h valid o p.0 k.0 p.1 ∙ k.1))

module _ (h : Heap) (valid : IsBuilt h) (words : List ℕ) (table : List Region) (left : IsLeft h words table) where
  -- an object outside the freed regions keeps its words
  pub copy_left : (o : Object) → Contains (objects h) o → in_set h (unnamed_regions h) o.at ≡ false → IsCopy (λ a. a) h (with_parts h words table) o
  copy_left o c out =
      let fits = refs_fit h valid o c in
      let size : length (words_at (with_parts h words table) o.at o.size) ≡ o.size = length-map-range_with_len (word (with_parts h words table)) o.at o.size in
      ext_get_or 0 (words_at (with_parts h words table) o.at o.size) (renamed_words (λ a. a) h o) (size ∙ sym (length-renamed_words (λ a. a) h o fits))
      (λ m less.
      let lt : m < o.size = omega arith in
      let same : get_or (renamed_words (λ a. a) h o) m 0 ≡ word h (o.at + m) = elim (renamed_word (λ a. a) h o m fits lt) [
        | inl x ↦ x.0
        | inr x ↦ x.2 ∙ renamed_same (word h (o.at + m))
      ] in
      get_or-map-range_with_len (word (with_parts h words table)) o.at o.size m (o.at + m) 0 lt refl
      ∙ left.stays (o.at + m) (word_with_header h valid o m c lt ∙ out)
      ∙ sym same)

  -- the graph read from the roots is the same
  same_graph_left : SameGraph h (with_parts h words table)
  same_graph_left = record {
    rename = λ a. a;
    one_to_one = λ a b r s e. e;
    roots = roots_same h.roots;
    stands = λ a r. let k = live_away h valid a r in stands_left h valid words table left a k.0 k.1;
    copies = λ a r. let k = live_away h valid a r in copy_left (object_at h a) k.0 k.1;
  }

-- the roots of the heap that is left read the same graph
pub graph_left : GraphLeft
graph_left h v = same_graph_left h (built h v) (heap_left h).words (heap_left h).regions (heap_is_left h (built h v))
