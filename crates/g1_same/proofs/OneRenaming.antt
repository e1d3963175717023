-- Two heaps have one renaming at most.
use Rattle.std.proofs.Common.{◌≡◌, ℕ, suc, ◌+◌, ◌<◌, List, length, map, sym, ap, ◌∙◌, arith, slice_index}
use Rattle.std.proofs.lemmas.List.{ext_get_or, length-map, get_or-map}
use Rattle.std.proofs.lemmas.List.Elements.{Contains-get_or}
use Rattle.g1_words.specs.Heap.{Heap, word}
use Rattle.g1_words.specs.Valid.{IsValid}
use Rattle.g1_words.specs.Live.{Live, seed, child}
use Rattle.g1_words.specs.References.{root_targets, targets}
use Rattle.g1_words.proofs.Unique.{breadth_first_unique}
use Rattle.g1_words.specs.Copy.{renamed}
use Rattle.g1_words.specs.Graph.{SameGraph}
use Rattle.g1_same.specs.Same.{IsRenaming}
use Rattle.g1_same.proofs.Heaps.{root_of, slot_of}
use Rattle.g1_same.proofs.Excludes.{same_root, same_slot}

module _ (g h : Heap) (valid : IsValid g) where
  -- what is reached has one copy
  one_copy : (s t : SameGraph g h) (a : ℕ) → Live g a → s.rename a ≡ t.rename a
  one_copy s t a (seed c) =
      let r = root_of g a c in
      let e : suc (s.rename a) ≡ suc (t.rename a) =
      sym (ap (renamed s.rename) r.2) ∙ sym (same_root g h valid s r.0 r.1) ∙ same_root g h valid t r.0 r.1 ∙ ap (renamed t.rename) r.2 in
      omega (arith, e)
  one_copy s t b (child {a = a} live c) =
      let k = slot_of g a b c in
      let same : s.rename a ≡ t.rename a = one_copy s t a live in
      let e : suc (s.rename b) ≡ suc (t.rename b) =
      sym (ap (renamed s.rename) k.2) ∙ sym (same_slot g h valid s a k.0 live k.1) ∙ ap (λ z. word h (z + 1 + k.0)) same ∙ same_slot g h valid t a k.0 live k.1 ∙ ap (renamed t.rename) k.2 in
      omega (arith, e)

  same_images : (s t : SameGraph g h) (l : List ℕ) → ((i : ℕ) → i < length l → Live g (slice_index l i)) → map s.rename l ≡ map t.rename l
  same_images s t l live = ext_get_or 0 (map s.rename l) (map t.rename l) (length-map l s.rename ∙ sym (length-map l t.rename))
      (λ i lt. let p : i < length l = omega (arith, lt, length-map l s.rename) in
      get_or-map s.rename l i 0 0 p ∙ one_copy s t (slice_index l i) (live i p) ∙ sym (get_or-map t.rename l i 0 0 p))

pub one_renaming : (g h : Heap) (olds news others images : List ℕ) → IsValid g → IsRenaming g h olds news → IsRenaming g h others images → (olds ≡ others) × (news ≡ images)
one_renaming g h olds news others images valid a b =
    let e : olds ≡ others = breadth_first_unique (root_targets g) (targets g) olds others a.found b.found in
    let live : (i : ℕ) → i < length olds → Live g (slice_index olds i) = λ i p. (a.found.reached (slice_index olds i)).0 (Contains-get_or olds i 0 p) in
    (e, a.renames ∙ same_images g h valid a.same b.same olds live ∙ ap (map b.same.rename) e ∙ sym b.renames)
