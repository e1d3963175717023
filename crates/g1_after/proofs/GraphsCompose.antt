-- Two heaps that each show the graph of the one before: the last shows the graph of the first.
use Rattle.std.proofs.Common.{◌≡◌, ℕ, zero, suc, ◌+◌, ◌-◌, ◌<◌, ◌/◌, ◌%◌, ◌^◌, ◌⊎◌, inl, inr, List, [], ◌∷◌, length, get_or, map, flat_map, Contains, refl, sym, ◌∙◌, ap, subst, arith, add-zero}
use Rattle.std.specs.List.{range_with_len}
use Rattle.std.proofs.lemmas.List.{ext_get_or}
use Rattle.std.proofs.lemmas.List.FromFn.{get_or-map-range_with_len, length-map-range_with_len}
use Rattle.g1_after.proofs.CopyWords.{RenamedAt, StaysAt, length-renamed_words, renamed_word}
use Rattle.g1_after.proofs.Determined.{word_from_copy}
use Rattle.g1_after.proofs.SameGraphs.{copy_targets, roots_renamed}
pub use Rattle.g1_after.proofs.SameGraphs.{live_object}
use Rattle.g1_words.proofs.Members.{Contains-map}
use Rattle.g1_words.proofs.Sound.{IsSound}
use Rattle.g1_words.specs.Copy.{IsCopy, renamed, renamed_words, words_at}
use Rattle.g1_words.specs.Graph.{SameGraph}
use Rattle.g1_words.specs.Heap.{Heap, object_at, word}
use Rattle.g1_words.specs.Live.{Live, child, seed}
use Rattle.g1_words.specs.References.{named, root_targets, targets}
use Rattle.g1_words.specs.declared.object.Object.{Object}

-- ---- a copy, word by word

-- word number m of a copy is that of the object, renamed where it is a slot's
abbrev pub CopiedAt : (ℕ → ℕ) → Heap → Heap → Object → ℕ → Type 0
CopiedAt f h j o m = StaysAt f h o m (word j (f o.at + m)) ⊎ RenamedAt f h o m (word j (f o.at + m))

-- each word of a copy is
pub word_of_copy : (f : ℕ → ℕ) (h j : Heap) (o : Object) (m : ℕ) → IsCopy f h j o → o.refs < o.size → m < o.size → CopiedAt f h j o m
word_of_copy f h j o m copy fits lt =
    let w : word j (f o.at + m) ≡ get_or (renamed_words f h o) (f o.at + m - f o.at) 0 = word_from_copy f h j o (f o.at + m) copy (omega arith) (omega arith) in
    let z : f o.at + m - f o.at ≡ m = omega arith in
    let e : get_or (renamed_words f h o) m 0 ≡ word j (f o.at + m) = ap (λ x. get_or (renamed_words f h o) x 0) (sym z) ∙ sym w in
    subst (λ x. StaysAt f h o m x ⊎ RenamedAt f h o m x) e (renamed_word f h o m fits lt)

-- two words that are each that of the object, renamed where it is a slot's, are one
one_word : (f : ℕ → ℕ) (h : Heap) (o : Object) (m x y : ℕ) → StaysAt f h o m x ⊎ RenamedAt f h o m x → StaysAt f h o m y ⊎ RenamedAt f h o m y → x ≡ y
one_word f h o m x y (inl a) (inl b) = a.0 ∙ sym b.0
one_word f h o m x y (inr a) (inr b) = a.2 ∙ sym b.2
one_word f h o m x y (inl (a, inl z)) (inr b) = absurd (omega (arith, z, b.0))
one_word f h o m x y (inl (a, inr z)) (inr b) = absurd (omega (arith, z, b.1))
one_word f h o m x y (inr a) (inl (b, inl z)) = absurd (omega (arith, z, a.0))
one_word f h o m x y (inr a) (inl (b, inr z)) = absurd (omega (arith, z, a.1))

-- words that are each that of the object, renamed where it is a slot's, are a copy
pub copy_from_words : (f : ℕ → ℕ) (h j : Heap) (o : Object) → o.refs < o.size → ((m : ℕ) → m < o.size → CopiedAt f h j o m) → IsCopy f h j o
copy_from_words f h j o fits each =
    let size : length (words_at j (f o.at) o.size) ≡ o.size = length-map-range_with_len (word j) (f o.at) o.size in
    ext_get_or 0 (words_at j (f o.at) o.size) (renamed_words f h o) (size ∙ sym (length-renamed_words f h o fits))
    (λ m lt'.
    let lt : m < o.size = omega arith in
    get_or-map-range_with_len (word j) (f o.at) o.size m (f o.at + m) 0 lt refl
    ∙ one_word f h o m (word j (f o.at + m)) (get_or (renamed_words f h o) m 0) (each m lt) (renamed_word f h o m fits lt))

-- a reference word renamed twice
pub renamed_twice : (f g : ℕ → ℕ) (x : ℕ) → renamed f (renamed g x) ≡ renamed (λ a. f (g a)) x
renamed_twice f g zero = refl
renamed_twice f g (suc a) = refl

-- and a list of them
pub all_renamed_twice : (f g : ℕ → ℕ) (xs : List ℕ) → map (renamed f) (map (renamed g) xs) ≡ map (renamed (λ a. f (g a))) xs
all_renamed_twice f g [] = refl
all_renamed_twice f g (x ∷ xs) = λ t. renamed_twice f g x t ∷ all_renamed_twice f g xs t

-- ---- what the roots reach

module _ (g h : Heap) (sound : IsSound g) (s : SameGraph g h) where
  -- its references lie within it
  live_fits : (a : ℕ) → Live g a → (object_at g a).refs < (object_at g a).size
  live_fits a live = sound.slots_fit (object_at g a) (live_object g sound a live)

  -- the header of what the roots reach is copied
  pub header_copied : (a : ℕ) → Live g a → word h (s.rename a) ≡ word g a
  header_copied a live =
      let fits = live_fits a live in
      elim (word_of_copy s.rename g h (object_at g a) 0 (s.copies a live) fits (omega arith)) [
        | inl k ↦ ap (word h) (sym (add-zero (s.rename a))) ∙ k.0 ∙ ap (word g) (add-zero a)
        | inr k ↦ absurd (omega (arith, k.0))
      ]

  -- so the copy is an object of the same shape
  pub object_copied : (a : ℕ) → Live g a → object_at h (s.rename a) ≡ record { at = s.rename a; size = (object_at g a).size; refs = (object_at g a).refs }
  object_copied a live = let w = header_copied a live in λ t. record { at = s.rename a; size = w t / 2 ^ 32; refs = w t % 2 ^ 32 }

  -- the copy of what the roots reach is reached
  pub live_copied : (a : ℕ) → Live g a → Live h (s.rename a)
  live_copied a (seed c) =
      let e : root_targets h ≡ map s.rename (root_targets g) = ap (flat_map named) s.roots ∙ roots_renamed s.rename g.roots in
      seed (subst (λ xs. Contains xs (s.rename a)) (sym e) (Contains-map s.rename (root_targets g) a c))
  live_copied b (child {a = a} r c) =
      let refs : (object_at h (s.rename a)).refs ≡ (object_at g a).refs = ap (λ (o : Object). o.refs) (object_copied a r) in
      let e : targets h (s.rename a) ≡ map s.rename (targets g a) =
      ap (λ n. flat_map (λ p. named (word h p)) (range_with_len (s.rename a + 1) n)) refs
      ∙ copy_targets s.rename g h (object_at g a) (s.copies a r) (live_fits a r) in
      child (live_copied a r) (subst (λ xs. Contains xs (s.rename b)) (sym e)
      (Contains-map s.rename (targets g a) b c))

  module _ (k : Heap) (t : SameGraph h k) where
    -- the copy's copy is a copy
    copied_twice : (a : ℕ) → Live g a → IsCopy (λ x. t.rename (s.rename x)) g k (object_at g a)
    copied_twice a live =
        let o : Object = object_at g a in
        let p : Object = record { at = s.rename a; size = o.size; refs = o.refs } in
        let fits : o.refs < o.size = live_fits a live in
        let again : IsCopy t.rename h k p = subst (λ (x : Object). IsCopy t.rename h k x) (object_copied a live) (t.copies (s.rename a) (live_copied a live)) in
        copy_from_words (λ x. t.rename (s.rename x)) g k o fits
        (λ m lt. elim (word_of_copy t.rename h k p m again fits lt) [
          | inl y ↦ elim (word_of_copy s.rename g h o m (s.copies a live) fits lt) [
            | inl x ↦ inl (y.0 ∙ x.0, y.1)
            | inr x ↦ elim y.1 [ inl z ↦ absurd (omega (arith, z, x.0)) | inr z ↦ absurd (omega (arith, z, x.1)) ]
          ]
          | inr y ↦ elim (word_of_copy s.rename g h o m (s.copies a live) fits lt) [
            | inl x ↦ elim x.1 [ inl z ↦ absurd (omega (arith, z, y.0)) | inr z ↦ absurd (omega (arith, z, y.1)) ]
            | inr x ↦ inr (y.0, y.1, y.2 ∙ ap (renamed t.rename) x.2 ∙ renamed_twice t.rename s.rename (word g (a + m)))
          ]
        ])

    -- the last heap shows the graph of the first
    pub graphs_compose : SameGraph g k
    graphs_compose = record {
      rename = λ x. t.rename (s.rename x);
      one_to_one = λ a b la lb e. s.one_to_one a b la lb (t.one_to_one (s.rename a) (s.rename b) (live_copied a la) (live_copied b lb) e);
      roots = t.roots ∙ ap (map (renamed t.rename)) s.roots ∙ all_renamed_twice t.rename s.rename g.roots;
      stands = λ a live. t.stands (s.rename a) (live_copied a live);
      copies = copied_twice;
    }
