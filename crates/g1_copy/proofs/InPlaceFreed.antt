-- The words that a commit writes in place where further regions are cleared.
use Rattle.std.proofs.Common.{◌≡◌, ℕ, ◌+◌, ◌*◌, ◌/◌, ◌<◌, inl, inr, cond, List, ◌++◌, length, get_or, replicate, flat_map, sym, ◌∙◌, ap, arith}
use Rattle.std.specs.List.{range_with_len}
use Rattle.std.proofs.lemmas.Bool.{cases_Bool}
use Rattle.std.proofs.lemmas.Nat.{div-mul-add}
use Rattle.std.proofs.Math.Nat.{mul-div_left}
use Rattle.std.proofs.lemmas.List.{ext_get_or, get_or-replicate, length-replicate}
use Rattle.std.proofs.lemmas.List.FromFn.{get_or-map-range_with_len, length-map-range_with_len}
use Rattle.g1_words.specs.Heap.{word}
use Rattle.g1_words.specs.Layout.{to_space}
use Rattle.g1_words.specs.Lists.{has}
use Rattle.g1_words.specs.Survivors.{in_set}
use Rattle.g1_image.specs.Image.{Image}
use Rattle.g1_after.specs.Made.{image_moved, image_paused}
use Rattle.g1_after.specs.Unnamed.{unnamed_regions}
use Rattle.g1_work.proofs.Slices.{get_or-slice_of, length-slice_of, next_slice, slices_from}
use Rattle.g1_work.specs.Regions.{slice_of}
use Rattle.g1_copy.specs.Gathered.{to_space_words}
use Rattle.g1_copy.specs.Patches.{all_patches}
use Rattle.g1_copy.specs.Slices.{by_fate, slice_after, words_after}
use Rattle.g1_copy.proofs.FatesMade.{fate_beside, fate_freed}
use Rattle.g1_copy.proofs.Ground.{Ground}
use Rattle.g1_copy.proofs.InPlace.{each_slice}

module _ (i : Image) (set l : List ℕ) (g : Ground i set l) where
  abbrev j : Image
  j = image_moved i set l

  -- the regions that are cleared beside the set
  abbrev freed : List ℕ
  freed = unnamed_regions (image_moved i set l).heap

  abbrev w : ℕ
  w = i.heap.geometry.w

  abbrev n : ℕ
  n = i.heap.geometry.n

  -- the words afterwards
  abbrev words : List ℕ
  words = (image_paused i set l).heap.words

  abbrev new_word : ℕ → ℕ
  new_word q = cond (in_set j.heap freed q) 0 (word j.heap q)

  words_size : length words ≡ n * w
  words_size = length-map-range_with_len new_word 0 (n * w)

  moved_size : length j.heap.words ≡ n * w
  moved_size = g.moved.size

  -- a word of region r
  word_there : (r m : ℕ) → r < n → m < w → get_or words (r * w + m) 0 ≡ cond (has freed r) 0 (word j.heap (r * w + m))
  word_there r m lt below =
      let fits = next_slice w r n lt in
      get_or-map-range_with_len new_word 0 (n * w) (r * w + m) (r * w + m) 0 (omega (arith, fits, below)) (omega arith)
      ∙ ap (λ x. cond (has freed x) 0 (word j.heap (r * w + m))) (div-mul-add r w m below)

  -- what the commit writes over a slice
  abbrev after : List ℕ → ℕ → List ℕ
  after clears r = slice_after w clears (to_space i.heap l) (to_space_words i.heap l) (all_patches i.heap set l) r (slice_of w r i.heap.words)

  slice_size : (r : ℕ) → r < n → length (slice_of w r words) ≡ w
  slice_size r lt = length-slice_of w r n words words_size lt

  -- each slice afterwards is what the commit writes
  each_left : (r : ℕ) → r < n → slice_of w r words ≡ after (set ++ freed) r
  each_left r lt = elim (cases_Bool (has freed r)) [
    | inl t ↦
        ext_get_or 0 (slice_of w r words) (replicate w 0) (slice_size r lt ∙ sym (length-replicate w 0))
        (λ m less.
        let below : m < w = omega (arith, less, slice_size r lt) in
        get_or-slice_of w r m words below ∙ word_there r m lt below ∙ ap (λ b. cond b 0 (word j.heap (r * w + m))) t ∙ sym (get_or-replicate w m 0 0 below))
        ∙ ap (λ x. by_fate w (to_space_words i.heap l) (all_patches i.heap set l) r x (slice_of w r i.heap.words)) (sym (fate_freed set freed (to_space i.heap l) r t))
    | inr e ↦
        ext_get_or 0 (slice_of w r words) (slice_of w r j.heap.words) (slice_size r lt ∙ sym (length-slice_of w r n j.heap.words moved_size lt))
        (λ m less.
        let below : m < w = omega (arith, less, slice_size r lt) in
        get_or-slice_of w r m words below ∙ word_there r m lt below ∙ ap (λ b. cond b 0 (word j.heap (r * w + m))) e ∙ sym (get_or-slice_of w r m j.heap.words below))
        ∙ each_slice i set l g r lt
        ∙ ap (λ x. by_fate w (to_space_words i.heap l) (all_patches i.heap set l) r x (slice_of w r i.heap.words)) (sym (fate_beside set freed (to_space i.heap l) r e))
  ]

  -- the words afterwards are what the commit writes
  pub words_paused : words_after w (set ++ freed) (to_space i.heap l) (to_space_words i.heap l) (all_patches i.heap set l) i.heap.words ≡ words
  words_paused =
      let count : length i.heap.words / w ≡ n = ap (λ y. y / w) g.built.word_count ∙ mul-div_left n g.sound.w_positive in
      ap (λ y. flat_map (after (set ++ freed)) (range_with_len 0 y)) count
      ∙ sym (slices_from (after (set ++ freed)) w n 0 words words_size (λ k lt. let z : 0 + k ≡ k = omega arith in each_left k lt ∙ ap (after (set ++ freed)) (sym z)))
