-- What a commit writes in place is the image after the pause for which it was made ready.
use Rattle.std.proofs.Common.{◌≡◌, ℕ, zero, suc, refl, ◌++◌, ◌+◌, ◌*◌, ◌/◌, ◌<◌, ◌≤◌, List, [], None, length, get_or, map, flat_map, sym, ◌∙◌, ap, subst, arith}
use Rattle.std.specs.List.{range_with_len}
use Rattle.std.proofs.Math.Nat.{mul-div_left}
use Rattle.std.proofs.lemmas.List.FromFn.{length-map-range_with_len}
use Rattle.g1_image.specs.Image.{Image}
use Rattle.g1_after.specs.Made.{heap_moved, image_moved, image_paused, moved_word}
use Rattle.g1_after.specs.Paused.{IsPaused}
use Rattle.g1_after.specs.Unnamed.{unnamed_regions}
use Rattle.g1_work.proofs.Slices.{length-slice_of, next_slice}
use Rattle.g1_work.specs.Regions.{EverySlice, slice_of}
use Rattle.g1_words.proofs.Firsts.{Distinct}
use Rattle.g1_words.proofs.NextFit.{free_distinct}
use Rattle.g1_words.proofs.Sound.{w_positive}
use Rattle.g1_words.specs.Heap.{object_at, start}
use Rattle.g1_words.specs.Layout.{forward, free_regions, need, to_space}
use Rattle.g1_words.specs.Valid.{IsValid}
use Rattle.g1_copy.specs.Fates.{fate_at, fate_of}
use Rattle.g1_copy.specs.Gathered.{placed_words, to_space_words}
use Rattle.g1_copy.specs.Patches.{AreBefore, all_patches}
use Rattle.g1_copy.specs.Prepared.{IsMadeFor, Prepared, written}
use Rattle.g1_copy.specs.Slices.{IsWritable, by_fate}
use Rattle.g1_copy.proofs.FatesMade.{run_there}
use Rattle.g1_copy.proofs.Ground.{ground}
use Rattle.g1_copy.proofs.InPlaceFreed.{words_paused}
use Rattle.g1_copy.proofs.InPlaceSlices.{Distinct-take, flat_length}

-- the image that a commit makes of i
abbrev pub committed : Prepared → Image → Image
committed p i = record {
  heap = record { geometry = i.heap.geometry; words = written p i.heap.geometry.w i.heap.words; regions = p.regions; roots = p.roots; current = None };
  remembered = p.remembered;
  log = [];
}

-- lists that are put together alike
flat_map_same : (f g : ℕ → List ℕ) (a n : ℕ) → ((r : ℕ) → a ≤ r → r < a + n → f r ≡ g r) → flat_map f (range_with_len a n) ≡ flat_map g (range_with_len a n)
flat_map_same f g a zero e = refl
flat_map_same f g a (suc n) e = λ q. e a (omega arith) (omega arith) q ++ flat_map_same f g (a + 1) n (λ r low high. e r (omega arith) (omega arith)) q

module _ (p : Prepared) (i : Image) (set l : List ℕ) (valid : IsValid i.heap) (made : IsMadeFor p i set l) where
  -- the regions that are cleared
  abbrev clears : List ℕ
  clears = set ++ unnamed_regions (heap_moved i.heap set l)

  once : Distinct (to_space i.heap l)
  once = Distinct-take (need i.heap l) (free_regions i.heap) (free_distinct i.heap (w_positive i.heap valid))

  count : length i.heap.words / i.heap.geometry.w ≡ i.heap.geometry.n
  count = ap (λ y. y / i.heap.geometry.w) valid.word_count ∙ mul-div_left i.heap.geometry.n (w_positive i.heap valid)

  gathered_length : length p.gathered ≡ length (to_space i.heap l) * i.heap.geometry.w
  gathered_length =
      ap length made.gathered
      ∙ flat_length (placed_words i.heap l) i.heap.geometry.w
      (λ r. length-map-range_with_len (moved_word (forward i.heap l) i.heap (map (object_at i.heap) l)) (start i.heap r) i.heap.geometry.w)
      (to_space i.heap l)

  -- each region can be written
  writable : (r : ℕ) → r < i.heap.geometry.n → IsWritable i.heap.geometry.w p.fates p.gathered p.patches p.firsts r (slice_of i.heap.geometry.w r i.heap.words)
  writable r lt =
      let fits = next_slice i.heap.geometry.w r i.heap.geometry.n lt in
      let most = valid.limits.words_most in
      let more : (r + 1) * i.heap.geometry.w ≡ r * i.heap.geometry.w + i.heap.geometry.w = omega arith in
      record {
        size = length-slice_of i.heap.geometry.w r i.heap.geometry.n i.heap.words valid.word_count lt;
        fate = omega (arith, lt, made.fates.one_each);
        run = λ t e.
            let k = run_there clears (to_space i.heap l) once r t (sym (made.fates.each r lt) ∙ e) in
            let inside = next_slice i.heap.geometry.w t (length (to_space i.heap l)) k.0 in
            omega (arith, inside, gathered_length);
        room = omega arith;
        next = omega (arith, lt, made.firsts.one_each);
        begins = made.firsts.each r (omega arith);
        ends = subst (λ e. AreBefore p.patches e (get_or p.firsts (r + 1) 0)) more (made.firsts.each (r + 1) (omega arith));
      }

  pub all_writable : EverySlice (IsWritable i.heap.geometry.w p.fates p.gathered p.patches p.firsts) i.heap.geometry.w i.heap.words
  all_writable r lt = writable r (subst (λ n. r < n) count lt)

  -- the words are those of the heap after
  by_fates : (r : ℕ) → r < i.heap.geometry.n → by_fate i.heap.geometry.w p.gathered p.patches r (fate_at p.fates r) (slice_of i.heap.geometry.w r i.heap.words)
      ≡ by_fate i.heap.geometry.w (to_space_words i.heap l) (all_patches i.heap set l) r (fate_of clears (to_space i.heap l) r) (slice_of i.heap.geometry.w r i.heap.words)
  by_fates r lt = λ q. by_fate i.heap.geometry.w (made.gathered q) (made.patches q) r (made.fates.each r lt q) (slice_of i.heap.geometry.w r i.heap.words)

  words_are : written p i.heap.geometry.w i.heap.words ≡ (image_paused i set l).heap.words
  words_are =
      flat_map_same (λ r. by_fate i.heap.geometry.w p.gathered p.patches r (fate_at p.fates r) (slice_of i.heap.geometry.w r i.heap.words))
      (λ r. by_fate i.heap.geometry.w (to_space_words i.heap l) (all_patches i.heap set l) r (fate_of clears (to_space i.heap l) r) (slice_of i.heap.geometry.w r i.heap.words))
      0 (length i.heap.words / i.heap.geometry.w) (λ r low high. by_fates r (omega (arith, high, count)))
      ∙ words_paused i set l (ground i set l valid made.room)

  is_after : committed p i ≡ image_paused i set l
  is_after = λ q. record {
    heap = record { geometry = i.heap.geometry; words = words_are q; regions = made.table q; roots = made.roots q; current = None };
    remembered = made.remembered q;
    log = [];
  }

  pub is_paused : IsPaused i set l (committed p i)
  is_paused = record {
    between = image_moved i set l;
    moved = (ground i set l valid made.room).moved;
    freed = is_after;
  }
