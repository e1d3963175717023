-- What a commit leaves is tracked.
use Rattle.std.proofs.Common.{◌≡◌, ◌%◌, ℕ, List, [], None, length, sym, ◌∙◌, ap, subst}
use Rattle.std.proofs.Math.Nat.{mul-mod_left}
use Rattle.g1_words.specs.Geometry.{Geometry}
use Rattle.g1_after.specs.Laws.{TrackedPaused}
use Rattle.g1_image.specs.Cards.{IsTracked}
use Rattle.g1_image.specs.Image.{Image}
use Rattle.g1_after.specs.Paused.{IsPaused}
use Rattle.g1_work.specs.Regions.{EverySlice}
use Rattle.g1_copy.specs.Prepared.{IsMadeFor, Prepared, written}
use Rattle.g1_copy.specs.Slices.{IsWritable}
use Rattle.g1_copy.proofs.Committed.{committed, all_writable, is_paused}

module _ (p : Prepared) (i : Image) (tracked : IsTracked i) where
  -- what the writing in place asks of the words and their width
  module _ (words : List ℕ) (width : ℕ) (e : words ≡ i.heap.words) (g : width ≡ i.heap.geometry.w) where
    pub cut_evenly : length words % width ≡ 0
    cut_evenly = (λ q. length (e q) % g q) ∙ ap (λ x. x % i.heap.geometry.w) tracked.image.heap.word_count ∙ mul-mod_left i.heap.geometry.n i.heap.geometry.w

    pub ready_there : ((set : List ℕ) × (l : List ℕ) × IsMadeFor p i set l) → EverySlice (IsWritable width p.fates p.gathered p.patches p.firsts) width words
    ready_there (set, l, made) =
        subst (λ x. EverySlice (IsWritable x p.fates p.gathered p.patches p.firsts) x words) (sym g)
        (subst (EverySlice (IsWritable i.heap.geometry.w p.fates p.gathered p.patches p.firsts) i.heap.geometry.w) (sym e) (all_writable p i set l tracked.image.heap made))

  -- the image with these parts, as the code puts it together
  abbrev pub put_together : Prepared → Geometry → List ℕ → List ℕ → Image
  put_together q geometry words log = record {
    heap = record { geometry = geometry; words = words; regions = q.regions; roots = q.roots; current = None };
    remembered = q.remembered;
    log = log;
  }

  module _ (q : Prepared) (geometry : Geometry) (words log : List ℕ) (same : q ≡ p) (g : geometry ≡ i.heap.geometry) (e : words ≡ written p i.heap.geometry.w i.heap.words) (empty : log ≡ []) where
    is_committed : put_together q geometry words log ≡ committed p i
    is_committed = λ t. put_together (same t) (g t) (e t) (empty t)

    -- it is the image after, for whatever set and survivors it was made
    pub paused_parts : (set l : List ℕ) → IsMadeFor p i set l → IsPaused i set l (put_together q geometry words log)
    paused_parts set l made = subst (IsPaused i set l) (sym is_committed) (is_paused p i set l tracked.image.heap made)

    -- and is tracked
    pub tracked_parts : TrackedPaused → ((set : List ℕ) × (l : List ℕ) × IsMadeFor p i set l) → IsTracked (put_together q geometry words log)
    tracked_parts law (set, l, made) = law i set l (put_together q geometry words log) tracked made.room (paused_parts set l made)
