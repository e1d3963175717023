-- The lines of an image are lines of words: its numbers have 64 bits.
use Rattle.std.proofs.Common.{ℕ, zero, suc, ◌+◌, ◌-◌, ◌*◌, ◌/◌, ◌<◌, ◌≤◌, ◌^◌, inl, inr, Bool, true, false, List, [], ◌∷◌, ◌++◌, length, get_or, drop, map, flat_map, refl, arith, Contains}
use Rattle.std.specs.Prelude.{Option, Some, None, IfSome, decimal, codes, slice_index, nat_lt}
use Rattle.std.proofs.Math.Nat.{mul-le-mul_left}
use Rattle.g1_words.specs.Geometry.{most_words, most_region_words}
use Rattle.g1_words.specs.Heap.{Heap, kind, top, pinned, regions, objects_in, objects_by, object_at, tiles, start, end}
use Rattle.g1_words.specs.Kind.{kind_word}
use Rattle.g1_words.specs.Valid.{IsObject, IsReference}
use Rattle.g1_words.specs.declared.object.Object.{Object}
use Rattle.g1_words.specs.declared.region.Kind.{Kind}
use Rattle.g1_words.specs.declared.region.Kind.TheVariants.{Free, Ordinary, HumongousFirst, Continuation}
use Rattle.g1_words.proofs.Bounds.{object_within}
use Rattle.g1_words.proofs.Computed.{in_region_has}
use Rattle.g1_words.proofs.Objects.{object_stands, tops_fit}
use Rattle.g1_words.proofs.Sound.{stands_object}
use Rattle.g1_image.specs.Image.{Image, IsImage, IsUsedCard, remembered_of}
use Rattle.g1_text.specs.Lines.{reference_word, current_word, heading, root_line, root_lines, log_lines, pinned_words, region_line, remembered_lines, slot_values, data_values, object_line}
use Rattle.g1_text.specs.Lines.{region_lines, image_lines}
use Rattle.g1_text.proofs.Splitting.{IsWord, AreWords, IsLine, AreLines, Small, by_letters, number_word, numbers_words, reference_is_word, references_words, words_append, word_append}
use Rattle.g1_text.proofs.Splitting.{lines_append, small_all, small_drop, small_take, small_at, range_lines, range_of_lines, member_lines}

tiles_few : (h : Heap) (m from to : ℕ) → length (tiles h m from to) ≤ m
tiles_few h zero from to = omega arith
tiles_few h (suc m) from to = go (nat_lt from to) (tiles_few h m (from + (object_at h from).size) to)
  where
    go : (b : Bool) → length (tiles h m (from + (object_at h from).size) to) ≤ m
        → length (elim b as (λ _. List Object) [ true ↦ object_at h from ∷ tiles h m (from + (object_at h from).size) to | false ↦ [] ]) ≤ suc m
    go true few = omega (arith, few)
    go false few = omega arith

pub objects_few : (k : Kind) (h : Heap) (r : ℕ) → length (objects_by k h r) ≤ top h r + 1
objects_few Free h r = omega arith
objects_few Ordinary h r = let few = tiles_few h (top h r) (start h r) (end h r) in omega (arith, few)
objects_few HumongousFirst h r = omega arith
objects_few Continuation h r = omega arith

kind_is_word : (k : Kind) → IsWord (kind_word k)
kind_is_word Free = by_letters (codes "free") refl
kind_is_word Ordinary = by_letters (codes "ordinary") refl
kind_is_word HumongousFirst = by_letters (codes "humongous") refl
kind_is_word Continuation = by_letters (codes "continuation") refl

pins_are_words : (p : Bool) → AreWords (pinned_words p)
pins_are_words true = (by_letters (codes "pinned") refl, tt)
pins_are_words false = tt

current_is_word : (c : Option ℕ) → IfSome c (λ r. r < 2 ^ 64) → IsWord (current_word c)
current_is_word None small = by_letters (codes "none") refl
current_is_word (Some r) small = number_word r small

pub current_small : (c : Option ℕ) (n : ℕ) → n ≤ 4096 → IfSome c (λ r. r < n) → IfSome c (λ r. r < 2 ^ 64)
current_small None n most small = tt
current_small (Some r) n most small = omega (arith, most, small)

logged : (cards : List ℕ) → Small cards → AreLines (log_lines cards)
logged [] s = tt
logged (c ∷ cs) s = ((by_letters (codes "dirty") refl, (by_letters (codes "cards") refl, numbers_words (c ∷ cs) s)), tt)

remembered_are_lines : (r : ℕ) (cards : List ℕ) → r < 2 ^ 64 → Small cards → AreLines (remembered_lines r cards)
remembered_are_lines r [] small s = tt
remembered_are_lines r (c ∷ cs) small s = ((by_letters (codes "remembered") refl, (number_word r small, (by_letters (codes "cards") refl, numbers_words (c ∷ cs) s))), tt)

module _ (i : Image) (good : IsImage i) where
  few_words : i.heap.geometry.n * i.heap.geometry.w ≤ most_words
  few_words = good.heap.limits.words_most

  words_small : Small i.heap.words
  words_small = small_all i.heap.words good.heap.word_fits

  card_small : (c : ℕ) → IsUsedCard i.heap c → c < 2 ^ 64
  card_small c used =
      let more : c * 4 ≤ c * i.heap.geometry.k = mul-le-mul_left c good.heap.limits.k_least in
      omega (arith, more, used.in_heap, few_words)

  pub log_small : Small i.log
  log_small = small_all i.log (λ k d lt. card_small (get_or i.log k d) (good.log.used k d lt))

  pub remembered_small : (r : ℕ) → r < i.heap.geometry.n → Small (remembered_of i r)
  remembered_small r lt = small_all (remembered_of i r) (λ k d l. card_small (get_or (remembered_of i r) k d) ((good.remembered r lt).elsewhere k d l).0)

  reference_small : (x : ℕ) → IsReference i.heap x → x < 2 ^ 64
  reference_small x (inl e) = omega (arith, e)
  reference_small x (inr r) = let within = object_within i.heap good.heap r.0 r.1 in omega (arith, within, r.2, few_words)

  pub roots_small : Small i.heap.roots
  roots_small = small_all i.heap.roots (λ k d lt. reference_small (get_or i.heap.roots k d) (good.heap.roots k d lt))

  pub top_small : (r : ℕ) → r < i.heap.geometry.n → top i.heap r ≤ most_region_words
  top_small r lt = let t = tops_fit i.heap good.heap r (record { kind = Free; top = 0; pinned = false }) (omega (arith, lt, good.heap.region_count)) in omega (arith, t, good.heap.limits.w_most)

  -- an object's numbers
  pub object_small : (r : ℕ) (o : Object) → r < i.heap.geometry.n → Contains (objects_in i.heap r) o → (o.at < 2 ^ 64) × (o.size < 2 ^ 64) × (o.refs < 2 ^ 64)
  object_small r o lt m =
      let has = in_region_has i.heap r o good.heap.shaped lt m in
      let within = object_within i.heap good.heap o has in
      let stands = object_stands i.heap o (o.at / i.heap.geometry.w) good.heap has refl in
      let object : IsObject i.heap.words o = stands_object (kind i.heap (o.at / i.heap.geometry.w)) i.heap (o.at / i.heap.geometry.w) o stands.1 in
      (omega (arith, within, few_words), omega (arith, object.size_fits), omega (arith, object.size_fits, object.refs_fit))

  pub slots_small : (o : Object) → Small (slot_values i.heap.words o)
  slots_small o = small_take (o.at + 1 + o.refs - (o.at + 1)) (drop (o.at + 1) i.heap.words) (small_drop (o.at + 1) i.heap.words words_small)

  pub data_small : (o : Object) → Small (data_values i.heap.words o)
  data_small o = small_take (o.at + o.size - (o.at + 1 + o.refs)) (drop (o.at + 1 + o.refs) i.heap.words) (small_drop (o.at + 1 + o.refs) i.heap.words words_small)

  object_is_line : (r : ℕ) (o : Object) → r < i.heap.geometry.n → Contains (objects_in i.heap r) o → IsLine (object_line i.heap.words o)
  object_is_line r o lt m =
      let small = object_small r o lt m in (
        by_letters (codes "object") refl,
        (
          number_word o.at small.0,
          (
            word_append (decimal o.size) (47 ∷ decimal o.refs) (number_word o.size small.1) ((λ e. absurd (omega (arith, e))), (λ e. absurd (omega (arith, e))), number_word o.refs small.2),
            words_append (map reference_word (slot_values i.heap.words o)) (map decimal (data_values i.heap.words o))
                (references_words (slot_values i.heap.words o) (slots_small o)) (numbers_words (data_values i.heap.words o) (data_small o)),
          ),
        ),
      )

  region_is_line : (r : ℕ) → r < i.heap.geometry.n → IsLine (region_line i r)
  region_is_line r lt =
      let most = good.heap.limits.n_most in
      let tops = top_small r lt in
      let few = objects_few (kind i.heap r) i.heap r in (
        by_letters (codes "region") refl,
        (
          number_word r (omega (arith, lt, most)),
          (
            kind_is_word (kind i.heap r),
            (
              by_letters (codes "top") refl,
              (
                number_word (top i.heap r) (omega (arith, tops)),
                (
                  by_letters (codes "objects") refl,
                  (
                    number_word (length (objects_in i.heap r)) (omega (arith, few, tops)),
                    (
                      by_letters (codes "cards") refl,
                      (
                        number_word (length (remembered_of i r)) (omega (arith, (good.remembered r lt).count)),
                        pins_are_words (pinned i.heap r),
                      ),
                    ),
                  ),
                ),
              ),
            ),
          ),
        ),
      )

  region_are_lines : (r : ℕ) → r < i.heap.geometry.n → AreLines (region_lines i r)
  region_are_lines r lt = (
    region_is_line r lt,
    lines_append (remembered_lines r (remembered_of i r)) (map (object_line i.heap.words) (objects_in i.heap r))
        (remembered_are_lines r (remembered_of i r) (let most = good.heap.limits.n_most in omega (arith, lt, most)) (remembered_small r lt))
        (member_lines (object_line i.heap.words) (objects_in i.heap r) (λ o m. object_is_line r o lt m)),
  )

  heading_is_line : IsLine (heading i)
  heading_is_line =
      let limits = good.heap.limits in (
        by_letters (codes "heap") refl,
        (
          number_word i.heap.geometry.w (omega (arith, limits.w_most)),
          (
            number_word i.heap.geometry.k (omega (arith, limits.k_most)),
            (
              number_word i.heap.geometry.n (omega (arith, limits.n_most)),
              (
                by_letters (codes "roots") refl,
                (
                  number_word (length i.heap.roots) (omega (arith, good.heap.root_count)),
                  (
                    by_letters (codes "dirty") refl,
                    (
                      number_word (length i.log) (omega (arith, good.log.count)),
                      (by_letters (codes "current") refl, (current_is_word i.heap.current (current_small i.heap.current i.heap.geometry.n limits.n_most good.heap.current_in), tt)),
                    ),
                  ),
                ),
              ),
            ),
          ),
        ),
      )

  roots_are_lines : AreLines (root_lines i.heap.roots)
  roots_are_lines = range_lines (λ m. root_line m (slice_index i.heap.roots m)) 0 (length i.heap.roots)
      (λ m lt. (by_letters (codes "root") refl, (number_word m (omega (arith, lt, good.heap.root_count)), (reference_is_word (slice_index i.heap.roots m) (small_at i.heap.roots m roots_small), tt))))

  pub image_are_lines : AreLines (image_lines i)
  image_are_lines = (
    heading_is_line,
    lines_append (root_lines i.heap.roots ++ log_lines i.log) (flat_map (region_lines i) (regions i.heap))
        (lines_append (root_lines i.heap.roots) (log_lines i.log) roots_are_lines (logged i.log log_small))
        (range_of_lines (region_lines i) 0 i.heap.geometry.n (λ r lt. region_are_lines r (omega (arith, lt)))),
  )
