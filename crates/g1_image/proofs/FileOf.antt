-- The file of an image: its numbers fit, and it tells the image's heap.
use Rattle.std.proofs.Common.{◌≡◌, ◌≢◌, ◌≤◌, ◌<◌, ℕ, zero, suc, ◌+◌, ◌-◌, ◌*◌, ◌/◌, ◌^◌, inl, inr, List, [], ◌∷◌, ◌++◌, length, take, drop, replicate, slice_index, slice_index_or, min, map}
use Rattle.std.proofs.Common.{arith, refl, sym, ap, subst, ◌∙◌, length-append, length-drop, length-take, get_or-drop}
use Rattle.std.specs.Prelude.{◌↔◌, ◌==◌, Bool, true, false, IsFalse, All, Option, Some, None, IfSome, unwrap_or, nat_lt, if◌then◌else◌}
use Rattle.std.proofs.lemmas.List.{length-map, get_or_default, get_or_past, get_or-map, take-append-drop, drop-drop}
use Rattle.std.proofs.lemmas.Grind.{get_or_default_zero}
use Rattle.std.proofs.lemmas.Bool.{cases_lt, lt-ltb, le-ltb}
use Rattle.std.proofs.Math.Nat.{mul-le-mul_left}
use Rattle.std.proofs.Math.Seq.{drop-append_seam, take-append_seam}
use Rattle.g1_words.specs.Geometry.{IsWithin}
use Rattle.g1_words.specs.Heap.{Heap, free_region, region, pinned}
use Rattle.g1_words.specs.Valid.{IsValid, IsReference}
use Rattle.g1_words.specs.declared.region.Region.{Region}
use Rattle.g1_words.specs.declared.region.Kind.{Kind}
use Rattle.g1_words.specs.declared.region.Kind.TheVariants.{Free, Ordinary, HumongousFirst, Continuation}
use Rattle.g1_words.proofs.Objects.{object_stands, stands_within, region_in_words, tops_fit}
use Rattle.g1_words.specs.declared.limits.Limits.{Limits}
use Rattle.g1_image.specs.Text.{Entry, Version, file_text, table_words}
use Rattle.g1_image.specs.declared.cursor.Version.TheVariants.{One, Two}
use Rattle.g1_image.specs.Reading.{IsU32, IsU64}
use Rattle.g1_image.specs.Faults.{FlagsFit, EntryFits, RememberedFits, FileFits}
use Rattle.g1_words.specs.Kind.{kind_number, kind_of}
use Rattle.g1_image.specs.Image.{Image, IsImage, CanTell, IsTextIn, IsTextWithin, IsUsedCard, region_of_card, remembered_of, flags_of, entry_of, region_of_entry, used_words, all_words, file_of, heap_of}
use Rattle.g1_image.proofs.Words.{table_words-cons}
use Rattle.g1_image.proofs.OneFile.{one_file}
use Rattle.g1_image.proofs.Drafts.{Bounded, bounded_append, bounded_take}

-- the number of a kind has few bits
pub kind_fits : (k : Kind) → kind_number k < 2 ^ 32
kind_fits Free = omega arith
kind_fits Ordinary = omega arith
kind_fits HumongousFirst = omega arith
kind_fits Continuation = omega arith

-- the number of a kind tells the kind
pub kind_there : (k : Kind) → kind_of (kind_number k) ≡ k
kind_there Free = refl
kind_there Ordinary = refl
kind_there HumongousFirst = refl
kind_there Continuation = refl

-- the flags of a region tell whether it is pinned
pub pin_there : (b : Bool) → flags_of b == 1 ≡ b
pin_there false = refl
pin_there true = refl

-- the version can tell whether one region is pinned
abbrev TellsPin : Version → Bool → Type 0
TellsPin One b = IsFalse b
TellsPin Two b = Unit {0}

told_at : (v : Version) (h : Heap) (k : ℕ) → k < length h.regions → CanTell v h → TellsPin v (slice_index_or h.regions k free_region).pinned
told_at One h k lt tells = tells k free_region lt
told_at Two h k lt tells = tt

-- flags that the version can tell
flags_fit : (v : Version) (b : Bool) → TellsPin v b → FlagsFit v (flags_of b)
flags_fit One b none = ap flags_of none
flags_fit Two false any = omega arith
flags_fit Two true any = omega arith

-- as many used words as the table announces
length-used_words : (w : ℕ) (qs : List Region) (words : List ℕ) → All (λ q. q.top ≤ w) qs → length words ≡ length qs * w → length (used_words w qs words) ≡ table_words (map entry_of qs)
length-used_words w [] words tops e = refl
length-used_words w (q ∷ qs) words tops e =
    let top : q.top ≤ w = tops 0 q (omega arith) in
    let rest : length (used_words w qs (drop w words)) ≡ table_words (map entry_of qs) =
    length-used_words w qs (drop w words) (λ k d lt. tops (suc k) d (omega (arith, lt))) (omega (arith, length-drop w words, e)) in
    omega (arith, length-append (take q.top words) (used_words w qs (drop w words)), length-take q.top words, rest, top, e, table_words-cons (entry_of q) (map entry_of qs))

-- used words fit where all words do
bounded_used : (w : ℕ) (qs : List Region) (words : List ℕ) → Bounded words → Bounded (used_words w qs words)
bounded_used w [] words b = λ i. omega arith
bounded_used w (q ∷ qs) words b =
    bounded_append (take q.top words) (used_words w qs (drop w words)) (bounded_take q.top words b)
    (bounded_used w qs (drop w words) (λ i. rw (get_or-drop w words i 0) (b (w + i))))

-- words that are 0 to begin with
zeros_first : (n : ℕ) (xs : List ℕ) → n ≤ length xs → ((i : ℕ) → i < n → slice_index xs i ≡ 0) → xs ≡ replicate n 0 ++ drop n xs
zeros_first zero xs le z = refl
zeros_first (suc n) [] le z = absurd (omega (arith, le))
zeros_first (suc n) (x ∷ xs) le z =
    let first : x ≡ 0 = z 0 (omega arith) in
    let rest : xs ≡ replicate n 0 ++ drop n xs = zeros_first n xs (omega (arith, le)) (λ i lt. z (suc i) (omega (arith, lt))) in
    λ t. first t ∷ rest t

-- the words of a region: its used words, zeros, and what stands behind it
region_words : (w top : ℕ) (words : List ℕ) → top ≤ w → w ≤ length words → ((i : ℕ) → top ≤ i → i < w → slice_index words i ≡ 0) →
    take top words ++ (replicate (w - top) 0 ++ drop w words) ≡ words
region_words w top words fits le zeros =
    let behind : drop top words ≡ replicate (w - top) 0 ++ drop (w - top) (drop top words) =
    zeros_first (w - top) (drop top words) (omega (arith, length-drop top words, le, fits))
    (λ i lt. get_or-drop top words i 0 ∙ zeros (top + i) (omega arith) (omega (arith, lt, fits))) in
    let same : drop (w - top) (drop top words) ≡ drop w words =
    drop-drop (w - top) top words ∙ ap (λ k. drop k words) (let e : top + (w - top) ≡ w = omega (arith, fits) in e) in
    sym (sym (take-append-drop top words) ∙ ap (λ l. take top words ++ l) (behind ∙ ap (λ l. replicate (w - top) 0 ++ l) same))

-- words that are 0 above each region's top are told by the used ones
words_again : (w : ℕ) (qs : List Region) (words : List ℕ) → All (λ q. q.top ≤ w) qs → length words ≡ length qs * w →
    ((r i : ℕ) → r < length qs → (slice_index_or qs r free_region).top ≤ i → i < w → slice_index words (r * w + i) ≡ 0) →
    all_words w (map entry_of qs) (used_words w qs words) ≡ words
words_again w [] [] tops e zeros = refl
words_again w [] (x ∷ words) tops e zeros = absurd (omega (arith, e))
words_again w (q ∷ qs) words tops e zeros =
    let top : q.top ≤ w = tops 0 q (omega arith) in
    let whole : w ≤ length words = omega (arith, e) in
    let used : List ℕ = used_words w qs (drop w words) in
    let count : length (take q.top words) ≡ q.top = omega (arith, length-take q.top words, top, whole) in
    let least : min q.top w ≡ q.top = omega (arith, top) in
    let front : take (min q.top w) (take q.top words ++ used) ≡ take q.top words =
    ap (λ k. take k (take q.top words ++ used)) (least ∙ sym count) ∙ take-append_seam (take q.top words) used in
    let behind : drop q.top (take q.top words ++ used) ≡ used =
    ap (λ k. drop k (take q.top words ++ used)) (sym count) ∙ drop-append_seam (take q.top words) used in
    let rest : all_words w (map entry_of qs) used ≡ drop w words =
    words_again w qs (drop w words) (λ k d lt. tops (suc k) d (omega (arith, lt))) (omega (arith, length-drop w words, e))
    (λ r i lt ge il. get_or-drop w words (r * w + i) 0 ∙ (let p : w + (r * w + i) ≡ suc r * w + i = omega arith in ap (λ k. slice_index words k) p) ∙ zeros (suc r) i (omega (arith, lt)) ge il) in
    (λ t. front t ++ (replicate (w - q.top) 0 ++ all_words w (map entry_of qs) (behind t)))
    ∙ ap (λ l. take q.top words ++ (replicate (w - q.top) 0 ++ l)) rest
    ∙ region_words w q.top words top whole (λ i ge il. (let p : i ≡ 0 * w + i = omega arith in ap (λ k. slice_index words k) p) ∙ zeros 0 i (omega arith) ge il)

-- the regions that their entries tell
pub regions_again : (qs : List Region) → map region_of_entry (map entry_of qs) ≡ qs
regions_again [] = refl
regions_again (q ∷ qs) = λ t. record { kind = kind_there q.kind t; top = q.top; pinned = pin_there q.pinned t } ∷ regions_again qs t

-- the current region that its number tells
current_again : (n : ℕ) (c : Option ℕ) → IfSome c (λ r. r < n) → (if nat_lt (unwrap_or c n) n then Some (unwrap_or c n) else None) ≡ c
current_again n None lt = ap (λ b. if b then Some n else None) (le-ltb n n (omega arith))
current_again n (Some r) lt = ap (λ b. if b then Some r else None) (lt-ltb r n lt)

-- the file of an image tells its heap
pub heap_of_file : (v : Version) (i : Image) → IsImage i → heap_of (file_of v i) ≡ i.heap
heap_of_file v i image =
    let valid : IsValid i.heap = image.heap in
    let size : length i.heap.words ≡ length i.heap.regions * i.heap.geometry.w = valid.word_count ∙ ap (λ n. n * i.heap.geometry.w) (sym valid.region_count) in
    let words = words_again i.heap.geometry.w i.heap.regions i.heap.words (tops_fit i.heap valid) size (λ r k lt. valid.zero_above r k (omega (arith, lt, valid.region_count))) in
    λ t. record {
      geometry = i.heap.geometry;
      words = words t;
      regions = regions_again i.heap.regions t;
      roots = i.heap.roots;
      current = current_again i.heap.geometry.n i.heap.current valid.current_in t;
    }

-- a reference word of a valid heap has few bits
reference_fits : (h : Heap) (x : ℕ) → IsValid h → IsReference h x → IsU64 x
reference_fits h x valid (inl e) = omega (arith, e)
reference_fits h x valid (inr (o, has, e)) =
    let s = object_stands h o (o.at / h.geometry.w) valid has refl in
    let some : 0 < h.geometry.w = omega (arith, valid.limits.w_least) in
    let within = stands_within (region h (o.at / h.geometry.w)).kind h (o.at / h.geometry.w) o some (valid.shaped (o.at / h.geometry.w) s.0).by_kind s.1 in
    omega (arith, within.to, region_in_words h (o.at / h.geometry.w) valid s.0, valid.word_count, valid.limits.words_most, e)

-- a card of a heap has few bits
card_fits : (h : Heap) (c : ℕ) → IsValid h → IsUsedCard h c → IsU32 c
card_fits h c valid used =
    let some : c * 1 ≤ c * h.geometry.k = mul-le-mul_left c (omega (arith, valid.limits.k_least)) in
    omega (arith, some, used.in_heap, valid.limits.words_most)

-- so have all cards
cards_fit : (h : Heap) (P : ℕ → Type 0) (cards : List ℕ) → IsValid h → All P cards → ((c : ℕ) → P c → IsUsedCard h c) → All IsU32 cards
cards_fit h P cards valid all used k d lt = card_fits h (slice_index_or cards k d) valid (used (slice_index_or cards k d) (all k d lt))

-- the number that stands for a current region, or for none
current_fits : (n : ℕ) (c : Option ℕ) → IfSome c (λ r. r < n) → unwrap_or c n ≤ n
current_fits n None lt = omega arith
current_fits n (Some r) lt = omega (arith, lt)

-- every number of an image's file has the bits that its text gives it
pub file_fits : (limits : Limits) (v : Version) (i : Image) → IsImage i → CanTell v i.heap → IsWithin limits i.heap.geometry.w i.heap.geometry.k i.heap.geometry.n → FileFits limits (file_of v i)
file_fits limits v i image tells within =
    let valid : IsValid i.heap = image.heap in
    let tops : All (λ q. q.top ≤ i.heap.geometry.w) i.heap.regions = tops_fit i.heap valid in
    let size : length i.heap.words ≡ length i.heap.regions * i.heap.geometry.w = valid.word_count ∙ ap (λ n. n * i.heap.geometry.w) (sym valid.region_count) in
    let current : unwrap_or i.heap.current i.heap.geometry.n ≤ i.heap.geometry.n = current_fits i.heap.geometry.n i.heap.current valid.current_in in
    let entry_fits : (k : ℕ) (d : Entry) → k < length (map entry_of i.heap.regions) → EntryFits v (slice_index_or (map entry_of i.heap.regions) k d) =
    λ k d lt.
    let there : k < length i.heap.regions = omega (arith, lt, length-map i.heap.regions entry_of) in
    let is : slice_index_or (map entry_of i.heap.regions) k d ≡ entry_of (slice_index_or i.heap.regions k free_region) = get_or-map entry_of i.heap.regions k free_region d there in
    let top : (slice_index_or i.heap.regions k free_region).top ≤ i.heap.geometry.w = tops k free_region there in
    subst (EntryFits v) (sym is) (
      kind_fits (slice_index_or i.heap.regions k free_region).kind,
      omega
          (arith, top, valid.limits.w_most),
      flags_fit v (slice_index_or i.heap.regions k free_region).pinned (told_at v i.heap k there tells),
    ) in
    let words_fit : Bounded i.heap.words = λ k. elim (cases_lt k (length i.heap.words)) [
      | inl lt ↦ valid.word_fits k 0 lt
      | inr ge ↦ (let e : slice_index i.heap.words k ≡ 0 = get_or_past i.heap.words k 0 ge in omega (arith, e))
    ] in
    let used : Bounded (used_words i.heap.geometry.w i.heap.regions i.heap.words) = bounded_used i.heap.geometry.w i.heap.regions i.heap.words words_fit in
    record {
      heading = record {
        w = omega (arith, valid.limits.w_most);
        k = omega (arith, valid.limits.k_most);
        n = omega (arith, valid.limits.n_most);
        roots = omega (arith, valid.root_count);
        dirty = image.log.count;
        current = omega (arith, current, valid.limits.n_most);
      };
      good = record { sizes = within; roots = valid.root_count; current = current };
      table = record { how_many = length-map i.heap.regions entry_of ∙ valid.region_count; each = entry_fits };
      roots = λ k d lt. reference_fits i.heap (slice_index_or i.heap.roots k d) valid (valid.roots k d lt);
      log = cards_fit i.heap (IsUsedCard i.heap) i.log valid image.log.used (λ c u. u);
      remembered = record {
        how_many = image.one_each;
        each = λ k d lt.
            let there : k < i.heap.geometry.n = omega (arith, lt, image.one_each) in
            let is : slice_index_or i.remembered k d ≡ remembered_of i k = get_or_default i.remembered k d [] lt in
            let good = image.remembered k there in
            subst RememberedFits (sym is) (good.count, cards_fit i.heap (λ c. IsUsedCard i.heap c × (region_of_card i.heap c ≢ k)) (remembered_of i k) valid good.elsewhere (λ c u. u.0));
      };
      words = record {
        how_many = length-used_words i.heap.geometry.w i.heap.regions i.heap.words tops size;
        each = λ k d lt. subst IsU64 (sym (get_or_default_zero (used_words i.heap.geometry.w i.heap.regions i.heap.words) k d lt)) (used k);
      };
    }

-- bytes are the text of one image at most
pub one_image : (limits : Limits) (bytes : List ℕ) (i j : Image) → IsTextWithin limits bytes i → IsTextWithin limits bytes j → i ≡ j
one_image limits bytes i j is it =
    let file : file_of is.0 i ≡ file_of it.0 j = one_file bytes (file_of is.0 i) (file_of it.0 j) (file_fits limits is.0 i is.1.0 is.1.1 is.2) (file_fits limits it.0 j it.1.0 it.1.1 it.2) is.1.2 it.1.2 in
    let heap : i.heap ≡ j.heap = sym (heap_of_file is.0 i is.1.0) ∙ ap heap_of file ∙ heap_of_file it.0 j it.1.0 in
    λ t. record { heap = heap t; remembered = (file t).remembered; log = (file t).log }

-- an image has a text of version 2, and one of version 1 exactly where no region is pinned
pub texts_exist : (i : Image) → IsImage i →
    ((a : List ℕ) × IsTextIn Two a i) × (((a : List ℕ) × IsTextIn One a i) ↔ ((r : ℕ) → r < i.heap.geometry.n → IsFalse (pinned i.heap r)))
texts_exist i image = (
  (file_text (file_of Two i), (image, tt, refl)),
  (
    λ x r lt. x.1.1 r free_region (omega (arith, lt, image.heap.region_count)),
    λ none. (
      file_text (file_of One i),
      (
        image,
        (λ k d lt. subst (λ q. IsFalse q.pinned) (get_or_default i.heap.regions k free_region d lt)
            (none k (omega (arith, lt, image.heap.region_count)))),
        refl,
      ),
    ),
  ),
)
