-- The bytes of each region, object by object.
use Rattle.std.proofs.Common.{◌≡◌, ◌≢◌, ◌≤◌, ◌<◌, ℕ, zero, suc, ◌+◌, ◌*◌, ◌/◌, ◌^◌, Bool, List, [], ◌∷◌, ◌++◌, map, filter, flat_map, length, get_or, set, take, drop, slice_index, replicate}
use Rattle.std.proofs.Common.{Contains, arith, refl, sym, ap, subst, ◌∙◌, eqb, length-set, get_or-set_same, get_or-set_other}
use Rattle.std.specs.List.{range_with_len}
use Rattle.std.proofs.lemmas.List.{get_or-map}
use native.Mathlib.Decide.{ℕ_discrete}
use Rattle.g1_words.specs.Geometry.{most_words}
use Rattle.g1_words.specs.declared.object.Object.{Object}
use Rattle.g1_words.specs.Heap.{Heap, word, regions, region_of, objects, objects_in, object_at}
use Rattle.g1_words.specs.Layout.{sizes_of}
use Rattle.g1_words.specs.Lists.{has}
use Rattle.g1_words.specs.Live.{bytes_where, IsLiveBytes}
use Rattle.g1_words.specs.Survivors.{firsts, seeds, children, Survivors}
use Rattle.g1_words.specs.Valid.{IsValid}
use Rattle.g1_words.proofs.Bounds.{object_within}
use Rattle.g1_words.proofs.Computed.{contains_has, Contains-range, range_below}
use Rattle.g1_words.proofs.Firsts.{Distinct, Distinct-firsts, Distinct-apart}
use Rattle.g1_words.proofs.Members.{Contains-flat_map, flat_map_cases, has_from_contains, Contains-from_has}
use Rattle.g1_words.proofs.OneToOne.{reached_object}
use Rattle.g1_frontier.proofs.Marks.{firsts_again}
use Rattle.g1_words.proofs.Ordered.{Ordered, Ordered-from_pairs}
use Rattle.g1_words.proofs.Rising.{IsBefore, objects_apart}
use Rattle.g1_words.proofs.Sound.{sound}
use Rattle.g1_mark.specs.Marked.{used}
use Rattle.g1_mark.proofs.Reaching.{live_from_reached, reached_from_live}
use Rattle.g1_mark.proofs.Sums.{sizes, ordered_part, sizes_fit, sizes_more, sizes_none, sizes_one}

-- for each region, 8 bytes for each word of its objects at these addresses
pub record AreBytesOf (h : Heap) (addresses bytes : List ℕ) : Type 0 where
  pub one_each : length bytes ≡ h.geometry.n
  pub each : (r : ℕ) → r < h.geometry.n → slice_index bytes r ≡ bytes_where h (has addresses) r

-- ---- a list by its places

map_range : (f : ℕ → ℕ) (a n : ℕ) (xs : List ℕ) → length xs ≡ n → ((r : ℕ) → r < n → slice_index xs r ≡ f (a + r)) → xs ≡ map f (range_with_len a n)
map_range f a zero [] len h = refl
map_range f a zero (x ∷ xs) len h = absurd (omega (arith, len))
map_range f a (suc n) [] len h = absurd (omega (arith, len))
map_range f a (suc n) (x ∷ xs) len h =
    let first : x ≡ f a = h 0 (omega arith) ∙ ap f (let e : a + 0 ≡ a = omega arith in e) in
    let rest : xs ≡ map f (range_with_len (a + 1) n) = map_range f (a + 1) n xs (omega (arith, len))
    (λ r lt. h (suc r) (omega (arith, lt)) ∙ ap f (let e : a + suc r ≡ a + 1 + r = omega arith in e)) in
    λ i. first i ∷ rest i

abbrev pub zeros : ℕ → List ℕ
zeros n = replicate n 0

zero_at : (n r : ℕ) → slice_index (zeros n) r ≡ 0
zero_at zero r = refl
zero_at (suc n) zero = refl
zero_at (suc n) (suc r) = zero_at n r

len_zeros : (n : ℕ) → length (zeros n) ≡ n
len_zeros zero = refl
len_zeros (suc n) = let k = len_zeros n in omega (arith, k)

no_objects : (os : List Object) → sizes (filter (λ o. has [] o.at) os) ≡ 0
no_objects [] = refl
no_objects (o ∷ os) = no_objects os

-- the size that is listed for an address
pub size_there : (h : Heap) (addresses listed : List ℕ) (i x : ℕ) → listed ≡ sizes_of h addresses → i < length addresses → x ≡ get_or listed i 0 → x ≡ word h (get_or addresses i 0) / 2 ^ 32
size_there h addresses listed i x e lt read = read ∙ ap (λ l. get_or l i 0) e ∙ get_or-map (λ a. (object_at h a).size) addresses i 0 0 lt

-- what is read behind the first so many
split_at : (xs : List ℕ) (i : ℕ) (d : ℕ) → i < length xs → xs ≡ take i xs ++ get_or xs i d ∷ drop (i + 1) xs
split_at [] i d lt = absurd (omega (arith, lt))
split_at (x ∷ xs) zero d lt = refl
split_at (x ∷ xs) (suc i) d lt =
    let e : suc (i + 1) ≡ suc i + 1 = omega arith in
    ap (λ l. x ∷ l) (split_at xs i d (omega (arith, lt))) ∙ ap (λ n. x ∷ (take i xs ++ get_or xs i d ∷ drop n (x ∷ xs))) e

module _ (h : Heap) (valid : IsValid h) where
  region_ordered : (r : ℕ) → r < h.geometry.n → Ordered IsBefore (objects_in h r)
  region_ordered r lt = ordered_part IsBefore (objects_in h) (regions h) r (Ordered-from_pairs IsBefore (objects h) (objects_apart h valid))
      (Contains-range 0 h.geometry.n r (omega arith) (omega (arith, lt)))

  of_heap : (r : ℕ) (o : Object) → r < h.geometry.n → Contains (objects_in h r) o → Contains (objects h) o
  of_heap r o lt i = Contains-flat_map (objects_in h) (regions h) r o (Contains-range 0 h.geometry.n r (omega arith) (omega (arith, lt))) i

  -- a region's objects take no more words than the heap has
  sizes_few : (test : ℕ → Bool) (r : ℕ) → r < h.geometry.n → sizes (filter (λ o. test o.at) (objects_in h r)) ≤ most_words
  sizes_few test r lt =
      let k = sizes_fit (λ o. test o.at) 0 (h.geometry.n * h.geometry.w) (objects_in h r) (region_ordered r lt) (λ o i. omega arith)
      (λ o i. object_within h valid o (contains_has h o valid.shaped (of_heap r o lt i))) (omega arith) in
      omega (arith, k, valid.limits.words_most)

  pub bytes_few : (test : ℕ → Bool) (r : ℕ) → r < h.geometry.n → bytes_where h test r ≤ 8 * most_words
  bytes_few test r lt = let k = sizes_few test r lt in omega (arith, k)

  module _ (a : ℕ) (object : Contains (objects h) (object_at h a)) where
    -- it lies in a region of the heap, and its header among the words
    pub region_there : region_of h a < h.geometry.n
    region_there =
        let m = flat_map_cases (objects_in h) (regions h) (object_at h a) object in
        let e = (sound h valid).in_region m.0 (object_at h a) m.2 in
        omega (arith, range_below 0 h.geometry.n m.0 m.1, e)

    pub word_there : a < length h.words
    word_there =
        let fit = (sound h valid).slots_fit (object_at h a) object in
        let end = object_within h valid (object_at h a) (contains_has h (object_at h a) valid.shaped object) in
        omega (arith, fit, end, valid.word_count)

    in_its_region : Contains (objects_in h (region_of h a)) (object_at h a)
    in_its_region =
        let m = flat_map_cases (objects_in h) (regions h) (object_at h a) object in
        let e : region_of h a ≡ m.0 = (sound h valid).in_region m.0 (object_at h a) m.2 in
        subst (λ r. Contains (objects_in h r) (object_at h a)) (sym e) m.2

    sizes_here : sizes (filter (λ o. eqb o.at a) (objects_in h (region_of h a))) ≡ (object_at h a).size
    sizes_here = sizes_one (object_at h a) (objects_in h (region_of h a)) (region_ordered (region_of h a) region_there)
        (λ o i. let fit = (sound h valid).slots_fit o (of_heap (region_of h a) o region_there i) in omega (arith, fit)) in_its_region

    sizes_else : (r : ℕ) → r ≢ region_of h a → sizes (filter (λ o. eqb o.at a) (objects_in h r)) ≡ 0
    sizes_else r d = sizes_none a (objects_in h r) (λ o i e. d (sym ((sound h valid).in_region r o i) ∙ ap (region_of h) e))

    module _ (front : List ℕ) (new : Contains front a → ⊥) where
      pub bytes_here : bytes_where h (has (front ++ a ∷ [])) (region_of h a) ≡ bytes_where h (has front) (region_of h a) + 8 * (word h a / 2 ^ 32)
      bytes_here = let k = sizes_more front a (objects_in h (region_of h a)) new in let s = sizes_here in omega (arith, k, s)

      bytes_else : (r : ℕ) → r ≢ region_of h a → bytes_where h (has (front ++ a ∷ [])) r ≡ bytes_where h (has front) r
      bytes_else r d = let k = sizes_more front a (objects_in h r) new in let s = sizes_else r d in omega (arith, k, s)

      pub counted_more : (bytes : List ℕ) (region size : ℕ) → AreBytesOf h front bytes → region ≡ region_of h a → size ≡ word h a / 2 ^ 32
          → AreBytesOf h (front ++ a ∷ []) (set bytes region (slice_index bytes region + 8 * size))
      counted_more bytes region size b e f = record {
        one_each = length-set bytes region (slice_index bytes region + 8 * size) ∙ b.one_each;
        each = λ r lt. elim (ℕ_discrete r region) [
          | yes same ↦
              subst (λ q. slice_index (set bytes region (slice_index bytes region + 8 * size)) q ≡ bytes_where h (has (front ++ a ∷ [])) q) (sym same)
              (get_or-set_same bytes region (slice_index bytes region + 8 * size) 0 (omega (arith, e, region_there, b.one_each))
              ∙ (let k : slice_index bytes region ≡ bytes_where h (has front) region = b.each region (omega (arith, e, region_there)) in
              let m : bytes_where h (has (front ++ a ∷ [])) region ≡ bytes_where h (has front) region + 8 * (word h a / 2 ^ 32) =
              subst (λ q. bytes_where h (has (front ++ a ∷ [])) q ≡ bytes_where h (has front) q + 8 * (word h a / 2 ^ 32)) (sym e) bytes_here in
              omega (arith, k, m, f)))
          | no d ↦ get_or-set_other bytes region r (slice_index bytes region + 8 * size) 0 d ∙ b.each r lt ∙ sym (bytes_else r (λ z. d (z ∙ sym e)))
        ];
      }

  pub counted_none : (bytes : List ℕ) → bytes ≡ zeros h.geometry.n → AreBytesOf h [] bytes
  counted_none bytes e = record {
    one_each = ap length e ∙ len_zeros h.geometry.n;
    each = λ r lt. ap (λ l. slice_index l r) e ∙ zero_at h.geometry.n r ∙ (let k = no_objects (objects_in h r) in omega (arith, k));
  }

  pub counted_all : (addresses bytes : List ℕ) → AreBytesOf h addresses bytes → bytes ≡ map (bytes_where h (has addresses)) (regions h)
  counted_all addresses bytes b = map_range (bytes_where h (has addresses)) 0 h.geometry.n bytes b.one_each (λ r lt. b.each r lt
      ∙ ap (bytes_where h (has addresses)) (let e : r ≡ 0 + r = omega arith in e))

-- an address of a list without repeats isn't among those before it
pub not_before : (xs : List ℕ) (i : ℕ) → xs ≡ firsts xs → i < length xs → Contains (take i xs) (get_or xs i 0) → ⊥
not_before xs i e lt k =
    Distinct-apart (take i xs) (get_or xs i 0) (drop (i + 1) xs) (subst Distinct (split_at xs i 0 lt) (subst Distinct (sym e) (Distinct-firsts xs))) k

-- the roots reach exactly the survivors of the used regions
module _ (h : Heap) (valid : IsValid h) (live : List ℕ) (found : Survivors h (used h) live) where
  pub found_objects : (a : ℕ) → Contains live a → Contains (objects h) (object_at h a)
  found_objects a i = reached_object h (used h) (sound h valid) a ((found.reached a).0 i)

  pub found_once : live ≡ firsts live
  found_once = found.in_order ∙ sym (ap firsts found.in_order ∙ firsts_again (seeds h (used h) ++ flat_map (children h (used h)) live))

  pub live_counted : (bytes : List ℕ) → bytes ≡ map (bytes_where h (has live)) (regions h) → IsLiveBytes h bytes
  live_counted bytes e = record {
    test = has live;
    passes = λ a. (
      (λ t. live_from_reached h valid a ((found.reached a).0 (Contains-from_has live a t))),
      (λ l. has_from_contains live a ((found.reached a).1 (reached_from_live h valid a l))),
    );
    bytes = e;
  }
