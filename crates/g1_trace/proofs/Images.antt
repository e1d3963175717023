-- What the effects do to the words of a heap.
use Rattle.std.proofs.Common.{◌≡◌, ◌≢◌, ℕ, zero, suc, ◌+◌, ◌-◌, ◌*◌, ◌/◌, ◌%◌, ◌^◌, ◌<◌, ◌≤◌, inl, inr, List, ◌∷◌, length, get_or, set, replicate, map, refl, sym, ◌∙◌, ap, subst, arith, add-zero}
use Rattle.std.specs.List.{range_with_len}
use Rattle.std.proofs.lemmas.List.{get_or-set_same, get_or-set_other}
use Rattle.std.proofs.lemmas.List.FromFn.{length-map-range_with_len}
use Rattle.g1_words.specs.Heap.{Heap, object_at, word}
use Rattle.g1_trace.specs.Mutator.{heap_view}
use Rattle.g1_trace.specs.Views.{Seen}
use Rattle.g1_trace.proofs.ChangedViews.{IsRootSet, IsSlotSet, IsValueSet, IsMade}
use Rattle.g1_trace.proofs.Laid.{IsLaid, IsUnused}
use Rattle.g1_trace.proofs.Views.{equal_or_not}

module _ (ws : List ℕ) (p y : ℕ) where
  unwritten : (a n : ℕ) → ((k : ℕ) → k < n → a + k ≡ p → ⊥) → map (λ q. get_or (set ws p y) q 0) (range_with_len a n) ≡ map (λ q. get_or ws q 0) (range_with_len a n)
  unwritten a zero f = refl
  unwritten a (suc n) f =
      let first : get_or (set ws p y) a 0 ≡ get_or ws a 0 = get_or-set_other ws p a y 0 (λ e. f 0 (omega arith) (add-zero a ∙ e)) in
      let rest = unwritten (a + 1) n (λ k lt e. let low : suc k < suc n = omega (arith, lt) in let q : a + suc k ≡ p = omega (arith, e) in f (suc k) low q) in
      λ t. first t ∷ rest t

  written_at : (a n k : ℕ) → k < n → a + k ≡ p → p < length ws → map (λ q. get_or (set ws p y) q 0) (range_with_len a n) ≡ set (map (λ q. get_or ws q 0) (range_with_len a n)) k y
  written_at a zero k lt e b = absurd (omega (arith, lt))
  written_at a (suc n) zero lt e b =
      let here : a ≡ p = omega (arith, e) in
      let first : get_or (set ws p y) a 0 ≡ y = ap (λ z. get_or (set ws p y) z 0) here ∙ get_or-set_same ws p y 0 b in
      let rest = unwritten (a + 1) n (λ k lt e2. absurd (omega (arith, e2, here))) in
      λ t. first t ∷ rest t
  written_at a (suc n) (suc k) lt e b =
      let first : get_or (set ws p y) a 0 ≡ get_or ws a 0 = get_or-set_other ws p a y 0 (λ e2. absurd (omega (arith, e, e2))) in
      let low : k < n = omega (arith, lt) in
      let q : a + 1 + k ≡ p = omega (arith, e) in
      let rest = written_at (a + 1) n k low q b in
      λ t. first t ∷ rest t

zeros_at : (ws : List ℕ) (a n : ℕ) → ((q : ℕ) → a ≤ q → q < a + n → get_or ws q 0 ≡ 0) → map (λ q. get_or ws q 0) (range_with_len a n) ≡ replicate n 0
zeros_at ws a zero f = refl
zeros_at ws a (suc n) f =
    let first : get_or ws a 0 ≡ 0 = f a (omega arith) (omega arith) in
    let rest = zeros_at ws (a + 1) n (λ q low high. f q (omega (arith, low)) (omega (arith, high))) in
    λ t. first t ∷ rest t

module _ (h : Heap) (p y : ℕ) where
  -- an object that keeps its header keeps its slots and its data where the word isn't among them
  same_slots : (b : ℕ) → (b ≡ p → ⊥) → ((k : ℕ) → k < (object_at h b).refs → b + 1 + k ≡ p → ⊥) → (heap_view (record h { words = set h.words p y })).slots b ≡ (heap_view h).slots b
  same_slots b n f =
      let header : get_or (set h.words p y) b 0 ≡ get_or h.words b 0 = get_or-set_other h.words p b y 0 n in
      ap (λ x. map (λ q. get_or (set h.words p y) q 0) (range_with_len (b + 1) (x % 2 ^ 32))) header ∙ unwritten h.words p y (b + 1) (object_at h b).refs f

  same_values : (b : ℕ) → (b ≡ p → ⊥) → ((k : ℕ) → k < (object_at h b).size - 1 - (object_at h b).refs → b + 1 + (object_at h b).refs + k ≡ p → ⊥) →
      (heap_view (record h { words = set h.words p y })).values b ≡ (heap_view h).values b
  same_values b n f =
      let header : get_or (set h.words p y) b 0 ≡ get_or h.words b 0 = get_or-set_other h.words p b y 0 n in
      ap (λ x. map (λ q. get_or (set h.words p y) q 0) (range_with_len (b + 1 + x % 2 ^ 32) (x / 2 ^ 32 - 1 - x % 2 ^ 32))) header
      ∙ unwritten h.words p y (b + 1 + (object_at h b).refs) ((object_at h b).size - 1 - (object_at h b).refs) f

pub image_root : (h : Heap) (r x : ℕ) → IsRootSet (heap_view h) r x (heap_view (record h { roots = set h.roots r x }))
image_root h r x = record { roots = refl; slots = λ b _. refl; values = λ b _. refl }

module _ (h : Heap) (laid : IsLaid h) (a : ℕ) (seen : Seen (heap_view h) a) where
  -- what a word of the object at a can't be
  module _ (k : ℕ) (low : 0 < k) (high : k < (object_at h a).size) where
    no_header : (b : ℕ) → Seen (heap_view h) b → b ≡ a + k → ⊥
    no_header b s e =
        let fit : (object_at h b).refs < (object_at h b).size = laid.slots_fit b s in
        let q : a ≡ b = laid.apart a b (a + k) seen s (omega arith, omega (arith, high)) (omega (arith, e), omega (arith, e, fit)) in
        absurd (omega (arith, q, e, low))

    no_other : (b m : ℕ) → Seen (heap_view h) b → b ≢ a → m < (object_at h b).size → b + m ≡ a + k → ⊥
    no_other b m s n lt e = n (sym (laid.apart a b (a + k) seen s (omega arith, omega (arith, high)) (omega (arith, e), omega (arith, e, lt))))

    in_words : a + k < length h.words
    in_words = let i : a + (object_at h a).size ≤ length h.words = laid.inside a seen in omega (arith, i, high)

  pub image_slot : (k x : ℕ) → k < length ((heap_view h).slots a) → IsSlotSet (heap_view h) a k x (heap_view (record h { words = set h.words (a + 1 + k) x }))
  image_slot k x lt =
      let fit : (object_at h a).refs < (object_at h a).size = laid.slots_fit a seen in
      let len : length ((heap_view h).slots a) ≡ (object_at h a).refs = length-map-range_with_len (word h) (a + 1) (object_at h a).refs in
      let k_fits : k < (object_at h a).refs = omega (arith, lt, len) in
      let high : k + 1 < (object_at h a).size = omega (arith, k_fits, fit) in
      let low : 0 < k + 1 = omega arith in
      let p : a + 1 + k ≡ a + (k + 1) = omega arith in
      let header : (b : ℕ) → Seen (heap_view h) b → b ≡ a + 1 + k → ⊥ = λ b s e. no_header (k + 1) low high b s (e ∙ p) in
      record {
        roots = refl;
        written =
            ap (λ z. map (λ q. get_or (set h.words (a + 1 + k) x) q 0) (range_with_len (a + 1) (z % 2 ^ 32))) (get_or-set_other h.words (a + 1 + k) a x 0 (header a seen))
            ∙ written_at h.words (a + 1 + k) x (a + 1) (object_at h a).refs k k_fits refl (subst (λ z. z < length h.words) (sym p) (in_words (k + 1) low high));
        slots = λ b s n. same_slots h (a + 1 + k) x b (header b s)
            (λ m lt2 e. let f : (object_at h b).refs < (object_at h b).size = laid.slots_fit b s in no_other (k + 1) low high b (m + 1) s n (omega (arith, f, lt2)) (omega (arith, e)));
        values = λ b s. same_values h (a + 1 + k) x b (header b s)
            (λ m lt2 e. elim (equal_or_not b a) [
              | inl n ↦ no_other (k + 1) low high b (1 + (object_at h b).refs + m) s n (omega (arith, lt2)) (omega (arith, e))
              | inr q ↦ let r : (object_at h b).refs ≡ (object_at h a).refs = ap (λ z. (object_at h z).refs) q in absurd (omega (arith, e, q, r, k_fits))
            ]);
      }

  pub image_value : (k x : ℕ) → k < length ((heap_view h).values a) → IsValueSet (heap_view h) a k x (heap_view (record h { words = set h.words (a + 1 + (object_at h a).refs + k) x }))
  image_value k x lt =
      let fit : (object_at h a).refs < (object_at h a).size = laid.slots_fit a seen in
      let rs : ℕ = (object_at h a).refs in
      let len : length ((heap_view h).values a) ≡ (object_at h a).size - 1 - rs = length-map-range_with_len (word h) (a + 1 + rs) ((object_at h a).size - 1 - rs) in
      let k_fits : k < (object_at h a).size - 1 - rs = omega (arith, lt, len) in
      let high : rs + k + 1 < (object_at h a).size = omega (arith, k_fits, fit) in
      let low : 0 < rs + k + 1 = omega arith in
      let p : a + 1 + rs + k ≡ a + (rs + k + 1) = omega arith in
      let header : (b : ℕ) → Seen (heap_view h) b → b ≡ a + 1 + rs + k → ⊥ = λ b s e. no_header (rs + k + 1) low high b s (e ∙ p) in
      record {
        roots = refl;
        written =
            ap (λ z. map (λ q. get_or (set h.words (a + 1 + rs + k) x) q 0) (range_with_len (a + 1 + z % 2 ^ 32) (z / 2 ^ 32 - 1 - z % 2 ^ 32)))
            (get_or-set_other h.words (a + 1 + rs + k) a x 0 (header a seen))
            ∙ written_at h.words (a + 1 + rs + k) x (a + 1 + rs) ((object_at h a).size - 1 - rs) k k_fits refl (subst (λ z. z < length h.words) (sym p) (in_words (rs + k + 1) low high));
        values = λ b s n. same_values h (a + 1 + rs + k) x b (header b s)
            (λ m lt2 e. no_other (rs + k + 1) low high b (1 + (object_at h b).refs + m) s n (omega (arith, lt2)) (omega (arith, e)));
        slots = λ b s. same_slots h (a + 1 + rs + k) x b (header b s)
            (λ m lt2 e. elim (equal_or_not b a) [
              | inl n ↦ let f : (object_at h b).refs < (object_at h b).size = laid.slots_fit b s in no_other (rs + k + 1) low high b (m + 1) s n (omega (arith, f, lt2)) (omega (arith, e))
              | inr q ↦ let r : (object_at h b).refs ≡ rs = ap (λ z. (object_at h z).refs) q in absurd (omega (arith, e, q, r, lt2))
            ]);
      }

-- a new object where nothing was
module _ (h j : Heap) (laid : IsLaid h) (a refs count root : ℕ) (unused : IsUnused h a (1 + refs + count)) (small : refs < 2 ^ 32)
    (words : j.words ≡ set h.words a ((1 + refs + count) * 2 ^ 32 + refs)) (roots : j.roots ≡ set h.roots root (suc a)) where
  header_there : get_or (set h.words a ((1 + refs + count) * 2 ^ 32 + refs)) a 0 ≡ (1 + refs + count) * 2 ^ 32 + refs
  header_there = let i : a + (1 + refs + count) ≤ length h.words = unused.in_words in get_or-set_same h.words a ((1 + refs + count) * 2 ^ 32 + refs) 0 (omega (arith, i))

  its_refs : ((1 + refs + count) * 2 ^ 32 + refs) % 2 ^ 32 ≡ refs
  its_refs = omega (arith, small)

  its_size : ((1 + refs + count) * 2 ^ 32 + refs) / 2 ^ 32 ≡ 1 + refs + count
  its_size = omega (arith, small)

  zero_there : (q : ℕ) → a < q → q < a + (1 + refs + count) → get_or (set h.words a ((1 + refs + count) * 2 ^ 32 + refs)) q 0 ≡ 0
  zero_there q low high = get_or-set_other h.words a q ((1 + refs + count) * 2 ^ 32 + refs) 0 (λ e. absurd (omega (arith, e, low))) ∙ unused.zeros q (omega (arith, low)) high

  -- no word of an object that is seen is the new header
  not_there : (b m : ℕ) → Seen (heap_view h) b → m < (object_at h b).size → b + m ≡ a → ⊥
  not_there b m s lt e = unused.clear b a s (omega (arith, e), omega (arith, e, lt)) (omega arith) (omega arith)

  pub image_made : IsMade (heap_view h) a root refs count (heap_view j)
  image_made =
      let new : ℕ = (1 + refs + count) * 2 ^ 32 + refs in
      let slots_in : List ℕ → ℕ → List ℕ = λ ws b. map (λ q. get_or ws q 0) (range_with_len (b + 1) (get_or ws b 0 % 2 ^ 32)) in
      let values_in : List ℕ → ℕ → List ℕ = λ ws b. map (λ q. get_or ws q 0) (range_with_len (b + 1 + get_or ws b 0 % 2 ^ 32) (get_or ws b 0 / 2 ^ 32 - 1 - get_or ws b 0 % 2 ^ 32)) in
      let rest : (1 + refs + count) - 1 - refs ≡ count = omega arith in
      record {
        fresh = λ s. let f : (object_at h a).refs < (object_at h a).size = laid.slots_fit a s in not_there a 0 s (omega (arith, f)) (add-zero a);
        roots = roots;
        new_slots =
            ap (λ ws. slots_in ws a) words ∙ ap (λ z. map (λ q. get_or (set h.words a new) q 0) (range_with_len (a + 1) z)) (ap (λ z. z % 2 ^ 32) header_there ∙ its_refs)
            ∙ zeros_at (set h.words a new) (a + 1) refs (λ q low high. zero_there q (omega (arith, low)) (omega (arith, high)));
        new_values =
            ap (λ ws. values_in ws a) words ∙ ap (λ z. map (λ q. get_or (set h.words a new) q 0) (range_with_len (a + 1 + z % 2 ^ 32) (z / 2 ^ 32 - 1 - z % 2 ^ 32))) header_there
            ∙ (λ t. map (λ q. get_or (set h.words a new) q 0) (range_with_len (a + 1 + its_refs t) (its_size t - 1 - its_refs t)))
            ∙ ap (λ n. map (λ q. get_or (set h.words a new) q 0) (range_with_len (a + 1 + refs) n)) rest
            ∙ zeros_at (set h.words a new) (a + 1 + refs) count (λ q low high. zero_there q (omega (arith, low)) (omega (arith, high)));
        slots = λ b s. ap (λ ws. slots_in ws b) words ∙ same_slots h a new b (λ e. let f : (object_at h b).refs < (object_at h b).size =
            laid.slots_fit b s in not_there b 0 s (omega (arith, f)) (add-zero b ∙ e))
            (λ m lt e. let f : (object_at h b).refs < (object_at h b).size = laid.slots_fit b s in not_there b (m + 1) s (omega (arith, f, lt)) (omega (arith, e)));
        values = λ b s. ap (λ ws. values_in ws b) words ∙ same_values h a new b (λ e. let f : (object_at h b).refs < (object_at h b).size =
            laid.slots_fit b s in not_there b 0 s (omega (arith, f)) (add-zero b ∙ e))
            (λ m lt e. not_there b (1 + (object_at h b).refs + m) s (omega (arith, lt)) (omega (arith, e)));
      }
