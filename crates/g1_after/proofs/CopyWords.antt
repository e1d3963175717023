-- The words of the image after: each is a word of one moved object, or 0.
use Rattle.std.proofs.Common.{◌≡◌, ℕ, zero, suc, ◌+◌, ◌-◌, ◌<◌, ◌≤◌, ◌⊎◌, inl, inr, Bool, true, false, ◌&&◌, List, ◌++◌, length, get_or, map, refl, sym, ◌∙◌, ap, subst, arith, leb, ltb, Contains}
use Rattle.std.proofs.Common.{leb-true, ltb-true}
use Rattle.std.proofs.Common.{length-append}
use Rattle.std.proofs.lemmas.Bool.{cases_lt, and_parts}
use Rattle.std.proofs.lemmas.List.{length-map, get_or-map, get_or_append_left, get_or-append_right}
use Rattle.std.proofs.lemmas.List.FromFn.{get_or-map-range_with_len, length-map-range_with_len}
use Rattle.g1_after.proofs.Determined.{word_from_copy}
use Rattle.g1_words.specs.Copy.{is_taken, renamed, renamed_words, words_at}
use Rattle.g1_image.specs.Image.{Image}
use Rattle.g1_after.specs.Moved.{IsMoved}
use Rattle.g1_words.proofs.Members.{any_member}
use Rattle.g1_words.specs.Heap.{Heap, word}
use Rattle.g1_words.specs.Layout.{forward, kept}
use Rattle.g1_words.specs.declared.object.Object.{Object}

-- a word of an object that isn't a slot, and one that is
abbrev pub StaysAt : (ℕ → ℕ) → Heap → Object → ℕ → ℕ → Type 0
StaysAt f h o m x = (x ≡ word h (o.at + m)) × ((m ≡ 0) ⊎ (o.refs < m))

abbrev pub RenamedAt : (ℕ → ℕ) → Heap → Object → ℕ → ℕ → Type 0
RenamedAt f h o m x = (0 < m) × (m ≤ o.refs) × (x ≡ renamed f (word h (o.at + m)))

pub renamed_word : (f : ℕ → ℕ) (h : Heap) (o : Object) (m : ℕ) → o.refs < o.size → m < o.size
    → StaysAt f h o m (get_or (renamed_words f h o) m 0) ⊎ RenamedAt f h o m (get_or (renamed_words f h o) m 0)
renamed_word f h o zero fits lt = let z : o.at ≡ o.at + 0 = omega arith in inl (ap (word h) z, inl refl)
renamed_word f h o (suc m) fits lt =
    let A : List ℕ = map (renamed f) (words_at h (o.at + 1) o.refs) in
    let B : List ℕ = words_at h (o.at + 1 + o.refs) (o.size - 1 - o.refs) in
    let len : length (words_at h (o.at + 1) o.refs) ≡ o.refs = length-map-range_with_len (word h) (o.at + 1) o.refs in
    let len' : length A ≡ o.refs = length-map (words_at h (o.at + 1) o.refs) (renamed f) ∙ len in
    elim (cases_lt m o.refs) [
      | inl b ↦ inr (
        omega arith,
        omega arith,
        get_or_append_left A B 0 m (omega arith)
            ∙ get_or-map (renamed f) (words_at h (o.at + 1) o.refs) m 0 0 (omega arith)
            ∙ ap (renamed f) (get_or-map-range_with_len (word h) (o.at + 1) o.refs m (o.at + suc m) 0 b (omega arith)),
      )
      | inr b ↦ inl (
        get_or-append_right A B o.refs m 0 len' b
            ∙ get_or-map-range_with_len (word h) (o.at + 1 + o.refs) (o.size - 1 - o.refs) (m - o.refs) (o.at + suc m) 0 (omega arith) (omega arith),
        inr (omega arith),
      )
    ]

pub length-renamed_words : (f : ℕ → ℕ) (h : Heap) (o : Object) → o.refs < o.size → length (renamed_words f h o) ≡ o.size
length-renamed_words f h o fits =
    let A : List ℕ = map (renamed f) (words_at h (o.at + 1) o.refs) in
    let B : List ℕ = words_at h (o.at + 1 + o.refs) (o.size - 1 - o.refs) in
    let len : length (words_at h (o.at + 1) o.refs) ≡ o.refs = length-map-range_with_len (word h) (o.at + 1) o.refs in
    let len' : length A ≡ o.refs = length-map (words_at h (o.at + 1) o.refs) (renamed f) ∙ len in
    let b : length B ≡ o.size - 1 - o.refs = length-map-range_with_len (word h) (o.at + 1 + o.refs) (o.size - 1 - o.refs) in
    let both : length (A ++ B) ≡ length A + length B = length-append A B in
    omega arith

module _ (i : Image) (set l : List ℕ) (j : Image) (moved : IsMoved i set l j) where
  -- a word is 0, or one of a moved object
  pub word_cases : (q : ℕ) → (word j.heap q ≡ 0) ⊎ ((k : Object) × Contains (kept i.heap set l) k × (m : ℕ) × (m < k.size) × (q ≡ forward i.heap l k.at + m))
  word_cases q = go (is_taken (forward i.heap l) (kept i.heap set l) q) refl
    where
      go : (b : Bool) → is_taken (forward i.heap l) (kept i.heap set l) q ≡ b →
          (word j.heap q ≡ 0) ⊎ ((k : Object) × Contains (kept i.heap set l) k × (m : ℕ) × (m < k.size) × (q ≡ forward i.heap l k.at + m))
      go false e = inl (moved.cleared q e)
      go true e =
          let f : ℕ → ℕ = forward i.heap l in
          let m = any_member (λ (o : Object). leb (f o.at) q && ltb q (f o.at + o.size)) (kept i.heap set l) e in
          let both = and_parts (leb (f m.0.at) q) (ltb q (f m.0.at + m.0.size)) m.2 in
          let low : f m.0.at ≤ q = leb-true (f m.0.at) q both.0 in
          let high : q < f m.0.at + m.0.size = ltb-true q (f m.0.at + m.0.size) both.1 in
          inr (m.0, m.1, q - f m.0.at, omega arith, omega arith)

  pub copied_word : (k : Object) (m : ℕ) → Contains (kept i.heap set l) k → k.refs < k.size → m < k.size
      → StaysAt (forward i.heap l) i.heap k m (word j.heap (forward i.heap l k.at + m)) ⊎ RenamedAt (forward i.heap l) i.heap k m (word j.heap (forward i.heap l k.at + m))
  copied_word k m c fits lt =
      let f : ℕ → ℕ = forward i.heap l in
      let w : word j.heap (f k.at + m) ≡ get_or (renamed_words f i.heap k) (f k.at + m - f k.at) 0 =
      word_from_copy f i.heap j.heap k (f k.at + m) (moved.copies k c) (omega arith) (omega arith) in
      let z : f k.at + m - f k.at ≡ m = omega arith in
      let e : get_or (renamed_words f i.heap k) m 0 ≡ word j.heap (f k.at + m) = ap (λ x. get_or (renamed_words f i.heap k) x 0) (sym z) ∙ sym w in
      subst (λ x. StaysAt f i.heap k m x ⊎ RenamedAt f i.heap k m x) e (renamed_word f i.heap k m fits lt)
