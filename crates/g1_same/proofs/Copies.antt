-- The words of a copy: the header and the data words are the object's, and the slots are its slots renamed.
use Rattle.std.proofs.Common.{◌≡◌, ℕ, ◌+◌, ◌<◌, inl, inr, Contains, ap, ◌∙◌, arith}
use Rattle.g1_words.specs.Heap.{Heap, word, object_at, objects}
use Rattle.g1_words.specs.Valid.{IsValid}
use Rattle.g1_words.specs.Copy.{renamed, IsCopy}
use Rattle.g1_words.proofs.Sound.{object_in}
use Rattle.g1_after.proofs.GraphsCompose.{word_of_copy}

module _ (f : ℕ → ℕ) (g h : Heap) (a : ℕ) (valid : IsValid g) (object : Contains (objects g) (object_at g a)) (copy : IsCopy f g h (object_at g a)) where
  fits : (object_at g a).refs < (object_at g a).size
  fits = (object_in g a valid object).0

  pub copied_header : word h (f a) ≡ word g a
  copied_header =
      let z : f a ≡ f a + 0 = omega arith in
      let y : a + 0 ≡ a = omega arith in
      elim (word_of_copy f g h (object_at g a) 0 copy fits (omega (arith, fits))) [
        | inl k ↦ ap (word h) z ∙ k.0 ∙ ap (word g) y
        | inr k ↦ absurd (omega (arith, k.0))
      ]

  pub copied_slot : (n : ℕ) → n < (object_at g a).refs → word h (f a + 1 + n) ≡ renamed f (word g (a + 1 + n))
  copied_slot n lt =
      let z : f a + 1 + n ≡ f a + (1 + n) = omega arith in
      let y : a + (1 + n) ≡ a + 1 + n = omega arith in
      elim (word_of_copy f g h (object_at g a) (1 + n) copy fits (omega (arith, lt, fits))) [
        | inl k ↦ elim k.1 [ inl e ↦ absurd (omega (arith, e)) | inr e ↦ absurd (omega (arith, e, lt)) ]
        | inr k ↦ ap (word h) z ∙ k.2 ∙ ap (λ q. renamed f (word g q)) y
      ]

  pub copied_data : (k : ℕ) → (object_at g a).refs + 1 + k < (object_at g a).size
      → word h (f a + 1 + (object_at g a).refs + k) ≡ word g (a + 1 + (object_at g a).refs + k)
  copied_data n lt =
      let r : ℕ = (object_at g a).refs in
      let z : f a + 1 + r + n ≡ f a + (r + 1 + n) = omega arith in
      let y : a + (r + 1 + n) ≡ a + 1 + r + n = omega arith in
      elim (word_of_copy f g h (object_at g a) (r + 1 + n) copy fits lt) [
        | inl k ↦ ap (word h) z ∙ k.0 ∙ ap (word g) y
        | inr k ↦ absurd (omega (arith, k.1))
      ]
