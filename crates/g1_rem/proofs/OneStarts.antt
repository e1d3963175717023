-- A heap has one list of starts.
use Rattle.std.proofs.Common.{◌≡◌, ℕ, ◌*◌, inl, inr, arith, refl, sym, ap, ◌∙◌, slice_index_or}
use Rattle.std.specs.Prelude.{Option, Some, None}
use Rattle.std.proofs.lemmas.Bool.{cases_lt}
use Rattle.std.proofs.lemmas.List.{ext_get_or}
use Rattle.g1_words.specs.Heap.{Heap, objects, object_at}
use Rattle.g1_words.specs.Valid.{IsValid}
use Rattle.g1_rem.specs.Starts.{IsOver}
use Rattle.g1_rem.specs.Laws.{OneStarts}
use Rattle.g1_rem.proofs.Order.{Chain-apart, objects_chain}

-- one object at most is over an address
one_over : (h : Heap) (x : ℕ) (v w : Option ℕ) → IsValid h → IsOver h x v → IsOver h x w → v ≡ w
one_over h x None None valid a b = refl
one_over h x None (Some q) valid a b = absurd (a (object_at h q) b.0 b.1)
one_over h x (Some p) None valid a b = absurd (b (object_at h p) a.0 a.1)
one_over h x (Some p) (Some q) valid a b = elim (cases_lt p q) [
  | inl lt ↦
      let k = Chain-apart 0 (objects h) (object_at h p) (object_at h q) (objects_chain h valid) a.0 b.0 lt in
      absurd (omega (arith, k, a.1.to, b.1.from))
  | inr ge ↦ elim (cases_lt q p) [
    | inl gt ↦
        let k = Chain-apart 0 (objects h) (object_at h q) (object_at h p) (objects_chain h valid) b.0 a.0 gt in
        absurd (omega (arith, k, b.1.to, a.1.from))
    | inr le ↦ let same : p ≡ q = omega (arith, ge, le) in ap (λ y. Some y) same
  ]
]

-- the law
pub one_starts : OneStarts
one_starts h xs ys valid a b =
    ext_get_or None xs ys (a.one_each ∙ sym b.one_each)
    (λ c lt. one_over h (c * h.geometry.k) (slice_index_or xs c None) (slice_index_or ys c None) valid (a.each c lt) (b.each c (omega (arith, lt, a.one_each, b.one_each))))
