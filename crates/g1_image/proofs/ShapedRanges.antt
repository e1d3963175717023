-- The marks of regions that follow one another, joined.
use Rattle.std.proofs.Common.{◌≡◌, ◌≢◌, ◌≤◌, ◌<◌, ℕ, zero, suc, ◌+◌, ◌-◌, ◌*◌, ◌%◌, inl, inr, Bool, false, List, [], ◌∷◌, ◌++◌, length, slice_index, slice_index_or, set, arith, refl, sym, ap, subst, ◌∙◌}
use Rattle.std.proofs.Common.{get_or-set_other, get_or-set_same, length-set}
use Rattle.std.specs.Prelude.{IsTrue, Result}
use Rattle.std.specs.List.{range_with_len, AllZip}
use Rattle.std.proofs.lemmas.Bool.{cases_lt, cases_eq}
use Rattle.std.proofs.lemmas.List.{get_or_append_left, get_or-append_right, length-append}
use Rattle.std.proofs.Math.Nat.{mul-le-mul_right}
use Rattle.g1_words.specs.Heap.{Heap, region, start}
use Rattle.g1_words.specs.declared.region.Kind.{Kind}
use Rattle.g1_words.specs.declared.region.Kind.TheVariants.{Free, Ordinary, HumongousFirst, Continuation}
use Rattle.g1_words.proofs.Tiling.{Tiles-le}
use Rattle.g1_image.specs.Marks.{StartsIn, StartsBetween, StartsOf, mark}
use Rattle.g1_image.specs.Shapes.{IsShapedRange, AreShapedRanges, IsMarksBegin, IsMarksCut, BeginsMarks}
use Rattle.g1_image.proofs.Rows.{past_marks, Marks-start}

-- no object of a region starts before it
starts_after : (k : Kind) (h : Heap) (r a : ℕ) → StartsIn k h r a → start h r ≤ a
starts_after Free h r a s = absurd s
starts_after Ordinary h r a s = Tiles-le h.words (start h r) s.0.0 a s.0.1
starts_after HumongousFirst h r a s = omega (arith, s)
starts_after Continuation h r a s = absurd s

-- the marks of no region
pub StartsOf-none : (h : Heap) (from : ℕ) → StartsOf h from from []
StartsOf-none h from = record { each = Marks-start h from (start h from) 0; count = omega arith }

-- the marks of some regions, and those of the next
module _ (h : Heap) (a b c : ℕ) (xs ys : List Bool) (below : a ≤ b) (above : b ≤ c) (front : StartsOf h a b xs) (behind : StartsOf h b c ys) where
  mark_front : (k : ℕ) → k < length xs → mark (xs ++ ys) k ≡ mark xs k
  mark_front k lt = get_or_append_left xs ys false k lt

  mark_behind : (k : ℕ) → length xs ≤ k → mark (xs ++ ys) k ≡ mark ys (k - length xs)
  mark_behind k ge = get_or-append_right xs ys (length xs) k false refl ge

  place : (k : ℕ) → length xs ≤ k → start h b + (k - length xs) ≡ start h a + k
  place k ge = omega (arith, front.count, ge)

  sound : (k : ℕ) → IsTrue (mark (xs ++ ys) k) → StartsBetween h a c (start h a + k)
  sound k t = elim (cases_lt k (length xs)) [
    | inl lt ↦ (let s = front.each.sound k (sym (mark_front k lt) ∙ t) in (s.0, s.1, omega (arith, s.2, above), s.3))
    | inr ge ↦ (let s = subst (StartsBetween h b c) (place k ge) (behind.each.sound (k - length xs) (sym (mark_behind k ge) ∙ t)) in (s.0, omega (arith, s.1, below), s.2, s.3))
  ]

  whole : (k : ℕ) → StartsBetween h a c (start h a + k) → IsTrue (mark (xs ++ ys) k)
  whole k s = elim (cases_lt s.0 b) [
    | inl lt ↦
        let t : IsTrue (mark xs k) = front.each.whole k (s.0, s.1, lt, s.3) in
        elim (cases_lt k (length xs)) [ inl less ↦ mark_front k less ∙ t | inr ge ↦ absurd (past_marks xs k t ge) ]
    | inr ge ↦
        let far : length xs ≤ k = omega (arith, front.count, starts_after (region h s.0).kind h s.0 (start h a + k) s.3, mul-le-mul_right h.geometry.w ge) in
        mark_behind k far ∙ behind.each.whole (k - length xs) (subst (StartsBetween h b c) (sym (place k far)) (s.0, ge, s.2, s.3))
  ]

  pub StartsOf-append : StartsOf h a c (xs ++ ys)
  StartsOf-append = record {
    each = record { sound = sound; whole = whole };
    count = omega (arith, length-append xs ys, front.count, behind.count);
  }

-- what holds of a place of a list and what stands there
pub zip_at : {X : Type 0} (R : ℕ → X → Type 0) (j m : ℕ) (xs : List X) (i : ℕ) (d : X) → AllZip R (range_with_len j m) xs → i < length xs → R (j + i) (slice_index_or xs i d)
zip_at R j zero [] i d z lt = absurd (omega (arith, lt))
zip_at R j zero (x ∷ xs) i d z lt = absurd z
zip_at R j (suc m) [] i d z lt = absurd z
zip_at R j (suc m) (x ∷ xs) zero d z lt = subst (λ n. R n x) (let e : j ≡ j + zero = omega arith in e) z.0
zip_at R j (suc m) (x ∷ xs) (suc i) d z lt =
    subst (λ n. R n (slice_index_or xs i d)) (let e : (j + 1) + i ≡ j + suc i = omega arith in e) (zip_at R (j + 1) m xs i d z.1 (omega (arith, lt)))

-- the answer for a range
pub part_at : (h : Heap) (begins : List ℕ) (parts : List (Result (List Bool) ℕ)) (i : ℕ) (d : Result (List Bool) ℕ) → AreShapedRanges h begins (length parts) parts
    → i < length parts → IsShapedRange h begins i (slice_index_or parts i d)
part_at h begins parts i d z lt =
    subst (λ n. IsShapedRange h begins n (slice_index_or parts i d)) (let e : 0 + i ≡ i = omega arith in e) (zip_at (IsShapedRange h begins) 0 (length parts) parts i d z lt)

-- a range begins no later where 64 marks begin
module _ (h : Heap) (ranges j begin : ℕ) (begins : List ℕ) (lt : j < ranges) (c : IsMarksCut h ranges j begins) (is : IsMarksBegin h (slice_index begins j) begin) where
  here : (k : ℕ) → k ≡ j → slice_index (set begins j begin) k ≡ begin
  here k e = subst (λ i. slice_index (set begins j begin) i ≡ begin) (sym e) (get_or-set_same begins j begin 0 (omega (arith, (c.cut.each j lt).there)))

  there : (k : ℕ) → k ≢ j → slice_index (set begins j begin) k ≡ slice_index begins k
  there k ne = get_or-set_other begins j k begin 0 ne

  -- the range before it begins no later
  after : (k : ℕ) → k + 1 ≡ j → slice_index begins k ≤ begin
  after k e = elim (cases_lt begin (slice_index begins k)) [
    | inr ge ↦ ge
    | inl less ↦
        let r = c.cut.each k (omega (arith, e, lt)) in
        absurd (is.last (slice_index begins k) less (subst (λ i. slice_index begins k ≤ slice_index begins i) e r.order) (c.whole k (omega (arith, e))))
  ]

  ordered : (k : ℕ) → k < ranges → slice_index (set begins j begin) k ≤ slice_index (set begins j begin) (k + 1)
  ordered k less =
      let r = c.cut.each k less in
      elim (cases_eq k j) [
        | inl e ↦
            let next : k + 1 ≢ j = λ f. omega (arith, e, f) in
            omega (arith, here k e, there (k + 1) next, is.order, ap (slice_index begins) e, r.order)
        | inr ne ↦ elim (cases_eq (k + 1) j) [
          | inl e ↦ omega (arith, there k ne, here (k + 1) e, after k e)
          | inr off ↦ omega (arith, there k ne, there (k + 1) off, r.order)
        ]
      ]

  bounded : (k : ℕ) → k < ranges → slice_index (set begins j begin) (k + 1) ≤ h.geometry.n
  bounded k less =
      let r = c.cut.each k less in
      elim (cases_eq (k + 1) j) [
        | inl e ↦ omega (arith, here (k + 1) e, is.order, ap (slice_index begins) e, r.within)
        | inr off ↦ omega (arith, there (k + 1) off, r.within)
      ]

  pub IsMarksCut-more : IsMarksCut h ranges (j + 1) (set begins j begin)
  IsMarksCut-more =
      let same : length (set begins j begin) ≡ length begins = simp length-set in
      record {
        cut = record {
          count = same ∙ c.cut.count;
          first = elim (cases_eq 0 j) [
            | inl e ↦ omega (arith, here 0 e, is.order, ap (slice_index begins) e, c.cut.first)
            | inr ne ↦ there 0 ne ∙ c.cut.first
          ];
          last = there ranges (λ e. omega (arith, e, lt)) ∙ c.cut.last;
          each = λ k less. record { there = omega (arith, (c.cut.each k less).there, same); order = ordered k less; within = bounded k less };
        };
        whole = λ k less. elim (cases_eq k j) [
          | inl e ↦ subst (BeginsMarks h) (sym (here k e)) is.whole
          | inr ne ↦ subst (BeginsMarks h) (sym (there k ne)) (c.whole k (omega (arith, less, ne)))
        ];
      }

-- the first region of all begins 64 marks
pub zero_begins : (begin w at : ℕ) → at ≡ begin * w → at % 64 ≢ 0 → 1 ≤ begin
zero_begins zero w at e ne = let none : at ≡ 0 = omega (arith, e) in absurd (ne (ap (λ x. x % 64) none))
zero_begins (suc begin) w at e ne = omega arith

-- no region behind one begins 64 marks, nor does this one
pub none_between : (h : Heap) (r begin at : ℕ) → at ≡ start h begin → at % 64 ≢ 0 → ((q : ℕ) → begin < q → q ≤ r → start h q % 64 ≢ 0) →
    (q : ℕ) → begin - 1 < q → q ≤ r → start h q % 64 ≢ 0
none_between h r begin at e ne none q gt le = elim (cases_lt begin q) [
  | inl more ↦ none q more le
  | inr less ↦ (let same : begin ≡ q = omega (arith, gt, less) in subst (λ p. start h p % 64 ≢ 0) same (subst (λ x. x % 64 ≢ 0) e ne))
]
