-- The starts of ranges that follow one another, joined.
use Rattle.std.proofs.Common.{◌≡◌, ℕ, zero, suc, ◌+◌, ◌-◌, ◌*◌, ◌/◌, inl, inr, List, [], ◌∷◌, ◌++◌, length, map, flat_map, slice_index, slice_index_or, arith, refl, sym, ap, subst, ◌∙◌}
use Rattle.std.specs.Prelude.{Option, None}
use Rattle.std.specs.List.{range_with_len, AllZip}
use Rattle.std.specs.Global.{Vec}
use Rattle.std.proofs.lemmas.Bool.{cases_lt}
use Rattle.std.proofs.lemmas.List.{get_or_append_left, get_or-append_right, length-append, map-append}
use Rattle.std.proofs.Math.Nat.{mul-div_cancel}
use Rattle.g1_words.specs.Heap.{Heap, start}
use Rattle.g1_words.specs.Valid.{IsValid}
use Rattle.g1_words.proofs.Sound.{k_positive}
use Rattle.g1_rem.specs.Starts.{IsOver, IsStartsOf, address_below}
use Rattle.g1_rem.specs.Ranges.{IsCut, AreStartsBetween}

-- the lists have them for each range, by where each range begins
abbrev pub AreStartsInEach : Heap → List ℕ → ℕ → List (Vec ℕ) → Type 0
AreStartsInEach h begins ranges lists =
    AllZip (λ j v. AreStartsBetween h (slice_index begins j) (slice_index begins (j + 1)) (map address_below v.items)) (range_with_len 0 ranges) lists

module _ (h : Heap) where
  -- those of no region
  pub starts_none : (a b : ℕ) → a ≡ b → AreStartsBetween h a b []
  starts_none a b e = record { ends = (let s = ap (start h) e in omega (arith, s)); each = λ c lt. absurd (omega (arith, lt)) }

  -- those of one range, and those of the next
  pub starts_append : (a b c : ℕ) (xs ys : List (Option ℕ)) → AreStartsBetween h a b xs → AreStartsBetween h b c ys → AreStartsBetween h a c (xs ++ ys)
  starts_append a b c xs ys s t =
      let len : length (xs ++ ys) ≡ length xs + length ys = length-append xs ys in
      record {
        ends = (let m = ap (λ x. x * h.geometry.k) len in omega (arith, m, s.ends, t.ends));
        each = λ i lt. elim (cases_lt i (length xs)) [
          | inl left ↦ subst (IsOver h (start h a + i * h.geometry.k)) (sym (get_or_append_left xs ys None i left)) (s.each i left)
          | inr right ↦ (
              let j : ℕ = i - length xs in
              let at : i ≡ length xs + (i - length xs) = omega (arith, right) in
              let word : start h b + (i - length xs) * h.geometry.k ≡ start h a + i * h.geometry.k = (let m = ap (λ x. x * h.geometry.k) at in omega (arith, m, s.ends)) in
              let value : slice_index_or (xs ++ ys) i None ≡ slice_index_or ys (i - length xs) None = get_or-append_right xs ys (length xs) i None refl right in
              subst (λ x. IsOver h x (slice_index_or (xs ++ ys) i None)) word
              (subst (IsOver h (start h b + (i - length xs) * h.geometry.k)) (sym value) (t.each (i - length xs) (omega (arith, lt, len, right)))))
        ];
      }

  module _ (ranges : ℕ) (begins : List ℕ) (cut : IsCut h.geometry.n ranges begins) where
    -- those of the ranges from one on
    joined_from : (j m : ℕ) → j + m ≡ ranges → (lists : List (Vec ℕ))
        → AllZip (λ j v. AreStartsBetween h (slice_index begins j) (slice_index begins (j + 1)) (map address_below v.items)) (range_with_len j m) lists
        → AreStartsBetween h (slice_index begins j) h.geometry.n (map address_below (flat_map (λ v. v.items) lists))
    joined_from j zero e [] z =
        starts_none (slice_index begins j) h.geometry.n ((let f : j ≡ ranges = omega (arith, e) in ap (slice_index begins) f) ∙ cut.last)
    joined_from j zero e (v ∷ lists) z = absurd z
    joined_from j (suc m) e [] z = absurd z
    joined_from j (suc m) e (v ∷ lists) z =
        subst (AreStartsBetween h (slice_index begins j) h.geometry.n) (sym (map-append address_below v.items (flat_map (λ v. v.items) lists)))
        (starts_append (slice_index begins j) (slice_index begins (j + 1)) h.geometry.n (map address_below v.items)
        (map address_below (flat_map (λ v. v.items) lists)) z.0 (joined_from (j + 1) m (omega (arith, e)) lists z.1))

    -- those of all ranges
    pub joined_all : (lists : List (Vec ℕ)) → AreStartsInEach h begins ranges lists → AreStartsBetween h 0 h.geometry.n (map address_below (flat_map (λ v. v.items) lists))
    joined_all lists z = subst (λ x. AreStartsBetween h x h.geometry.n (map address_below (flat_map (λ v. v.items) lists))) cut.first (joined_from 0 ranges (omega arith) lists z)

  -- those of all regions
  pub starts_whole : (n : ℕ) (xs : List (Option ℕ)) → IsValid h → n ≡ h.geometry.n → AreStartsBetween h 0 n xs → IsStartsOf h xs
  starts_whole n xs valid e s =
      let words : length xs * h.geometry.k ≡ h.geometry.n * h.geometry.w = (let m = ap (λ x. x * h.geometry.w) e in omega (arith, s.ends, m)) in
      record {
        one_each = sym (ap (λ x. x / h.geometry.k) (sym words) ∙ mul-div_cancel (length xs) (k_positive h valid));
        each = λ c lt. (let z : start h 0 + c * h.geometry.k ≡ c * h.geometry.k = omega arith in subst (λ x. IsOver h x (slice_index_or xs c None)) z (s.each c lt));
      }
