-- The positions of a set's regions, the addresses of its words, and the table that they make.
use Rattle.std.proofs.Common.{◌≡◌, ◌≢◌, ◌⊎◌, ℕ, ◌+◌, ◌*◌, ◌/◌, ◌%◌, ◌<◌, ◌≤◌, inl, inr, List, Option, Some, None, All, Contains, length, get_or, set, replicate, refl, sym, ◌∙◌}
use Rattle.std.proofs.Common.{ap, arith, mod-lt, div-add-mod', mod-eq_of_lt}
use Rattle.std.proofs.lemmas.Bool.{cases_lt}
use Rattle.std.proofs.lemmas.List.{get_or-set_same, get_or-set_other, get_or_default}
use Rattle.std.proofs.lemmas.List.Kept.{AllPairs-from_increasing}
use Rattle.std.proofs.Math.Nat.{mul-le-mul_right, mul-add-div_right, mul-add-mod_self_right, div-eq_of_lt}
use Rattle.std.specs.List.Sorted.{IsStrictlyIncreasing}
use Rattle.g1_layout.specs.Words.{ArePositions, AreIndices, HasIndex, index_at}
use Rattle.g1_words.proofs.Lists.{same_there}

-- the first n regions of the set have their positions
pub record Positioned (rs : List ℕ) (n : ℕ) (positions : List (Option ℕ)) : Type 0 where
  pub sound : (r p : ℕ) → get_or positions r None ≡ Some p → (p < n) × (get_or rs p 0 ≡ r)
  pub whole : (p : ℕ) → p < n → get_or positions (get_or rs p 0) None ≡ Some p

pub Positioned-start : (rs : List ℕ) (n : ℕ) (positions : List (Option ℕ)) → positions ≡ replicate n None → Positioned rs 0 positions
Positioned-start rs n positions e = record {
  sound = λ r p k. let clash : None ≡ Some p = sym (same_there None n r) ∙ ap (λ xs. get_or xs r None) (sym e) ∙ k in cc;
  whole = λ p lt. absurd (omega arith);
}

pub Positioned-step : (rs : List ℕ) (n r : ℕ) (positions : List (Option ℕ)) → IsStrictlyIncreasing rs → n < length rs → r ≡ get_or rs n 0 → r < length positions → Positioned rs n positions
    → Positioned rs (n + 1) (set positions r (Some n))
Positioned-step rs n r positions rising lt e inside k = record {
  sound = λ q p here. elim (same_or_not q r) [
    | inl same ↦
        let is : Some n ≡ Some p = sym (get_or-set_same positions r (Some n) None inside) ∙ ap (λ x. get_or (set positions r (Some n)) x None) (sym same) ∙ here in
        let number : n ≡ p = cc in
        (omega arith, ap (λ x. get_or rs x 0) (sym number) ∙ sym e ∙ sym same)
    | inr other ↦
        let old = k.sound q p (sym (get_or-set_other positions r q (Some n) None other) ∙ here) in
        (omega arith, old.1)
  ];
  whole = λ p below. elim (cases_lt p n) [
    | inl less ↦
        let apart : get_or rs p 0 < get_or rs n 0 = AllPairs-from_increasing rs rising p n 0 less lt in
        get_or-set_other positions r (get_or rs p 0) (Some n) None (λ same. let x = same ∙ e in omega arith) ∙ k.whole p less
    | inr ge ↦
        let is : p ≡ n = omega arith in
        ap (λ x. get_or (set positions r (Some n)) x None) (ap (λ x. get_or rs x 0) is ∙ sym e) ∙ get_or-set_same positions r (Some n) None inside ∙ ap (λ x. Some x) (sym is)
  ];
}
  where
    same_or_not : (x y : ℕ) → (x ≡ y) ⊎ (x ≢ y)
    same_or_not x y = elim (cases_lt x y) [
      | inl lt ↦ inr (λ f. omega arith)
      | inr ge ↦ elim (cases_lt y x) [ inl lt ↦ inr (λ f. omega arith) | inr le ↦ inl (omega arith) ]
    ]

pub Positioned-end : (rs : List ℕ) (n : ℕ) (positions : List (Option ℕ)) → n ≡ length rs → Positioned rs n positions → ArePositions rs positions
Positioned-end rs n positions e k = record {
  sound = λ r p here. let s = k.sound r p here in (omega arith, s.1);
  whole = λ p lt. k.whole p (omega arith);
}

-- ---- the table

module _ (w : ℕ) (rs : List ℕ) (positions : List (Option ℕ)) (pos : 0 < w) (p : ArePositions rs positions) where
  alike : (x y i : ℕ) (m n : Option ℕ) → get_or positions (x / w) None ≡ m → get_or positions (y / w) None ≡ n → index_at m w (x % w) ≡ Some i → index_at n w (y % w) ≡ Some i → x ≡ y
  alike x y i None n e f g k = cc
  alike x y i (Some q) None e f g k = cc
  alike x y i (Some q) (Some r) e f g k =
      let s = p.sound (x / w) q e in
      let t = p.sound (y / w) r f in
      let xi : q * w + x % w ≡ i = cc in
      let yi : r * w + y % w ≡ i = cc in
      let same : q * w + x % w ≡ r * w + y % w = xi ∙ sym yi in
      let row : q ≡ r = sym (by_row q x) ∙ ap (λ z. z / w) same ∙ by_row r y in
      let offset : x % w ≡ y % w = sym (by_offset q x) ∙ ap (λ z. z % w) same ∙ by_offset r y in
      let region : x / w ≡ y / w = sym s.1 ∙ ap (λ z. get_or rs z 0) row ∙ t.1 in
      sym (div-add-mod' x w) ∙ (λ z. region z * w + offset z) ∙ div-add-mod' y w
    where
      by_row : (q x : ℕ) → (q * w + x % w) / w ≡ q
      by_row q x = let l = mod-lt x pos in mul-add-div_right pos q (x % w) ∙ ap (λ z. q + z) (div-eq_of_lt l) ∙ omega arith

      by_offset : (q x : ℕ) → (q * w + x % w) % w ≡ x % w
      by_offset q x = mul-add-mod_self_right q w (x % w) ∙ mod-eq_of_lt (mod-lt x pos)

  inside : (x i : ℕ) (m : Option ℕ) → get_or positions (x / w) None ≡ m → index_at m w (x % w) ≡ Some i → i < length rs * w
  inside x i None e g = cc
  inside x i (Some q) e g =
      let s = p.sound (x / w) q e in
      let rows : (q + 1) * w ≤ length rs * w = mul-le-mul_right w (omega (arith, s.0)) in
      let l : x % w < w = mod-lt x pos in
      let xi : q * w + x % w ≡ i = cc in
      omega arith

  -- each index is one of the regions' words
  pub indices_of : (bound : ℕ) → length rs * w ≤ bound → AreIndices w positions bound
  indices_of bound most = record {
    one_to_one = λ x y i e f. alike x y i (get_or positions (x / w) None) (get_or positions (y / w) None) refl refl e f;
    within = λ x i e. let k = inside x i (get_or positions (x / w) None) refl e in omega (arith, most);
  }

  -- each address in the set has an index
  pub table_has : (l : List ℕ) → All (λ x. Contains rs (x / w)) l → All (HasIndex w positions) l
  table_has l f k d lt =
      let x : ℕ = get_or l k d in
      let c = f k d lt in
      let e : get_or positions (x / w) None ≡ Some c.0 =
      ap (λ z. get_or positions z None) (sym (get_or_default rs c.0 0 (x / w) c.1 ∙ c.2)) ∙ p.whole c.0 c.1 in
      (c.0 * w + x % w, ap (λ m. index_at m w (x % w)) e)
