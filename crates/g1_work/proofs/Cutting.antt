-- Cutting the regions into ranges, one range after the other.
use Rattle.std.proofs.Common.{◌≡◌, ◌≤◌, ◌<◌, ℕ, ◌+◌, inl, inr, List, [], ◌∷◌, ◌++◌, length, slice_index, arith, refl, sym, ap, subst, ◌∙◌}
use Rattle.std.proofs.lemmas.Bool.{cases_lt}
use Rattle.std.proofs.lemmas.List.{get_or_push, get_or_append_left, length-append}
use Rattle.g1_work.specs.Ranges.{IsCut}

-- where the first ranges begin, and where the next one does
pub record IsCutTo (n ranges : ℕ) (begins : List ℕ) (next : ℕ) : Type 0 where
  pub one_each : length begins ≡ ranges
  pub none : ranges ≡ 0 → next ≡ 0
  pub first : 0 < ranges → slice_index begins 0 ≡ 0
  pub rising : (j : ℕ) → j + 1 < ranges → slice_index begins j ≤ slice_index begins (j + 1)
  pub later : (j : ℕ) → j < ranges → slice_index begins j ≤ next
  pub within : next ≤ n

-- none yet
pub cut_start : (n : ℕ) → IsCutTo n 0 [] 0
cut_start n = record {
  one_each = refl;
  none = λ e. refl;
  first = λ lt. absurd (omega (arith, lt));
  rising = λ j lt. absurd (omega (arith, lt));
  later = λ j lt. absurd (omega (arith, lt));
  within = omega arith;
}

module _ (n ranges : ℕ) (begins : List ℕ) (next : ℕ) (c : IsCutTo n ranges begins next) where
  -- one that was there
  old : (x j : ℕ) → j < ranges → slice_index (begins ++ x ∷ []) j ≡ slice_index begins j
  old x j lt = get_or_append_left begins (x ∷ []) 0 j (omega (arith, lt, c.one_each))

  -- the one that was added
  new : (x j : ℕ) → j ≡ ranges → slice_index (begins ++ x ∷ []) j ≡ x
  new x j e = get_or_push begins x 0 j (omega (arith, e, c.one_each))

  -- one range more
  pub cut_step : (later : ℕ) → next ≤ later → later ≤ n → IsCutTo n (ranges + 1) (begins ++ next ∷ []) later
  cut_step later le fits = record {
    one_each = length-append begins (next ∷ []) ∙ ap (λ x. x + 1) c.one_each;
    none = λ e. absurd (omega (arith, e));
    first = λ lt. elim (cases_lt 0 ranges) [
      | inl some ↦ old next 0 some ∙ c.first some
      | inr le ↦ (let e : 0 ≡ ranges = omega (arith, le) in new next 0 e ∙ c.none (sym e))
    ];
    rising = λ j lt. elim (cases_lt (j + 1) ranges) [
      | inl some ↦ (let a = old next j (omega (arith, some)) in let b = old next (j + 1) some in omega (arith, a, b, c.rising j some))
      | inr le ↦ (let a = old next j (omega (arith, lt)) in let b = new next (j + 1) (omega (arith, le, lt)) in omega (arith, a, b, c.later j (omega (arith, lt))))
    ];
    later = λ j lt. elim (cases_lt j ranges) [
      | inl some ↦ (let a = old next j some in omega (arith, a, c.later j some, le))
      | inr more ↦ (let a = new next j (omega (arith, more, lt)) in omega (arith, a, le))
    ];
    within = fits;
  }

  -- the end, after the last one
  pub cut_end : (x all : ℕ) → x ≡ n → ranges ≡ all → 0 < ranges → IsCut n all (begins ++ x ∷ [])
  cut_end x all e same some = subst (λ m. IsCut n m (begins ++ x ∷ [])) same (record {
    count = length-append begins (x ∷ []) ∙ ap (λ n. n + 1) c.one_each;
    first = old x 0 some ∙ c.first some;
    last = new x ranges refl ∙ e;
    each = λ j lt.
        let a : slice_index (begins ++ x ∷ []) j ≡ slice_index begins j = old x j lt in
        let there : j + 1 < length (begins ++ x ∷ []) = omega (arith, lt, c.one_each, length-append begins (x ∷ [])) in
        elim (cases_lt (j + 1) ranges) [
          | inl less ↦ (let b = old x (j + 1) less in record { there = there; order = omega (arith, a, b, c.rising j less); within = omega (arith, b, c.later (j + 1) less, c.within) })
          | inr le ↦ (let b = new x (j + 1) (omega (arith, le, lt)) in record { there = there; order = omega (arith, a, b, e, c.later j lt, c.within); within = omega (arith, b, e) })
        ];
  })
