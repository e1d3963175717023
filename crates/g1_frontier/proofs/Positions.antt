-- The table that tells where each region stands in the window.
use Rattle.std.proofs.Common.{◌≡◌, ◌≢◌, ℕ, ◌+◌, ◌-◌, ◌*◌, ◌/◌, ◌%◌, ◌<◌, ◌≤◌, inl, inr, Bool, true, false, cond, List, length, get_or, set, replicate, refl, sym, ◌∙◌, ap, subst, Contains}
use Rattle.std.proofs.Common.{arith, div-add-mod'}
use Rattle.std.proofs.lemmas.Bool.{cases_lt}
use Rattle.std.proofs.lemmas.List.{get_or-set_same, get_or-set_other}
use Rattle.std.proofs.lemmas.List.Kept.{AllPairs-from_increasing}
use Rattle.std.specs.List.Sorted.{IsStrictlyIncreasing}
use Rattle.std.proofs.lemmas.List.Elements.{Contains-get_or}
use Rattle.g1_words.specs.Lists.{has}
use Rattle.g1_words.proofs.Members.{has_from_contains, Contains-from_has}
use Rattle.g1_words.proofs.Lists.{same_there}
use Rattle.g1_frontier.specs.Window.{AreWindowPositions, position}
use Rattle.g1_frontier.proofs.Places.{stands}

-- the first n regions of the window are noted
pub record Noted (window : List ℕ) (n : ℕ) (positions : List ℕ) : Type 0 where
  pub noted : (p : ℕ) → p < n → get_or positions (get_or window p 0) 0 ≡ p + 1
  pub other : (r : ℕ) → ((p : ℕ) → p < n → get_or window p 0 ≢ r) → get_or positions r 0 ≡ 0

pub Noted-start : (window : List ℕ) (n : ℕ) (positions : List ℕ) → positions ≡ replicate n 0 → Noted window 0 positions
Noted-start window n positions e = record {
  noted = λ p lt. absurd (omega arith);
  other = λ r h. ap (λ xs. get_or xs r 0) e ∙ same_there 0 n r;
}

pub Noted-step : (window : List ℕ) (n r : ℕ) (positions : List ℕ) → IsStrictlyIncreasing window → n < length window → r ≡ get_or window n 0 → r < length positions → Noted window n positions
    → Noted window (n + 1) (set positions r (n + 1))
Noted-step window n r positions rising lt e inside k = record {
  noted = λ p below. elim (cases_lt p n) [
    | inl less ↦
        let apart : get_or window p 0 < get_or window n 0 = AllPairs-from_increasing window rising p n 0 less lt in
        get_or-set_other positions r (get_or window p 0) (n + 1) 0 (λ same. let x = same ∙ e in omega arith) ∙ k.noted p less
    | inr ge ↦
        let is : p ≡ n = omega arith in
        ap (λ x. get_or (set positions r (n + 1)) x 0) (ap (λ x. get_or window x 0) is ∙ sym e) ∙ get_or-set_same positions r (n + 1) 0 inside ∙ ap (λ x. x + 1) (sym is)
  ];
  other = λ q h. get_or-set_other positions r q (n + 1) 0 (λ same. h n (omega arith) (sym e ∙ sym same)) ∙ k.other q (λ p below. h p (omega (arith, below)));
}

pub Noted-end : (window : List ℕ) (n : ℕ) (positions : List ℕ) → n ≡ length window → Noted window n positions → AreWindowPositions window positions
Noted-end window n positions e k r = at (has window r) refl
  where
    at : (b : Bool) → has window r ≡ b → get_or positions r 0 ≡ cond (has window r) (position window r + 1) 0
    at true t =
        let s = stands window r (Contains-from_has window r t) in
        ap (λ x. get_or positions x 0) (sym s.1) ∙ k.noted (position window r) (omega (arith, s.0, e)) ∙ ap (λ b. cond b (position window r + 1) 0) (sym t)
    at false f =
        k.other r (λ p below same. not_both (sym (has_from_contains window r (subst (Contains window) same (Contains-get_or window p 0 (omega (arith, below, e))))) ∙ f))
        ∙ ap (λ b. cond b (position window r + 1) 0) (sym f)
      where
        not_both : true ≡ false → ⊥
        not_both c = cc

-- ---- what the table tells

pub none_noted : (window positions : List ℕ) (r v : ℕ) → AreWindowPositions window positions → v ≡ get_or positions r 0 → v ≡ 0 → has window r ≡ false
none_noted window positions r v k is z = at (has window r) refl
  where
    at : (b : Bool) → has window r ≡ b → has window r ≡ false
    at false f = f
    at true t = let e : v ≡ position window r + 1 = is ∙ k r ∙ ap (λ b. cond b (position window r + 1) 0) t in absurd (omega (arith, e, z))

pub some_noted : (window positions : List ℕ) (r v : ℕ) → AreWindowPositions window positions → v ≡ get_or positions r 0 → v ≢ 0 → (has window r ≡ true) × (v ≡ position window r + 1)
some_noted window positions r v k is some = at (has window r) refl
  where
    at : (b : Bool) → has window r ≡ b → (has window r ≡ true) × (v ≡ position window r + 1)
    at true t = (t, is ∙ k r ∙ ap (λ b. cond b (position window r + 1) 0) t)
    at false f = absurd (some (is ∙ k r ∙ ap (λ b. cond b (position window r + 1) 0) f))

-- ---- an address's place by the table

-- what is left of an address after its region's start
pub offset_is : (w a : ℕ) → (a / w * w ≤ a) × (a - a / w * w ≡ a % w)
offset_is w a = let e = div-add-mod' a w in (omega (arith, e), omega (arith, e))
