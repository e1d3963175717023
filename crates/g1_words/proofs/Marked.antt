-- Marks that are set, of those that pass a test.
use Rattle.std.proofs.Common.{◌≡◌, ◌≤◌, ◌<◌, ℕ, zero, suc, Bool, true, false, ◌||◌, List, [], ◌∷◌, ◌++◌, length, slice_index_or, set, replicate}
use Rattle.std.proofs.Common.{arith, refl, sym, ap, ◌∙◌, eqb, eqb-true, eq-eqb, ne_eqb, length-set}
use Rattle.std.specs.List.{list_any}
use Rattle.std.proofs.lemmas.List.{get_or-set_same, get_or-set_other, length-replicate}
use Rattle.g1_words.specs.Lists.{has}
use Rattle.g1_words.specs.Marks.{AreMarked}

-- a test of one more
pub any_more : (p : ℕ → Bool) (xs : List ℕ) (x : ℕ) → list_any p (xs ++ x ∷ []) ≡ (list_any p xs || p x)
any_more p [] x = or_false (p x) where
  or_false : (b : Bool) → (b || false) ≡ (false || b)
  or_false true = refl
  or_false false = refl
any_more p (y ∷ ys) x = ap (λ z. p y || z) (any_more p ys x) ∙ or_assoc (p y) (list_any p ys) (p x) where
  or_assoc : (a b c : Bool) → (a || (b || c)) ≡ ((a || b) || c)
  or_assoc true b c = refl
  or_assoc false b c = refl

-- no mark was set
pub marked_none : (marks : List Bool) (test : ℕ → Bool) → ((x : ℕ) → test x ≡ false) → AreMarked test marks marks
marked_none marks test never = record {
  one_each = refl;
  each = λ x lt. same (slice_index_or marks x false) (test x) (never x);
} where
  same : (a b : Bool) → b ≡ false → a ≡ (a || b)
  same true b e = refl
  same false b e = sym e

-- marks set after marks
pub marked_then : (first then both : ℕ → Bool) (old mid new : List Bool) → AreMarked first old mid → AreMarked then mid new → ((x : ℕ) → both x ≡ (first x || then x)) → AreMarked both old new
marked_then first then both old mid new a b e = record {
  one_each = b.one_each ∙ a.one_each;
  each = λ x lt.
      b.each x (omega (arith, lt, a.one_each)) ∙ ap (λ z. z || then x) (a.each x lt) ∙ or_assoc (slice_index_or old x false) (first x) (then x) ∙ ap (λ z. slice_index_or old x false || z) (sym (e x));
} where
  or_assoc : (a b c : Bool) → ((a || b) || c) ≡ (a || (b || c))
  or_assoc true b c = refl
  or_assoc false b c = refl

-- one mark was set
pub marked_one : (old : List Bool) (n : ℕ) → n < length old → AreMarked (λ x. eqb x n) old (set old n true)
marked_one old n lt = record {
  one_each = length-set old n true;
  each = λ x low. by x (eqb x n) refl low;
} where
  or_true : (b : Bool) → true ≡ (b || true)
  or_true true = refl
  or_true false = refl

  or_false : (b : Bool) → b ≡ (b || false)
  or_false true = refl
  or_false false = refl

  by : (x : ℕ) (b : Bool) → eqb x n ≡ b → x < length old → slice_index_or (set old n true) x false ≡ (slice_index_or old x false || eqb x n)
  by x true e low =
      ap (λ y. slice_index_or (set old n true) y false) (eqb-true x n e) ∙ get_or-set_same old n true false lt
      ∙ or_true (slice_index_or old x false) ∙ ap (λ z. slice_index_or old x false || z) (sym e)
  by x false e low =
      get_or-set_other old n x true false (λ s. let t : eqb x n ≡ true = eq-eqb x n s in let clash : true ≡ false = sym t ∙ e in cc)
      ∙ or_false (slice_index_or old x false) ∙ ap (λ z. slice_index_or old x false || z) (sym e)

-- a mark past the last there isn't
pub marked_past : (old : List Bool) (n : ℕ) → length old ≤ n → AreMarked (λ x. eqb x n) old old
marked_past old n le = record {
  one_each = refl;
  each = λ x low. same (slice_index_or old x false) (eqb x n) (ne_eqb x n (λ s. let e : x ≡ n = s in omega (arith, e, low, le)));
} where
  same : (a b : Bool) → b ≡ false → a ≡ (a || b)
  same true b e = refl
  same false b e = sym e

-- the marks of one more of these numbers
pub marked_more : (old mid new : List Bool) (xs : List ℕ) (n : ℕ) → AreMarked (has xs) old mid → AreMarked (λ x. eqb x n) mid new → AreMarked (has (xs ++ n ∷ [])) old new
marked_more old mid new xs n a b = marked_then (has xs) (λ x. eqb x n) (has (xs ++ n ∷ [])) old mid new a b (λ x. any_more (λ y. eqb x y) xs n)

-- marks none of which was set at first
pub marked_from_none : (test : ℕ → Bool) (n : ℕ) (old marks : List Bool) → old ≡ replicate n false → AreMarked test old marks → (x : ℕ) → x < n → slice_index_or marks x false ≡ test x
marked_from_none test n old marks e m x lt =
    m.each x (omega (arith, lt, ap length e, length-replicate n false)) ∙ ap (λ z. z || test x) (ap (λ l. slice_index_or l x false) e ∙ unset n x)
  where
    unset : (n x : ℕ) → slice_index_or (replicate n false) x false ≡ false
    unset zero x = refl
    unset (suc n) zero = refl
    unset (suc n) (suc x) = unset n x
