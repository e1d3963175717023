-- What checks of options let through, and what they refuse.
use Rattle.std.proofs.Common.{◌≡◌, ◌≢◌, ◌∙◌, ◌⊎◌, inl, inr, ◌≤◌, ◌<◌, ◌+◌, ◌&&◌, ◌||◌, ℕ, Bool, true, false, cond, [], ◌∷◌, Option, Some, None, is_some, Result, Ok, Err, refl, sym, ap, ap₂, subst, arith}
use Rattle.std.specs.Prelude.{IfErr, OnOk}
use Rattle.std.specs.List.{count_by}
use Rattle.std.specs.Option.{option_map_or}
use Rattle.std.specs.Str.{bytes_eq}
use Rattle.std.proofs.lemmas.Slice.Eq.{bytes_eq-Decides}
use Rattle.clap.specs.Words.{Text}
use Rattle.std.proofs.lemmas.Bool.{true≢false, false≢true}
use Rattle.g1_command.specs.declared.values.Misuse.{Misuse}
use Rattle.g1_command.specs.Values.{Because}
use Rattle.g1_command.proofs.Got.{because_so}
use Rattle.g1heap_request.specs.Values.{standard}

-- what is there or not, as a test says
module _ {X : Type 0} (o : Option X) (b : Bool) (is : b ≡ is_some o) where
  pub here : b ≡ true → o ≢ None
  here e = λ none. false≢true (sym (ap is_some none) ∙ sym is ∙ e)

  pub gone : b ≡ false → o ≡ None
  gone e = go o (sym is ∙ e)
    where
      go : (t : Option X) → is_some t ≡ false → t ≡ None
      go None k = refl
      go (Some x) k = absurd (true≢false k)

-- what is refused for one reason is refused for another
pub refused_so : {X P Q : Type 0} → (P → Q) → (r : Result X Misuse) → IfErr r (Because P) → IfErr r (Because Q)
refused_so f (Ok x) h = tt
refused_so f (Err m) h = because_so f m h

-- a fact is one of whatever is returned well
pub on_ok : {P T E : Type 0} (r : Result T E) → P → OnOk r P
on_ok (Ok x) p = p
on_ok (Err e) p = tt

-- what a last check lets through is all right
pub with_last : {P Q E : Type 0} → (P → Q) → (r : Result (Unit {0}) E) → OnOk r P → OnOk r Q
with_last f (Ok u) h = f h
with_last f (Err e) h = tt

-- two tests, by what each says
module _ {A P B Q : Type 0} (a b : Bool) (off : a ≡ false → A) (on : a ≡ true → P) (off_too : b ≡ false → B) (on_too : b ≡ true → Q) where
  pub one_is : (a && b) ≡ false → A ⊎ B
  one_is h = go a refl
    where
      go : (t : Bool) → a ≡ t → A ⊎ B
      go false e = inl (off e)
      go true e = inr (off_too (subst (λ t. (t && b) ≡ false) e h))

  pub both_are : (a && b) ≡ true → P × Q
  both_are h = go a refl
    where
      go : (t : Bool) → a ≡ t → P × Q
      go false e = absurd (false≢true (subst (λ t. (t && b) ≡ true) e h))
      go true e = (on e, on_too (subst (λ t. (t && b) ≡ true) e h))

  pub not_both : {E : Type 0} (r : Result (Unit {0}) E) → OnOk r ((a && b) ≡ false) → OnOk r (A ⊎ B)
  not_both r h = with_last one_is r h

  pub both : (r : Result (Unit {0}) Misuse) → IfErr r (Because ((a && b) ≡ true)) → IfErr r (Because (P × Q))
  both r h = refused_so both_are r h

-- how many files are standard input: of two, and of four
abbrev pub so_many : Bool → Bool → ℕ
so_many a b = 0 + cond a 1 0 + cond b 1 0

one_of_two : (a b : Bool) → (a && b) ≡ false → so_many a b ≤ 1
one_of_two true true e = absurd (true≢false e)
one_of_two true false e = omega arith
one_of_two false true e = omega arith
one_of_two false false e = omega arith

both_of_two : (a b : Bool) → (a && b) ≡ true → 1 < so_many a b
both_of_two true true e = omega arith
both_of_two true false e = absurd (false≢true e)
both_of_two false b e = absurd (false≢true e)

abbrev pub are_two : Bool → Bool → Bool → Bool → Bool
are_two a b n o = (n && o) || ((n || o) && (a || b))

one_of_four : (a b n o : Bool) → (a && b) ≡ false → are_two a b n o ≡ false → so_many a b + cond n 1 0 + cond o 1 0 ≤ 1
one_of_four true true true true h e = absurd (true≢false h)
one_of_four true true true false h e = absurd (true≢false h)
one_of_four true true false true h e = absurd (true≢false h)
one_of_four true true false false h e = absurd (true≢false h)
one_of_four true false true true h e = absurd (true≢false e)
one_of_four true false true false h e = absurd (true≢false e)
one_of_four true false false true h e = absurd (true≢false e)
one_of_four true false false false h e = omega arith
one_of_four false true true true h e = absurd (true≢false e)
one_of_four false true true false h e = absurd (true≢false e)
one_of_four false true false true h e = absurd (true≢false e)
one_of_four false true false false h e = omega arith
one_of_four false false true true h e = absurd (true≢false e)
one_of_four false false true false h e = omega arith
one_of_four false false false true h e = omega arith
one_of_four false false false false h e = omega arith

two_of_four : (a b n o : Bool) → are_two a b n o ≡ true → 1 < so_many a b + cond n 1 0 + cond o 1 0
two_of_four true true true true e = omega arith
two_of_four true true true false e = omega arith
two_of_four true true false true e = omega arith
two_of_four true true false false e = absurd (false≢true e)
two_of_four true false true true e = omega arith
two_of_four true false true false e = omega arith
two_of_four true false false true e = omega arith
two_of_four true false false false e = absurd (false≢true e)
two_of_four false true true true e = omega arith
two_of_four false true true false e = omega arith
two_of_four false true false true e = omega arith
two_of_four false true false false e = absurd (false≢true e)
two_of_four false false true true e = omega arith
two_of_four false false true false e = absurd (false≢true e)
two_of_four false false false true e = absurd (false≢true e)
two_of_four false false false false e = absurd (false≢true e)

first_two_of_four : (a b n o : Bool) → (a && b) ≡ true → 1 < so_many a b + cond n 1 0 + cond o 1 0
first_two_of_four a b n o e = let two = both_of_two a b e in omega (arith, two)

module _ (p : Text → Bool) (x y : Text) (a b : Bool) (is : a ≡ p x) (is_too : b ≡ p y) where
  of_two : so_many a b ≡ count_by p (x ∷ y ∷ [])
  of_two = ap₂ so_many is is_too

  pub once_of_two : (a && b) ≡ false → count_by p (x ∷ y ∷ []) ≤ 1
  once_of_two e = subst (λ n. n ≤ 1) of_two (one_of_two a b e)

  pub twice_of_two : (a && b) ≡ true → 1 < count_by p (x ∷ y ∷ [])
  twice_of_two e = subst (λ n. 1 < n) of_two (both_of_two a b e)

  module _ (z w : Text) (n o : Bool) (is_third : n ≡ p z) (is_last : o ≡ p w) where
    of_four : so_many a b + cond n 1 0 + cond o 1 0 ≡ count_by p (x ∷ y ∷ z ∷ w ∷ [])
    of_four = ap₂ (λ k l. k + cond l 1 0) (ap₂ (λ k l. k + cond l 1 0) of_two is_third) is_last

    pub once_of_four : (a && b) ≡ false → are_two a b n o ≡ false → count_by p (x ∷ y ∷ z ∷ w ∷ []) ≤ 1
    once_of_four h e = subst (λ m. m ≤ 1) of_four (one_of_four a b n o h e)

    pub first_twice : (a && b) ≡ true → 1 < count_by p (x ∷ y ∷ z ∷ w ∷ [])
    first_twice e = subst (λ m. 1 < m) of_four (first_two_of_four a b n o e)

    pub twice_of_four : are_two a b n o ≡ true → 1 < count_by p (x ∷ y ∷ z ∷ w ∷ [])
    twice_of_four e = subst (λ m. 1 < m) of_four (two_of_four a b n o e)

-- a file is standard input, as a test says
pub standard_is : (o : Option Text) → option_map_or (λ name. bytes_eq name standard) o false ≡ true → o ≡ Some standard
standard_is None e = absurd (false≢true e)
standard_is (Some t) e = ap Some ((bytes_eq-Decides t standard).0 e)

pub not_standard : (o : Option Text) → option_map_or (λ name. bytes_eq name standard) o false ≡ false → o ≢ Some standard
not_standard o e = λ k. true≢false (sym ((bytes_eq-Decides standard standard).1 refl) ∙ sym (ap (λ x. option_map_or (λ name. bytes_eq name standard) x false) k) ∙ e)

-- a file is standard output, or isn't
pub that_file : (file : Text) (b : Bool) → b ≡ bytes_eq file standard → b ≡ true → file ≡ standard
that_file file b is e = (bytes_eq-Decides file standard).0 (sym is ∙ e)

pub other_file : (file : Text) (b : Bool) → b ≡ bytes_eq file standard → b ≡ false → file ≢ standard
other_file file b is e = λ k. true≢false (sym ((bytes_eq-Decides file standard).1 k) ∙ sym is ∙ e)
