-- Truth values, options and results.
use Rattle.std.proofs.Common.{◌≡◌, ◌≢◌, ℕ, Bool, true, false, not, List, Option, Some, None, IfSome, IfNone, Result, Ok, Err, OnOk, is_ok, if◌then◌else◌, refl, sym, subst, eqb, eqb-true, eq-eqb}
use Rattle.std.proofs.lemmas.Bool.{eqb-false, not-true}

-- two tests that imply one another are one
pub same_test : (a b : Bool) → (a ≡ true → b ≡ true) → (b ≡ true → a ≡ true) → a ≡ b
same_test true b f g = sym (f refl)
same_test false true f g = g refl
same_test false false f g = refl

pub eqb_sym : (a b : ℕ) → eqb a b ≡ eqb b a
eqb_sym a b = same_test (eqb a b) (eqb b a) (λ e. eq-eqb b a (sym (eqb-true a b e))) (λ e. eq-eqb a b (sym (eqb-true b a e)))

pub differs : (a b : ℕ) → not (eqb a b) ≡ true → a ≢ b
differs a b e = eqb-false a b (not-true (eqb a b) e)

pub some_then : {A : Type 0} (P : A → Type 0) (o : Option A) (x : A) → o ≡ Some x → IfSome o P → P x
some_then P o x e h = subst (λ o. IfSome o P) e h

pub IfNone-weaker : {A : Type 0} (o : Option A) (P Q : Type 0) → (P → Q) → IfNone o P → IfNone o Q
IfNone-weaker (Some a) P Q f h = h
IfNone-weaker None P Q f h = f h

-- what a push that was the last thing adds
pub last_push : {R E : Type 0} (r : Result R E) (after more same wanted : List ℕ) → (after ≡ more → after ≡ wanted) → after ≡ (if is_ok r then more else same) → OnOk r (after ≡ wanted)
last_push (Ok x) after more same wanted f e = f e
last_push (Err x) after more same wanted f e = tt
