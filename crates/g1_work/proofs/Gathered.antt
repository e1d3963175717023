-- What threads gave, gathered: each answer, or a want of memory.
use Rattle.std.proofs.Common.{◌≡◌, ℕ, List, [], ◌∷◌, map, Contains, sym, subst, zero, suc, arith}
use Rattle.std.specs.Prelude.{Result, Ok, Err, MatchResult, IfOk, IfErr}
use Rattle.std.specs.List.{AllZip}
use Rattle.std.specs.Global.{Vec}
use Rattle.g1_words.specs.declared.fault.Fault.{Fault}
use Rattle.g1_words.specs.declared.fault.Fault.TheVariants.{Memory}

module _ {A : Type 0} (R : ℕ → Result A Fault → Type 0) (S : ℕ → A → Type 0) (ok : (j : ℕ) (x : A) → R j (Ok x) → S j x) (err : (j : ℕ) (e : Fault) → R j (Err e) → e ≡ Memory) where
  -- where none wants memory, each answer is there
  all_there : (js : List ℕ) (ys : List A) → AllZip R js (map (λ y. Ok y) ys) → AllZip S js ys
  all_there [] [] z = tt
  all_there [] (y ∷ ys) z = absurd z
  all_there (j ∷ js) [] z = absurd z
  all_there (j ∷ js) (y ∷ ys) z = (ok j y z.0, all_there js ys z.1)

  -- the only fault is a want of memory
  only_memory : (js : List ℕ) (xs : List (Result A Fault)) (e : Fault) → AllZip R js xs → Contains xs (Err e) → e ≡ Memory
  only_memory js [] e z k = absurd (omega (arith, k.1))
  only_memory [] (x ∷ xs) e z k = absurd z
  only_memory (j ∷ js) (x ∷ xs) e z (zero, b, same) = err j e (subst (R j) same z.0)
  only_memory (j ∷ js) (x ∷ xs) e z (suc i, b, eq) = only_memory js xs e z.1 (i, omega (arith, b), eq)

  module _ (js : List ℕ) (xs : List (Result A Fault)) (z : AllZip R js xs) where
    -- the answers, as they were gathered
    pub gathered : (answer : Result (Vec A) Fault) → MatchResult answer (λ v. (ys : List A) × (xs ≡ map (λ y. Ok y) ys) × (v.items ≡ ys))
        (λ e. Contains xs (Err e)) → IfOk answer (λ v. AllZip S js v.items)
    gathered (Ok v) (ys, e, f) = subst (AllZip S js) (sym f) (all_there js ys (subst (AllZip R js) e z))
    gathered (Err fault) m = tt

    -- the fault, as it was gathered
    pub gathered_memory : (answer : Result (Vec A) Fault) → MatchResult answer (λ v. (ys : List A) × (xs ≡ map (λ y. Ok y) ys) × (v.items ≡ ys))
        (λ e. Contains xs (Err e)) → IfErr answer (λ e. e ≡ Memory)
    gathered_memory (Ok v) m = tt
    gathered_memory (Err fault) m = only_memory js xs fault z m
