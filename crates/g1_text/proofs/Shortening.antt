-- Parts of lines that may be left out.
use Rattle.std.proofs.Common.{◌≡◌, ◌≢◌, ℕ, ◌^◌, Bool, true, false, List, [], ◌∷◌, ◌++◌, get_or, ◌∙◌, ap, arith}
use Rattle.std.specs.Prelude.{Option, Some, None, codes}
use Rattle.std.specs.Str.Parse.{AllDigits}
use Rattle.g1_words.specs.Kind.{kind_word}
use Rattle.g1_words.specs.declared.region.Kind.{Kind}
use Rattle.g1_words.specs.declared.region.Kind.TheVariants.{Free, Ordinary, HumongousFirst, Continuation}
use Rattle.g1_text.specs.Lines.{pinned_words}
use Rattle.g1_text.specs.Forms.{Spells}
use Rattle.g1_text.specs.Content.{IsCount}

-- WORDS THAT ARE NO NUMBERS
pub kind_no_number : (k : Kind) (n : ℕ) → Spells (2 ^ 64) n (kind_word k) → ⊥
kind_no_number Free n p = let d = p.0.1.0 in absurd (omega (arith, d))
kind_no_number Ordinary n p = let d = p.0.1.0 in absurd (omega (arith, d))
kind_no_number HumongousFirst n p = let d = p.0.1.0 in absurd (omega (arith, d))
kind_no_number Continuation n p = let d = p.0.1.0 in absurd (omega (arith, d))

no_slash : (front back : List ℕ) → AllDigits 10 (front ++ 47 ∷ back) → ⊥
no_slash [] back all = let d = all.0 in absurd (omega (arith, d))
no_slash (c ∷ front) back all = no_slash front back all.1

pub size_no_number : (front back : List ℕ) (n : ℕ) → Spells (2 ^ 64) n (front ++ 47 ∷ back) → ⊥
size_no_number front back n p = no_slash front back p.0.1

-- what stands behind does not begin so
pub pinned_apart : (word : List ℕ) (p : Bool) → codes "pinned" ≢ word → (ws : List (List ℕ)) → pinned_words p ≢ word ∷ ws
pinned_apart word true apart ws e = apart (ap (λ vs. get_or vs 0 []) e)
pinned_apart word false apart ws e = cc

-- COUNTS
pub count_is : (t : Option ℕ) (n m : ℕ) → IsCount t n → n ≡ m → IsCount t m
count_is None n m c e = tt
count_is (Some k) n m c e = c ∙ e
