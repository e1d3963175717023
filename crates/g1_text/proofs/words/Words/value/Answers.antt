use Rattle.std.proofs.Common.{◌≡◌, ◌∙◌, ℕ, List, [], get_or, drop, refl, sym, ap, subst}
use Rattle.std.specs.Prelude.{Option, Some, None, IfSome, ok_or}
use Rattle.g1_text.specs.declared.expected.Expected.TheVariants.{Value}
use Rattle.g1_text.specs.Forms.{StandsFor, IsDataWord}
use Rattle.g1_text.proofs.OneValue.{one_value}
use Rattle.g1_text.proofs.words.Words.value.Goals as goal

-- a word has its number
stands : (n : ℕ) (word : List ℕ) (r : Option ℕ) → StandsFor n word → IfSome r (λ m. StandsFor m word) → (r ≡ None → IsDataWord word → ⊥) → r ≡ Some n
stands n word None says form all = absurd (all refl (n, says))
stands n word (Some m) says form all = ap Some (one_value m n word form says)

pub returns-clause-full : goal.returns-clause-full
returns-clause-full c = λ n word rest says e.
    let words = sym c.in-Some.ensures ∙ e in
    let same = ap (λ ws. get_or ws 0 []) words in
    let read = stands n c.in-Some.word.now c.data_word.result (subst (StandsFor n) (sym same) says) c.data_word.ensures.form c.data_word.ensures.all in
    (c.ok_or.ensures.value ∙ ap (λ o. ok_or o Value) read, ap (drop 1) words)
