use Rattle.std.proofs.Common.{◌≡◌, ℕ, [], ◌∷◌, ◌++◌, drop, sym, ◌∙◌, ap}
use Rattle.std.specs.Prelude.{Some, None, codes}
use Rattle.std.proofs.lemmas.Bool.Decides.{Decides-eqb}
use Rattle.std.proofs.lemmas.Option.{IfSome_then}
use Rattle.std.proofs.lemmas.Slice.Eq.{strip_prefix_is}
use Rattle.g1_trace.specs.TraceText.{spaced, heap_line, AllFit, IsHeapLine}
use Rattle.g1_words.proofs.Logic.{IfNone-weaker}
use Rattle.g1_trace.proofs.parsing.first_line.Goals as goal

pub returns-in-None-clause-none : goal.returns-in-None-clause-none
returns-in-None-clause-none c = λ (w, k, n, roots, fits, is).
    strip_prefix_is Decides-eqb c.args.line.now (codes "heap") None c.in-None.ensures.cases (spaced (w ∷ k ∷ n ∷ roots ∷ [])) is

pub returns-in-Some-clause-some : goal.returns-in-Some-clause-some
returns-in-Some-clause-some c =
    let begins : c.args.line.now ≡ codes "heap" ++ c.in-Some.rest.now = strip_prefix_is Decides-eqb c.args.line.now (codes "heap") (Some c.in-Some.rest) c.in-Some.ensures.cases in
    IfSome_then c.four.result {P = λ r. c.in-Some.rest.now ≡ spaced (r.0 ∷ r.1 ∷ r.2 ∷ r.3 ∷ [])} {Q = λ r. c.args.line.now ≡ heap_line r.0 r.1 r.2 r.3} c.four.ensures.some
    (λ r is. begins ∙ ap (λ xs. codes "heap" ++ xs) is)

pub returns-in-Some-clause-none : goal.returns-in-Some-clause-none
returns-in-Some-clause-none c =
    let begins : c.args.line.now ≡ codes "heap" ++ c.in-Some.rest.now = strip_prefix_is Decides-eqb c.args.line.now (codes "heap") (Some c.in-Some.rest) c.in-Some.ensures.cases in
    IfNone-weaker c.four.result ((a b d e : ℕ) → AllFit (a ∷ b ∷ d ∷ e ∷ []) → c.in-Some.rest.now ≡ spaced (a ∷ b ∷ d ∷ e ∷ []) → ⊥) (IsHeapLine c.args.line.now → ⊥)
    (λ none (w, k, n, roots, fits, is). none w k n roots fits (ap (drop 4) (sym begins ∙ is))) c.four.ensures.none
