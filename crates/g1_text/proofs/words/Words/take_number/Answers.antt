use Rattle.std.proofs.Common.{◌≡◌, ◌∙◌, ◌^◌, [], get_or, refl, sym, ap, subst, arith}
use Rattle.std.specs.Prelude.{MatchOption}
use Rattle.g1_text.specs.Forms.{Spells, IsBelow, HasFirst, HasNoFirst}
use Rattle.g1_text.proofs.Taking.{first}
use Rattle.g1_text.proofs.Spelled.{first_some}
use Rattle.g1_text.proofs.OneValue.{spells_one}
use Rattle.g1_text.proofs.words.Words.take_number.Goals as goal

pub returns-in_err-number-clause-digits : goal.returns-in_err-number-clause-digits
returns-in_err-number-clause-digits c =
    let w = c.self.inside in
    let word = (get_or w.words.now w.from (record { ref_ptr = (0, 0); now = [] })).now in
    let front = first (record { ref_ptr = (0, 0); now = [] }) w.words.now w.from w.to (omega (arith, c.if-self.false, c.self.invariant.0)) c.self.invariant.1 c.args.self.now c.self.view_is in
    let none = subst (λ r. MatchOption r (IsBelow (2 ^ 64) word → ⊥) (λ n. Spells (2 ^ 64) n word)) c.in_err-number.was c.whole.ensures.digits in
    subst (λ r. MatchOption r ((c.args.self.now ≡ c.args.self.now) × HasNoFirst (IsBelow (2 ^ 64)) c.args.self.now) (λ n. HasFirst (Spells (2 ^ 64) n) c.args.self.now c.args.self.now)) (sym c.from_residual.ensures)
    (refl, λ other left e below. none (subst (IsBelow (2 ^ 64)) (sym (ap (λ ts. get_or ts 0 []) (sym front ∙ e))) below))

pub returns-clause-digits : goal.returns-clause-digits
returns-clause-digits c =
    let w = c.self.inside in
    let word = (get_or w.words.now w.from (record { ref_ptr = (0, 0); now = [] })).now in
    let front = first (record { ref_ptr = (0, 0); now = [] }) w.words.now w.from w.to (omega (arith, c.if-self.false, c.self.invariant.0)) c.self.invariant.1 c.args.self.now c.self.view_is in
    (word, front, subst (λ r. MatchOption r (IsBelow (2 ^ 64) word → ⊥) (λ n. Spells (2 ^ 64) n word)) c.in_ok-number.was c.whole.ensures.digits)

pub returns-in_err-number-clause-full : goal.returns-in_err-number-clause-full
returns-in_err-number-clause-full c = λ n word rest says e. first_some (Spells (2 ^ 64)) (spells_one (2 ^ 64)) n word c.args.self.now c.args.self.now rest says e _ _ (returns-in_err-number-clause-digits c)

pub returns-clause-full : goal.returns-clause-full
returns-clause-full c = λ n word rest says e. first_some (Spells (2 ^ 64)) (spells_one (2 ^ 64)) n word c.args.self.now _ rest says e (Unit {0}) _ (returns-clause-digits c)
