use Rattle.std.proofs.Common.{arith, ap, sym, ◌≡◌, ◌∙◌, length}
use Rattle.g1judge.specs.declared.answer.Answer.{Answer}
use Rattle.g1judge.specs.Answered.{answer_how, answer_difference}
use Rattle.g1judge.proofs.answering.of_difference.Goals as goal

pub returns-in-At : goal.returns-in-At
returns-in-At c =
    let e = c.args.ends.now in
    let slots : c.len.result ≡ length c.in-At.slots.items = omega (arith, c.len.ensures, c.in-At.slots.ok) in
    ap (λ (a : Answer). record a { root = c.in-At.root; slots = c.len.result; before = e.before; after = e.after }) c.of_how.ensures
    ∙ ap (λ n. record (answer_how c.in-At.how e) { root = c.in-At.root; slots = n; before = e.before; after = e.after }) slots
    ∙ ap (λ d. answer_difference d e) (sym c.in-At.is)
