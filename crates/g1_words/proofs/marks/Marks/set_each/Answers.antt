use Rattle.std.proofs.Common.{◌∙◌, sym, subst, refl, get_or, take, eqb, arith}
use Rattle.std.proofs.lemmas.List.{take_more}
use Rattle.g1_words.specs.Lists.{has}
use Rattle.g1_words.specs.Marks.{AreMarked}
use Rattle.g1_words.proofs.Marked.{marked_none, marked_more, marked_one, marked_past}
use Rattle.std.proofs.lemmas.List.{take_all}
use Rattle.g1_words.proofs.marks.Marks.set_each.Goals as goal
use Rattle.g1_words.proofs.marks.Marks.set_each.Goals.{then-place-len, else-place-len}

pub loop-number-init : goal.loop-number-init
loop-number-init c = marked_none c.args.self.now (has (take 0 c.args.numbers.now)) (λ x. refl)

pub loop-number-preserved : goal.loop-number-preserved
loop-number-preserved c =
    let xs = c.args.numbers.now in
    let i = c.loop-number.number-index in
    let n = get_or c.args.numbers.now c.loop-number.number-index 0 in
    let one : AreMarked (λ x. eqb x (get_or c.args.numbers.now c.loop-number.number-index 0)) c.loop-number.self c.if-place-len.self =
    elim c.if-place-len.branch [
      | then-place-len w ↦ subst (AreMarked (λ x. eqb x (get_or c.args.numbers.now c.loop-number.number-index 0)) c.loop-number.self)
          (sym (w.self-is ∙ w.set.ensures)) (marked_one c.loop-number.self n (omega (arith, w.if-place-len.true, c.len.ensures)))
      | else-place-len w ↦ subst (AreMarked (λ x. eqb x (get_or c.args.numbers.now c.loop-number.number-index 0)) c.loop-number.self)
          (sym w.self-is) (marked_past c.loop-number.self n (omega (arith, w.if-place-len.false, c.len.ensures)))
    ] in
    subst (λ l. AreMarked (has l) c.args.self.now c.if-place-len.self) (sym (take_more xs i 0 c.loop-number-test.true))
    (marked_more c.args.self.now c.loop-number.self c.if-place-len.self (take i xs) n c.loop-number.invariant one)

pub returns : goal.returns
returns c = subst (λ l. AreMarked (has l) c.args.self.now c.loop-number.self) (take_all c.loop-number.number-index c.args.numbers.now c.loop-number-test.false) c.loop-number.invariant

pub loop-number-smaller : goal.loop-number-smaller
loop-number-smaller c = omega (arith, c.loop-number-test.true)
