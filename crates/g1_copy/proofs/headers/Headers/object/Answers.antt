use Rattle.std.proofs.Common.{◌+◌, length, sym, ap, subst, arith, ◌∙◌}
use Rattle.g1_copy.specs.Headers.{AreAhead}
use Rattle.g1_copy.specs.Plans.{Moving}
use Rattle.g1_copy.proofs.HeadersAhead.{ahead_left, ahead_read}
use Rattle.g1_copy.proofs.headers.Headers.object.Goals as goal
use Rattle.g1_copy.proofs.headers.Headers.object.Goals.{then-i-self, else-i-self}

pub returns-clause-ahead : goal.returns-clause-ahead
returns-clause-ahead c =
    let h = c.args.moving.now.heap in
    let l = c.args.moving.now.plan.survivors in
    let i = c.args.i in
    let list = c.survivors-survivors.ensures ∙ ap (λ (m : Moving). m.plan.survivors) c.moving.view_is in
    elim c.if-i-self.branch [
      | then-i-self w ↦
          let count = ap length list in
          subst (AreAhead h l (i + 1)) (sym w.self-is)
          (ahead_read h l i w.min-to.result w.words.result.now.items c.survivors-survivors.result.now w.read.new.headers (w.words.ensures.same ∙ ap (λ (m : Moving). m.heap.words) c.moving.view_is) list
          (omega (arith, w.min-to.ensures, count, c.requires.index)) (omega (arith, w.min-to.ensures)) (omega (arith, w.min-to.ensures, count)) w.read.ensures)
      | else-i-self w ↦ subst (AreAhead h l (i + 1)) (sym w.self-is) (ahead_left h l i c.args.self.now c.requires.ahead w.if-i-self.false)
    ]
