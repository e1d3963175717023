use Rattle.std.proofs.Common.{[], arith}
use Rattle.g1_text.proofs.Taking.{first_found, first_other}
use Rattle.g1_text.proofs.words.Words.take.Goals as goal

pub returns-then-found : goal.returns-then-found
returns-then-found c =
    let w = c.self.inside in
    first_found (record { ref_ptr = (0, 0); now = [] }) w.words.now w.from w.to (omega (arith, c.if-self.false, c.self.invariant.0)) c.self.invariant.1 c.args.self.now c.self.view_is
    c.args.word.now c.eq-found.result c.eq-found.ensures c.if-found.true

pub returns-else-found : goal.returns-else-found
returns-else-found c =
    let w = c.self.inside in
    first_other (record { ref_ptr = (0, 0); now = [] }) w.words.now w.from w.to (omega (arith, c.if-self.false, c.self.invariant.0)) c.self.invariant.1 c.args.self.now c.self.view_is
    c.args.word.now c.eq-found.result c.eq-found.ensures c.if-found.false
