use Rattle.std.proofs.Common.{[], arith}
use Rattle.g1_text.proofs.Taking.{last_found, last_other}
use Rattle.g1_text.proofs.words.Words.take_last.Goals as goal

pub returns-then-found : goal.returns-then-found
returns-then-found c =
    let w = c.self.inside in
    last_found (record { ref_ptr = (0, 0); now = [] }) w.words.now w.from w.to (omega (arith, c.if-self.false, c.self.invariant.0)) c.self.invariant.1 c.args.self.now c.self.view_is
    c.args.word.now c.eq-found.result c.eq-found.ensures c.if-found.true

pub returns-else-found : goal.returns-else-found
returns-else-found c =
    let w = c.self.inside in
    last_other (record { ref_ptr = (0, 0); now = [] }) w.words.now w.from w.to (omega (arith, c.if-self.false, c.self.invariant.0)) c.self.invariant.1 c.args.self.now c.self.view_is
    c.args.word.now c.eq-found.result c.eq-found.ensures c.if-found.false
