use Rattle.std.proofs.Common.{[], arith}
use Rattle.g1_text.proofs.Taking.{first}
use Rattle.g1_text.proofs.words.Words.next.Goals as goal

pub returns : goal.returns
returns c =
    let w = c.self.inside in
    first (record { ref_ptr = (0, 0); now = [] }) w.words.now w.from w.to (omega (arith, c.if-self.false, c.self.invariant.0)) c.self.invariant.1 c.args.self.now c.self.view_is
