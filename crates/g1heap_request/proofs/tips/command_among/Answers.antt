use Rattle.std.proofs.Common.{◌∙◌, arith, sym}
use Rattle.g1heap_request.proofs.Tipped.{named_at, named_none, none_more}
use Rattle.g1heap_request.proofs.tips.command_among.Goals as goal

pub loop-other-preserved : goal.loop-other-preserved
loop-other-preserved c = none_more c.args.word.now c.args.names.now c.loop-other.other-index c.loop-other.invariant (sym c.eq.ensures ∙ c.if-eq.false)

pub returns-then-eq : goal.returns-then-eq
returns-then-eq c = named_at c.args.word.now c.args.names.now c.loop-other.other-index c.loop-other-test.true c.loop-other.invariant (sym c.eq.ensures ∙ c.if-eq.true)

pub returns : goal.returns
returns c = named_none c.args.word.now c.args.names.now (λ k l. c.loop-other.invariant k (omega (arith, l, c.loop-other-test.false)))
