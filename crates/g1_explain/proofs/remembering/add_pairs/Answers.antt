use Rattle.std.proofs.Common.{◌++◌, ap, map, ◌∙◌}
use Rattle.g1_text.proofs.Printed.{take_all}
use Rattle.g1_explain.proofs.Gained.{pairs_more}
use Rattle.g1_explain.proofs.remembering.add_pairs.Goals as goal

pub loop-card-preserved : goal.loop-card-preserved
loop-card-preserved c =
    pairs_more c.args.region c.args.gained.now.items c.loop-card.gained.items c.push.new.self.items c.args.cards.now c.loop-card.card-index c.loop-card-test.true c.loop-card.invariant c.in_ok-push.ensures.items

pub returns : goal.returns
returns c = c.loop-card.invariant ∙ ap (λ l. c.args.gained.now.items ++ map (λ x. (x, c.args.region)) l) (take_all c.loop-card.card-index c.args.cards.now c.loop-card-test.false)
