use Rattle.std.proofs.Common.{arith, string_bytes}
use Rattle.g1_text.specs.Lines.{line_text}
use Rattle.g1_text.proofs.Printed.{one_more}
use Rattle.g1_explain.proofs.Texts.{all_lines}
use Rattle.g1_explain.proofs.DirtyLines.{pairs_line}
use Rattle.g1_explain.proofs.remembering.push_dirty_cards.Goals as goal

pub loop-card-preserved : goal.loop-card-preserved
loop-card-preserved c = λ rise.
    one_more (λ x. line_text (pairs_line c.args.gained.now x)) (string_bytes c.args.text.now) (string_bytes c.loop-card.text) (string_bytes c.push_dirty_card.new.text) c.args.cards.now
    c.loop-card.card-index 0 c.loop-card-test.true (c.loop-card.invariant rise) (c.in_ok-push_dirty_card.ensures rise)

pub returns : goal.returns
returns c = λ rise.
    all_lines (pairs_line c.args.gained.now) (string_bytes c.args.text.now) (string_bytes c.loop-card.text) c.args.cards.now c.loop-card.card-index (omega (arith, c.loop-card-test.false)) (c.loop-card.invariant rise)
