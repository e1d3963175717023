use Rattle.std.proofs.Common.{arith, false, string_bytes}
use Rattle.std.specs.Prelude.{slice_index_or}
use Rattle.g1_explain.specs.Cards.{entry_line}
use Rattle.g1_explain.proofs.Texts.{all_lines}
use Rattle.g1_explain.proofs.cards.push_entries.Goals as goal

pub returns : goal.returns
returns c =
    all_lines (entry_line c.args.walkable.now.heap (λ r. slice_index_or c.args.set.now r false)) (string_bytes c.args.text.now) (string_bytes c.loop-card.text) c.args.cards.now c.loop-card.card-index
    (omega (arith, c.loop-card-test.false)) c.loop-card.invariant
