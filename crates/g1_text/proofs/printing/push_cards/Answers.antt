use Rattle.std.proofs.Common.{◌∷◌, ◌++◌, ◌∙◌, [], map, ap, arith, string_bytes}
use Rattle.std.specs.Prelude.{codes, decimal}
use Rattle.g1_text.specs.Lines.{further}
use Rattle.g1_text.proofs.Printed.{one_more, numbers_end}
use Rattle.g1_words.proofs.Logic.{last_push}
use Rattle.g1_text.proofs.printing.push_cards.Goals as goal

pub returns : goal.returns
returns c =
    let old = string_bytes c.args.text.now in
    let now = string_bytes c.loop-card.text in
    let last = string_bytes c.push_str-2.new.self in
    last_push c.push_str-2.result last (now ++ 10 ∷ []) now (old ++ (codes " cards" ++ further (map decimal c.args.cards.now)))
    (numbers_end old (string_bytes c.push_str.new.self) now last (codes " cards") c.args.cards.now c.loop-card.card-index
    (omega (arith, c.loop-card-test.false)) c.in_ok-push_str.ensures.bytes c.loop-card.invariant) c.push_str-2.ensures.bytes

pub loop-card-preserved : goal.loop-card-preserved
loop-card-preserved c =
    let now = string_bytes c.loop-card.text in
    one_more (λ x. 32 ∷ decimal x) (string_bytes c.push_str.new.self) now (string_bytes c.push_field.new.text) c.args.cards.now c.loop-card.card-index 0
    c.loop-card-test.true c.loop-card.invariant (c.in_ok-push_field.ensures ∙ ap (λ x. now ++ 32 ∷ decimal x) c.from.ensures)
