use Rattle.std.proofs.Common.{◌∷◌, ◌++◌, [], arith, string_bytes}
use Rattle.std.specs.Prelude.{decimal}
use Rattle.g1_text.specs.Lines.{further}
use Rattle.g1_explain.specs.Cards.{number_words}
use Rattle.g1_text.proofs.Printed.{one_more}
use Rattle.g1_explain.proofs.Parts.{numbers_none, numbers_some}
use Rattle.g1_words.proofs.Logic.{last_push}
use Rattle.g1_explain.proofs.cards.push_numbers.Goals as goal

pub returns-then-is_empty : goal.returns-then-is_empty
returns-then-is_empty c =
    let old = string_bytes c.args.text.now in
    let last = string_bytes c.push_str.new.self in
    last_push c.push_str.result last (old ++ (32 ∷ 45 ∷ 10 ∷ [])) old (old ++ further (number_words c.args.numbers.now))
    (numbers_none old last c.args.numbers.now c.if-is_empty.ensures) c.push_str.ensures.bytes

pub returns : goal.returns
returns c =
    let old = string_bytes c.args.text.now in
    let now = string_bytes c.loop-number.text in
    let last = string_bytes c.push_str-2.new.self in
    last_push c.push_str-2.result last (now ++ 10 ∷ []) now (old ++ further (number_words c.args.numbers.now))
    (numbers_some old now last c.args.numbers.now c.loop-number.number-index (omega (arith, c.loop-number-test.false)) c.if-is_empty.ensures c.loop-number.invariant) c.push_str-2.ensures.bytes

pub loop-number-preserved : goal.loop-number-preserved
loop-number-preserved c =
    one_more (λ x. 32 ∷ decimal x) (string_bytes c.args.text.now) (string_bytes c.loop-number.text) (string_bytes c.write.new.self) c.args.numbers.now
    c.loop-number.number-index 0 c.loop-number-test.true c.loop-number.invariant c.in_ok-write.ensures.bytes
