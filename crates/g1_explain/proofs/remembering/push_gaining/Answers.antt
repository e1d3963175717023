use Rattle.std.proofs.Common.{◌∷◌, ◌++◌, [], arith, map, string_bytes}
use Rattle.g1_text.specs.Lines.{further}
use Rattle.g1_explain.specs.Cards.{number_words}
use Rattle.g1_explain.proofs.Gained.{regions_end}
use Rattle.g1_words.proofs.Logic.{last_push}
use Rattle.g1_explain.proofs.remembering.push_gaining.Goals as goal

pub returns : goal.returns
returns c =
    let old = string_bytes c.args.text.now in
    let now = string_bytes c.loop-pair.text in
    let last = string_bytes c.push_str-2.new.self in
    last_push c.push_str-2.result last (now ++ 10 ∷ []) now (old ++ further (number_words (map (λ x. x.1) c.args.pairs.now)))
    (regions_end old now last c.args.pairs.now c.loop-pair.pair-index (omega (arith, c.loop-pair-test.false)) c.if-is_empty.ensures c.loop-pair.invariant) c.push_str-2.ensures.bytes
