use Rattle.std.proofs.Common.{◌∙◌, [], String, Global, map, ap, sym, arith}
use Rattle.std.proofs.lemmas.List.{get_or-map, length-map}
use Rattle.clap.specs.Words.{Text}
use Rattle.g1_command.proofs.Tied.{all_tied, one_more}
use Rattle.g1_command.proofs.lists.tie.Goals as goal

abbrev text : String Global → Text
text s = s.bytes.items

pub loop-place-preserved : goal.loop-place-preserved
loop-place-preserved c =
    let ws = c.args.words.now in
    let i = c.loop-place.place in
    one_more (map text ws) (map text c.loop-place.tied.items) (map text c.tie_word.new.tied.items) c.loop-place.follows c.in_ok-follows.follows i c.as_str.result.now c.word_at-next.result.now
    (omega (arith, c.loop-place-test.true, length-map ws text)) (c.as_str.ensures.value ∙ ap text c.index-words-place.is ∙ sym (get_or-map text ws i _ [] c.loop-place-test.true)) c.word_at-next.ensures
    c.in_ok-follows.ensures c.loop-place.invariant

pub returns : goal.returns
returns c =
    let ws = c.args.words.now in
    all_tied (map text ws) (map text c.loop-place.tied.items) c.loop-place.follows c.loop-place.place (omega (arith, c.loop-place-test.false, length-map ws text)) c.loop-place.invariant
