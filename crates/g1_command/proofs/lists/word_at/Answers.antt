use Rattle.std.proofs.Common.{◌≡◌, ◌∙◌, ◌<◌, [], String, Global, length, get_or, map, ap, sym, arith}
use Rattle.std.specs.Prelude.{is_some}
use Rattle.std.proofs.lemmas.Bool.{ltb-true}
use Rattle.std.proofs.lemmas.List.{drop_more, get_or-map, length-map}
use Rattle.clap.specs.Words.{Text}
use Rattle.g1_command.specs.Tied.{first_word}
use Rattle.g1_words.proofs.Logic.{some_then}
use Rattle.g1_command.proofs.lists.word_at.Goals as goal

abbrev text : String Global → Text
text s = s.bytes.items

pub returns-in-Some : goal.returns-in-Some
returns-in-Some c =
    let l = c.args.words.now in
    let n = c.args.place in
    let word = c.in-Some.word in
    let within : n < length l = ltb-true n (length l) (sym c.get.ensures.lookup.0 ∙ ap is_some c.in-Some.is) in
    let here : word.now ≡ get_or l n word.now = some_then (λ x. x.now ≡ get_or l n x.now) c.get.result word c.in-Some.is c.get.ensures.lookup.1 in
    c.as_str.ensures.value ∙ ap text here ∙ sym (get_or-map text l n word.now [] within) ∙ sym (ap first_word (drop_more (map text l) n [] (omega (arith, within, length-map l text))))
