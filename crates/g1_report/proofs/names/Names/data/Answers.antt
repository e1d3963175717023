use Rattle.std.proofs.Common.{length, sym, ap, ◌∙◌}
use Rattle.g1_report.specs.Program.{program_of, texts_told, type_words, words_text, name_of_word, data_names}
use Rattle.g1_report.proofs.Told.{then_some, then_none}
use Rattle.g1_report.proofs.names.Names.data.Goals as goal

pub returns-in-Some : goal.returns-in-Some
returns-in-Some c = λ h.
    let p = program_of c.args.self.now in
    let o = words_text c.args.object.now in
    let n = c.args.word in
    then_some (λ words. name_of_word (data_names words (length o.slots)) n) (type_words p o) _ _ (ap texts_told (sym c.in-Some.is) ∙ c.words_of.ensures h)
    (c.numbered.ensures ∙ ap (λ names. name_of_word names n) c.data_names.ensures)

pub returns-in-None : goal.returns-in-None
returns-in-None c = λ h.
    let p = program_of c.args.self.now in
    let o = words_text c.args.object.now in
    then_none (λ words. name_of_word (data_names words (length o.slots)) c.args.word) (type_words p o) (ap texts_told (sym c.in-None.is) ∙ c.words_of.ensures h)
