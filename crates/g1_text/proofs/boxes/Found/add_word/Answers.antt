use Rattle.std.proofs.Common.{sym, ◌∙◌, ap}
use Rattle.g1_text.specs.Marked.{is_marked}
use Rattle.g1_text.proofs.Boxing.{word_put}
use Rattle.g1_text.proofs.boxes.Found.add_word.Goals as goal

pub returns-in_ok-insert-clause-words : goal.returns-in_ok-insert-clause-words
returns-in_ok-insert-clause-words c =
    word_put c.args.self.now.words.keys c.insert.new.self.keys c.args.word
    (ap is_marked (sym c.as_bytes.ensures.value) ∙ sym c.has_mark.ensures ∙ c.if-has_mark.true) c.in_ok-insert.ensures.keys
