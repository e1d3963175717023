use Rattle.std.proofs.Common.{◌≡◌, ◌++◌, ◌∙◌}
use Rattle.g1_image.specs.Text.{heading_text, words_text, remembered_texts, file_text}
use Rattle.g1_image.specs.Parts.{file_of_parts}
use Rattle.g1_image.proofs.Written.{file_written, on_ok}
use Rattle.g1_image.proofs.file_parts.push_parts.Goals as goal

pub returns : goal.returns
returns c = λ words fit.
    let f = file_of_parts c.args.parts.now words in
    let old = c.args.out.now.items in
    let before = c.push_numbers.new.out.items in
    let new = c.push_remembered.new.out.items in
    on_ok c.push_remembered.result (new ≡ before ++ remembered_texts f.remembered) (new ++ words_text words ≡ old ++ file_text f)
    (file_written f old c.push_magic.new.out.items c.push_heading.new.out.items c.push_table.new.out.items c.push_words.new.out.items before new
    c.in_ok-push_magic.ensures
    (c.in_ok-push_heading.ensures ∙ (λ t. c.push_magic.new.out.items ++ heading_text (c.heading_of.ensures words fit t)))
    c.in_ok-push_table.ensures
    c.in_ok-push_words.ensures
    c.in_ok-push_numbers.ensures)
    (c.push_remembered.ensures fit.remembered)
