use Rattle.std.proofs.Common.{◌++◌, ap, ◌∙◌}
use Rattle.g1_image.specs.Text.{file_text}
use Rattle.g1_image.specs.Parts.{file_of_parts}
use Rattle.g1_image.proofs.file_parts.encode_parts.Goals as goal

pub returns : goal.returns
returns c = λ fit.
    let words = c.args.words.now in
    c.in_ok-push_words.ensures ∙ c.in_ok-push_parts.ensures words fit ∙ ap (λ l. l ++ file_text (file_of_parts c.args.parts.now words)) c.new-out.ensures.items
