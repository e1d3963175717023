use Rattle.std.proofs.Common.{◌≡◌, map, sym, ◌∙◌, ap, subst}
use Rattle.std.specs.Prelude.{OnOk}
use Rattle.std.specs.Option.{is_some}
use Rattle.g1_text.specs.Reading.{words_in, says_something}
use Rattle.g1_text.specs.Forms.{ImageHeading, ImageLine}
use Rattle.g1_text.specs.Short.{Tells}
use Rattle.g1_text.specs.Drafts.{said, IsTaken}
use Rattle.g1_text.specs.Drafts.{numbers_read, with_line}
use Rattle.g1_text.proofs.reading.read_line.Goals as goal

pub returns-clause-says : goal.returns-clause-says
returns-clause-says c = λ after utf8 some says.
    let e = c.new.ensures ∙ ap (map (λ t. t.now)) c.as_slice.ensures.value ∙ c.in_ok-cut_words.ensures ∙ ap words_in c.in-Ok.ensures.cases.0 in
    c.read_words.ensures.says after (ap says_something e ∙ some) (subst (λ ws. Tells (said c.args.draft.now) ws after) (sym e) says)

pub returns-clause-nothing : goal.returns-clause-nothing
returns-clause-nothing c = λ utf8 none.
    let e = c.new.ensures ∙ ap (map (λ t. t.now)) c.as_slice.ensures.value ∙ c.in_ok-cut_words.ensures ∙ ap words_in c.in-Ok.ensures.cases.0 in
    c.read_words.ensures.nothing (ap says_something e ∙ none)

pub returns-clause-known : goal.returns-clause-known
returns-clause-known c = λ some.
    let e = c.new.ensures ∙ ap (map (λ t. t.now)) c.as_slice.ensures.value ∙ c.in_ok-cut_words.ensures ∙ ap words_in c.in-Ok.ensures.cases.0 in
    subst (λ ws. OnOk c.read_words.result (IsTaken ImageHeading ImageLine (is_some (said c.args.draft.now)) ws (is_some (said c.read_words.new.draft)))) e
    (c.read_words.ensures.known (ap says_something e ∙ some))

pub returns-clause-lines : goal.returns-clause-lines
returns-clause-lines c =
    let e = c.new.ensures ∙ ap (map (λ t. t.now)) c.as_slice.ensures.value ∙ c.in_ok-cut_words.ensures ∙ ap words_in c.in-Ok.ensures.cases.0 in
    subst (λ ws. OnOk c.read_words.result (numbers_read c.read_words.new.draft ≡ with_line (numbers_read c.args.draft.now) c.args.number ws)) e c.read_words.ensures.lines
