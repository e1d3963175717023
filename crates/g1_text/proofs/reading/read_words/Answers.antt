use Rattle.std.proofs.Common.{◌≡◌, sym, ◌∙◌, ap, subst, refl, arith}
use Rattle.std.specs.Prelude.{OnOk}
use Rattle.std.proofs.lemmas.Bool.{false≢true}
use Rattle.std.proofs.lemmas.Str.Pattern.{starts_char}
use Rattle.std.specs.Option.{is_some}
use Rattle.g1_text.specs.Reading.{says_something}
use Rattle.g1_text.specs.Forms.{ImageHeading, ImageLine}
use Rattle.g1_text.specs.Short.{Tells}
use Rattle.g1_text.specs.Drafts.{said, IsTaken}
use Rattle.g1_text.proofs.Comments.{comment, statement}
use Rattle.g1_text.specs.Drafts.{numbers_read, with_line}
use Rattle.g1_text.proofs.Numbered.{unsaid}
use Rattle.g1_text.proofs.reading.read_words.Goals as goal

pub returns-in_default-clause-says : goal.returns-in_default-clause-says
returns-in_default-clause-says c = λ after some says. absurd (false≢true (sym (ap says_something c.in_default.ensures.0) ∙ some))

pub returns-in_default-clause-nothing : goal.returns-in_default-clause-nothing
returns-in_default-clause-nothing c = λ none. refl

pub returns-then-starts_with-clause-says : goal.returns-then-starts_with-clause-says
returns-then-starts_with-clause-says c = λ after some says.
    let tests = starts_char 35 c.in-Some.first.now c.starts_with.result c.starts_with.ensures.cases (omega arith) (omega arith) in
    absurd (false≢true (sym (comment c.args.words c.next.new.self c.in-Some.first.now c.starts_with.result c.in-Some.ensures tests c.if-starts_with.true) ∙ some))

pub returns-then-starts_with-clause-nothing : goal.returns-then-starts_with-clause-nothing
returns-then-starts_with-clause-nothing c = λ none. refl

pub returns-clause-says : goal.returns-clause-says
returns-clause-says c = λ after some says. c.begin_or_add.ensures.says after (subst (λ ws. Tells (said c.args.draft.now) ws after) c.in-Some.ensures says)

pub returns-clause-nothing : goal.returns-clause-nothing
returns-clause-nothing c = λ none.
    let tests = starts_char 35 c.in-Some.first.now c.starts_with.result c.starts_with.ensures.cases (omega arith) (omega arith) in
    absurd (false≢true (sym none ∙ statement c.args.words c.next.new.self c.in-Some.first.now c.starts_with.result c.in-Some.ensures tests c.if-starts_with.false))

pub returns-in_default-clause-known : goal.returns-in_default-clause-known
returns-in_default-clause-known c = λ some. absurd (false≢true (sym (ap says_something c.in_default.ensures.0) ∙ some))

pub returns-then-starts_with-clause-known : goal.returns-then-starts_with-clause-known
returns-then-starts_with-clause-known c = λ some.
    let tests = starts_char 35 c.in-Some.first.now c.starts_with.result c.starts_with.ensures.cases (omega arith) (omega arith) in
    absurd (false≢true (sym (comment c.args.words c.next.new.self c.in-Some.first.now c.starts_with.result c.in-Some.ensures tests c.if-starts_with.true) ∙ some))

pub returns-clause-known : goal.returns-clause-known
returns-clause-known c = λ some.
    subst (λ ws. OnOk c.begin_or_add.result (IsTaken ImageHeading ImageLine (is_some (said c.args.draft.now)) ws (is_some (said c.begin_or_add.new.draft))))
    (sym c.in-Some.ensures) c.begin_or_add.ensures.known

pub returns-in_default-clause-lines : goal.returns-in_default-clause-lines
returns-in_default-clause-lines c = sym (unsaid (numbers_read c.args.draft.now) c.args.number c.args.words (ap says_something c.in_default.ensures.0))

pub returns-then-starts_with-clause-lines : goal.returns-then-starts_with-clause-lines
returns-then-starts_with-clause-lines c =
    let tests = starts_char 35 c.in-Some.first.now c.starts_with.result c.starts_with.ensures.cases (omega arith) (omega arith) in
    sym (unsaid (numbers_read c.args.draft.now) c.args.number c.args.words (comment c.args.words c.next.new.self c.in-Some.first.now c.starts_with.result c.in-Some.ensures tests c.if-starts_with.true))

pub returns-clause-lines : goal.returns-clause-lines
returns-clause-lines c = subst (λ ws. OnOk c.begin_or_add.result (numbers_read c.begin_or_add.new.draft ≡ with_line (numbers_read c.args.draft.now) c.args.number ws)) (sym c.in-Some.ensures) c.begin_or_add.ensures.lines
