use Rattle.std.proofs.Common.{◌∙◌, [], ◌∷◌, None, get_or, sym, ap, subst, arith}
use Rattle.std.specs.Borrow.{Bor}
use Rattle.std.specs.Prelude.{codes}
use Rattle.clap.specs.Words.{Text, found_of, rows_of}
use Rattle.g1_command.specs.Values.{texts_of}
use Rattle.g1heap_request.specs.Asks.{IsBesideNone, IsImageAfter}
use Rattle.g1heap_request.specs.Wrong.HasWrongValue.{beside_replies}
use Rattle.std.proofs.lemmas.Result.{err_from_is_err_and}
use Rattle.g1_command.proofs.Got.{because_so}
use Rattle.g1heap_request.proofs.Got.{image_got, no_image_got, no_texts, not_two, some_texts, two_texts}
use Rattle.g1heap_request.proofs.Checked.{both_are, one_is, other_file, that_file}
use Rattle.g1heap_request.proofs.Reasons.{no_number_after, zero_after}
use Rattle.g1heap_request.proofs.options.image_after_of.Goals as goal
use Rattle.g1_command.proofs.Reasons.{because_of}

pub returns-in_default-clause-image : goal.returns-in_default-clause-image
returns-in_default-clause-image c =
    subst (λ ts. IsImageAfter ts None) (no_texts (found_of c.args.values.now) (codes "image") c.get_strs.result c.get_strs.ensures c.in_default.is) tt

-- what a place past the last value would hold
abbrev past : Bor Text
past = record { ref_ptr = (0, 0); now = [] }

pub returns-then-words-ne2-clause-image : goal.returns-then-words-ne2-clause-image
returns-then-words-ne2-clause-image c =
    let words = c.in-Some.words in
    no_image_got (texts_of (rows_of (found_of c.args.values.now)) (codes "image")) words.now
    (some_texts (found_of c.args.values.now) (codes "image") c.get_strs.result c.get_strs.ensures words c.in-Some.is) (λ e. omega (arith, e, c.if-words-ne2.true))

pub returns-in_ok-of_name-in_default-2-clause-image : goal.returns-in_ok-of_name-in_default-2-clause-image
returns-in_ok-of_name-in_default-2-clause-image c =
    let words = c.in-Some.words in
    let output = c.in_ok-of_name-in_default-2 in
    image_got (texts_of (rows_of (found_of c.args.values.now)) (codes "image")) words.now past past
    (some_texts (found_of c.args.values.now) (codes "image") c.get_strs.result c.get_strs.ensures words c.in-Some.is) (omega (arith, c.if-words-ne2.false))
    (record { command = c.in_ok-command.command; output = output.field-0 }) (c.in_ok-command.ensures.number, λ e. omega (arith, e)) output.ensures

pub returns-in_default-clause-apart : goal.returns-in_default-clause-apart
returns-in_default-clause-apart c =
    let found = found_of c.args.values.now in
    subst (IsBesideNone (rows_of found)) (no_texts found (codes "image") c.get_strs.result c.get_strs.ensures c.in_default.is) tt

pub returns-then-words-ne2-clause-apart : goal.returns-then-words-ne2-clause-apart
returns-then-words-ne2-clause-apart c =
    let found = found_of c.args.values.now in
    let words = c.in-Some.words in
    not_two (rows_of found) (texts_of (rows_of found) (codes "image")) words.now (some_texts found (codes "image") c.get_strs.result c.get_strs.ensures words c.in-Some.is) (λ e. omega (arith, e, c.if-words-ne2.true))

pub returns-in_ok-of_name-in_default-2-clause-apart : goal.returns-in_ok-of_name-in_default-2-clause-apart
returns-in_ok-of_name-in_default-2-clause-apart c =
    let found = found_of c.args.values.now in
    let words = c.in-Some.words in
    let file = (get_or words.now 1 past).now in
    let two = two_texts (texts_of (rows_of found) (codes "image")) words.now past past
    (some_texts found (codes "image") c.get_strs.result c.get_strs.ensures words c.in-Some.is) (omega (arith, c.if-words-ne2.false)) in
    subst (IsBesideNone (rows_of found)) (sym two)
    (one_is c.eq.result c.flag.result (other_file file c.eq.result c.eq.ensures) (λ e. e) c.flag.ensures.off c.flag.ensures.on c.in_ok-refuse_if.ensures.right)

pub returns-in_err-refuse_if-clause-refused : goal.returns-in_err-refuse_if-clause-refused
returns-in_err-refuse_if-clause-refused c =
    let found = found_of c.args.values.now in
    let words = c.in-Some.words in
    let number = (get_or words.now 0 past).now in
    let file = (get_or words.now 1 past).now in
    let two = two_texts (texts_of (rows_of found) (codes "image")) words.now past past
    (some_texts found (codes "image") c.get_strs.result c.get_strs.ensures words c.in-Some.is) (omega (arith, c.if-words-ne2.false)) in
    let p = err_from_is_err_and c.from_residual.result c.from_residual.ensures.1 in
    rw (p.1, p.2) (because_so
    (λ k. let are = both_are c.eq.result c.flag.result (λ e. e) (that_file file c.eq.result c.eq.ensures) c.flag.ensures.off c.flag.ensures.on k in
    beside_replies number (two ∙ ap (λ f. number ∷ f ∷ []) are.0) are.1)
    c.in_err-refuse_if.field-0.0 c.in_err-refuse_if.ensures.refused)

pub returns-in_err-command-clause-refused : goal.returns-in_err-command-clause-refused
returns-in_err-command-clause-refused c =
    let found = found_of c.args.values.now in
    let words = c.in-Some.words in
    let two = two_texts (texts_of (rows_of found) (codes "image")) words.now past past
    (some_texts found (codes "image") c.get_strs.result c.get_strs.ensures words c.in-Some.is) (omega (arith, c.if-words-ne2.false)) in
    let p = err_from_is_err_and c.from_residual-in_err-command.result c.from_residual-in_err-command.ensures.1 in
    rw (p.1, p.2) (because_so (no_number_after (rows_of found) (get_or words.now 0 past).now (get_or words.now 1 past).now two) c.in_err-command.field-0.0 c.in_err-command.ensures.refused)

pub returns-in_ok-refuse-in-0-clause-refused : goal.returns-in_ok-refuse-in-0-clause-refused
returns-in_ok-refuse-in-0-clause-refused c =
    let found = found_of c.args.values.now in
    let words = c.in-Some.words in
    let two = two_texts (texts_of (rows_of found) (codes "image")) words.now past past
    (some_texts found (codes "image") c.get_strs.result c.get_strs.ensures words c.in-Some.is) (omega (arith, c.if-words-ne2.false)) in
    let command = c.in_ok-command in
    because_of (zero_after (rows_of found) (get_or words.now 0 past).now (get_or words.now 1 past).now two command.command c.in-0.is command.ensures.number) c.in_ok-refuse-in-0.field-0
