use Rattle.std.proofs.Common.{◌∙◌, sym, arith}
use Rattle.std.proofs.lemmas.Str.Pattern.{starts_char}
use Rattle.std.proofs.lemmas.Bool.{false≢true}
use Rattle.g1_text.proofs.Numbers.{read_digits}
use Rattle.g1_report.proofs.names.whole.Goals as goal
use Rattle.g1_words.proofs.Numerals.{unsigned}

pub returns-then-starts_with : goal.returns-then-starts_with
returns-then-starts_with c = λ h.
    let tests = starts_char 43 c.args.text.now c.starts_with.result c.starts_with.ensures.cases (omega arith) (omega arith) in
    unsigned c.args.text.now h.1.0 (tests.0 c.if-starts_with.true)

pub returns : goal.returns
returns c =
    let tests = starts_char 43 c.args.text.now c.starts_with.result c.starts_with.ensures.cases (omega arith) (omega arith) in
    read_digits c.args.text.now c.parse.result c.ok.result c.parse.ensures.value.0 (λ e. false≢true (sym c.if-starts_with.false ∙ tests.1 e)) c.ok.ensures.value
