use Rattle.std.proofs.Common.{◌≡◌, ◌↔◌, length, Decides, sym, ◌∙◌, ap, subst, arith}
use Rattle.std.specs.Prelude.{codes}
use Rattle.std.specs.Str.Iter.{split_ascii_whitespace_steps, split_ascii_whitespace_text}
use Rattle.std.proofs.lemmas.Str.Pattern.{starts_char}
use Rattle.std.proofs.lemmas.Slice.Eq.{bytes_eq-Decides}
use Rattle.g1_text.specs.Reading.{words_in, parts_of, AreGraphLines}
use Rattle.g1_text.proofs.Turns.{parts_left, split_off}
use Rattle.g1_text.proofs.White.{next_word, no_word}
use Rattle.g1_text.proofs.Comments.{comment, statement}
use Rattle.g1_text.proofs.GraphLines.{says_nothing, passed_over, decided}
use Rattle.g1_text.proofs.named.is_graph.Goals as goal

pub returns-in-Some-next : goal.returns-in-Some-next
returns-in-Some-next c =
    let text = parts_of c.args.text.now in
    let left = c.in-Some.left.now in
    let behind = c.first_line.result.1 in
    let line = c.first_line.result.0.now in
    let first = c.in-Some-next.first in
    let rest = words_in (split_ascii_whitespace_text c.next.new.self) in
    let is = split_off (parts_of left) line (length left) behind c.first_line.ensures in
    let so_far = subst (λ r. AreGraphLines (parts_left r) ↔ AreGraphLines text) c.in-Some.is c.lines.invariant in
    let begins = ap words_in (sym c.in-Ok.ensures.cases.0 ∙ sym c.split_ascii_whitespace.ensures.text)
    ∙ next_word c.split_ascii_whitespace.result first c.next.new.self c.in-Some-next.ensures.steps in
    let tests = starts_char 35 first.now c.starts_with.result c.starts_with.ensures.cases (omega arith) (omega arith) in
    decided text (parts_of left) (parts_left behind) line is so_far c.in-Ok.ensures.cases.1 c.eq.result first.now rest begins
    (statement (words_in line) rest first.now c.starts_with.result begins tests c.if-not-starts_with.true)
    (subst (λ r. Decides r (first.now ≡ codes "graph")) (sym c.eq.ensures) (bytes_eq-Decides first.now (codes "graph")))

pub lines-preserved-in_default-next : goal.lines-preserved-in_default-next
lines-preserved-in_default-next c =
    let text = parts_of c.args.text.now in
    let left = c.in-Some.left.now in
    let behind = c.first_line.result.1 in
    let line = c.first_line.result.0.now in
    let first = c.in-Some-next.first in
    let rest = words_in (split_ascii_whitespace_text c.next.new.self) in
    let is = split_off (parts_of left) line (length left) behind c.first_line.ensures in
    let so_far = subst (λ r. AreGraphLines (parts_left r) ↔ AreGraphLines text) c.in-Some.is c.lines.invariant in
    let begins = ap words_in (sym c.in-Ok.ensures.cases.0 ∙ sym c.split_ascii_whitespace.ensures.text)
    ∙ next_word c.split_ascii_whitespace.result first c.next.new.self c.in-Some-next.ensures.steps in
    let tests = starts_char 35 first.now c.starts_with.result c.starts_with.ensures.cases (omega arith) (omega arith) in
    passed_over text (parts_of left) (parts_left behind) line is so_far c.in-Ok.ensures.cases.1
    (comment (words_in line) rest first.now c.starts_with.result begins tests c.if-not-starts_with.false)

pub lines-preserved : goal.lines-preserved
lines-preserved c =
    let text = parts_of c.args.text.now in
    let left = c.in-Some.left.now in
    let behind = c.first_line.result.1 in
    let line = c.first_line.result.0.now in
    let is = split_off (parts_of left) line (length left) behind c.first_line.ensures in
    let so_far = subst (λ r. AreGraphLines (parts_left r) ↔ AreGraphLines text) c.in-Some.is c.lines.invariant in
    let steps = subst (λ r. split_ascii_whitespace_steps c.split_ascii_whitespace.result r c.next.new.self) c.in_default-next.is c.next.ensures.steps in
    passed_over text (parts_of left) (parts_left behind) line is so_far c.in-Ok.ensures.cases.1
    (says_nothing (words_in line) (ap (λ t. length (words_in t)) (sym c.in-Ok.ensures.cases.0 ∙ sym c.split_ascii_whitespace.ensures.text)
    ∙ no_word c.split_ascii_whitespace.result c.next.new.self steps))
