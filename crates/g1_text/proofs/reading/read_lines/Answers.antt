use Rattle.std.proofs.Common.{◌≡◌, ◌≤◌, ◌+◌, length, append-nil, ap, subst, sym, ◌∙◌, refl, Some, IsUtf8, arith}
use Rattle.std.specs.Option.{is_some}
use Rattle.std.proofs.lemmas.List.Elements.{All-nil}
use Rattle.g1_text.specs.declared.expected.Refusal.TheVariants.{Memory}
use Rattle.g1_text.specs.Reading.{parts_of}
use Rattle.g1_text.specs.Forms.{ImageHeading, ImageLine}
use Rattle.g1_text.specs.Short.{TellsAll}
use Rattle.g1_text.specs.Drafts.{said, numbers_read}
use Rattle.g1_text.proofs.Turns.{ToRead, parts_left, size_left, split_off, less_left, turned, at_ok, at_err}
use Rattle.g1_text.proofs.Formed.{IsLeft, nothing_read, one_more}
use Rattle.g1_text.proofs.Refusing.{IsReadUpTo, none_read, one_read, first_wrong, first_wrong_line}
use Rattle.g1_text.proofs.Numbered.{AreNumbered, none_numbered, one_numbered, all_numbered}
use Rattle.g1_text.proofs.reading.read_lines.Goals as goal

pub returns-in-Err-clause-says : goal.returns-in-Err-clause-says
returns-in-Err-clause-says c = λ lines after has all.
    let left = c.in-Some.left.now in
    let behind = c.first_line.result.1 in
    let line = c.first_line.result.0.now in
    let reads = subst (λ r. ToRead (parts_left r) (said c.lines.draft) (Some after)) c.in-Some.is (c.lines.invariant.0 lines after has all) in
    c.at.ensures.memory (at_err (λ _. ToRead (parts_left behind) (said c.read_line.new.draft) (Some after)) (λ e. e ≡ Memory) c.in-Err.is
    (turned (parts_of left) (parts_left behind) line (split_off (parts_of left) line (length left) behind c.first_line.ensures) (said c.lines.draft) after reads
    (λ e. e ≡ Memory) (said c.read_line.new.draft) c.read_line.result c.read_line.ensures.says c.read_line.ensures.nothing))

pub lines-init : goal.lines-init
lines-init c = (
  (λ lines after has all. (has.utf8, subst (λ ls. TellsAll (said c.args.draft.now) ls (Some after)) (sym has.same) all)),
  nothing_read ImageHeading ImageLine (parts_of c.args.text.now) (is_some (said c.args.draft.now)),
  (λ none. subst (IsReadUpTo (parts_of c.args.text.now) (parts_of c.args.text.now) 0) (sym none) (none_read (parts_of c.args.text.now))),
  omega arith,
  (λ none. none_numbered (parts_of c.args.text.now) c.args.draft.now none),
)

pub lines-preserved : goal.lines-preserved
lines-preserved c =
    let text = parts_of c.args.text.now in
    let before = is_some (said c.args.draft.now) in
    let old = said c.lines.draft in
    let new = said c.read_line.new.draft in
    let left = c.in-Some.left.now in
    let behind = c.first_line.result.1 in
    let line = c.first_line.result.0.now in
    let is = split_off (parts_of left) line (length left) behind c.first_line.ensures in
    let read = c.in_default-read_line in
    let fewer : c.lines.number + (length left + 1) ≤ length c.args.text.now + 1 = subst (λ r. c.lines.number + size_left r ≤ length c.args.text.now + 1) c.in-Some.is c.lines.invariant.3 in
    let so_far = subst (λ r. IsLeft ImageHeading ImageLine text before (parts_left r) (is_some old)) c.in-Some.is c.lines.invariant.1 in (
      (λ lines after has all.
          let reads = subst (λ r. ToRead (parts_left r) old (Some after)) c.in-Some.is (c.lines.invariant.0 lines after has all) in
          at_ok (λ _. ToRead (parts_left behind) new (Some after)) (λ e. e ≡ Memory) read.is
          (turned (parts_of left) (parts_left behind) line is old after reads (λ e. e ≡ Memory) new c.read_line.result c.read_line.ensures.says c.read_line.ensures.nothing)),
      one_more ImageHeading ImageLine text (parts_of left) (parts_left behind) line is before (is_some old) (is_some new) so_far
          read.ensures.utf8 read.ensures.known (λ none. ap is_some (read.ensures.nothing read.ensures.utf8 none)),
      (λ first.
          one_read text (parts_of left) (parts_left behind) line is c.lines.number old new
          (subst (λ r. IsReadUpTo text (parts_left r) c.lines.number old) c.in-Some.is (c.lines.invariant.2 first))
          read.ensures.utf8 read.ensures.known (λ d some says. read.ensures.says d read.ensures.utf8 some says) (read.ensures.nothing read.ensures.utf8)
          c.saturating_add-number.result (omega (arith, c.saturating_add-number.ensures, fewer))),
      omega (arith, c.saturating_add-number.ensures, fewer, less_left (parts_of left) line (length left) behind c.first_line.ensures),
      (λ first.
          one_numbered text (parts_of left) (parts_left behind) line is c.lines.number c.saturating_add-number.result (omega (arith, c.saturating_add-number.ensures, fewer))
          (numbers_read c.lines.draft) (numbers_read c.read_line.new.draft)
          (subst (λ r. AreNumbered text (parts_left r) c.lines.number (numbers_read c.lines.draft)) c.in-Some.is (c.lines.invariant.4 first)) read.ensures.lines),
    )

pub returns-clause-known : goal.returns-clause-known
returns-clause-known c =
    let old = is_some (said c.lines.draft) in
    let left = subst (λ r. IsLeft ImageHeading ImageLine (parts_of c.args.text.now) (is_some (said c.args.draft.now)) (parts_left r) old) c.in_default.is c.lines.invariant.1 in
    (left.utf8 (All-nil IsUtf8), left.taken old refl)

pub returns-in-Err-clause-reports : goal.returns-in-Err-clause-reports
returns-in-Err-clause-reports c = λ first.
    let text = parts_of c.args.text.now in
    let left = c.in-Some.left.now in
    let behind = c.first_line.result.1 in
    let line = c.first_line.result.0.now in
    let is = split_off (parts_of left) line (length left) behind c.first_line.ensures in
    let fewer : c.lines.number + (length left + 1) ≤ length c.args.text.now + 1 = subst (λ r. c.lines.number + size_left r ≤ length c.args.text.now + 1) c.in-Some.is c.lines.invariant.3 in
    first_wrong c.args.text.now c.in-Err.refusal c.at.result c.saturating_add-number.result c.at.ensures.memory c.at.ensures.number
    (λ other.
    first_wrong_line text (parts_of left) (parts_left behind) line is c.lines.number (said c.lines.draft) (said c.read_line.new.draft)
    (subst (λ r. IsReadUpTo text (parts_left r) c.lines.number (said c.lines.draft)) c.in-Some.is (c.lines.invariant.2 first))
    c.read_line.result c.in-Err.refusal c.in-Err.is c.read_line.ensures.says c.read_line.ensures.nothing other c.saturating_add-number.result
    (omega (arith, c.saturating_add-number.ensures, fewer)) c.args.text.now refl)

pub returns-clause-count : goal.returns-clause-count
returns-clause-count c = λ first.
    let read = subst (λ r. IsReadUpTo (parts_of c.args.text.now) (parts_left r) c.lines.number (said c.lines.draft)) c.in_default.is (c.lines.invariant.2 first) in
    read.counted ∙ sym (ap length (read.parts ∙ append-nil read.above))

pub returns-clause-lines : goal.returns-clause-lines
returns-clause-lines c = λ first.
    let text = parts_of c.args.text.now in
    all_numbered text c.lines.number (numbers_read c.lines.draft)
    (subst (λ r. AreNumbered text (parts_left r) c.lines.number (numbers_read c.lines.draft)) c.in_default.is (c.lines.invariant.4 first))
