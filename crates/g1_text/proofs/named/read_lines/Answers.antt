use Rattle.std.proofs.Common.{◌≡◌, ◌+◌, ◌≤◌, false, length, refl, sym, ap, subst, arith}
use Rattle.std.specs.Prelude.{not, ◌==◌}
use Rattle.g1_text.specs.Reading.{parts_of}
use Rattle.g1_text.specs.Forms.{GraphHeading, GraphLine}
use Rattle.g1_text.specs.Drafts.{is_begun}
use Rattle.g1_text.proofs.Turns.{parts_left, size_left, split_off, less_left}
use Rattle.g1_text.proofs.Formed.{IsLeft, one_more, nothing_read}
use Rattle.g1_text.proofs.NamedLines.{IsNamedUpTo, none_read, all_said, all_fit}
use Rattle.g1_text.proofs.NamedLines.{one_more as one_said}
use Rattle.g1_text.proofs.Overfull.{unread, overfull_now, none_overfull}
use Rattle.g1_text.proofs.named.read_lines.Goals as goal

pub lines-init : goal.lines-init
lines-init c =
    let text = parts_of c.args.text.now in
    let empty = c.in_ok-lines.ensures in
    record { forms = subst (IsLeft GraphHeading GraphLine text false text) (sym (ap (λ n. not (n == 0)) empty.0)) (nothing_read GraphHeading GraphLine text false); says = none_read text c.in_ok-lines.lines empty; count = omega arith }

pub lines-preserved : goal.lines-preserved
lines-preserved c =
    let text = c.args.text.now in
    let left = c.in-Some.left.now in
    let behind = c.first_line.result.1 in
    let line = c.first_line.result.0.now in
    let is : parts_of left ≡ _ = split_off (parts_of left) line (length left) behind c.first_line.ensures in
    let so_far = subst (λ r. IsLeft GraphHeading GraphLine (parts_of text) false (parts_left r) (is_begun c.lines.lines)) c.in-Some.is c.lines.invariant.forms in
    let said = subst (λ r. IsNamedUpTo (parts_of text) (parts_left r) c.lines.number c.lines.lines) c.in-Some.is c.lines.invariant.says in
    let fewer : c.lines.number + (length left + 1) ≤ length text + 1 = subst (λ r. c.lines.number + size_left r ≤ length text + 1) c.in-Some.is c.lines.invariant.count in
    let next : c.saturating_add-number.result ≡ c.lines.number + 1 = omega (arith, c.saturating_add-number.ensures, fewer) in
    record {
      forms = one_more GraphHeading GraphLine (parts_of text) (parts_of left) (parts_left behind) line is
          false (is_begun c.lines.lines) (is_begun c.read.new.self) so_far c.in_default-read.ensures.utf8
          (λ some. c.in_default-read.ensures.known (omega (arith, c.saturating_add-number.ensures)) some) c.in_default-read.ensures.nothing;
      says = one_said (parts_of text) (parts_of left) (parts_left behind) line is c.lines.number c.lines.lines c.read.new.self said
          (λ g. c.in_default-read.ensures.says g (omega (arith, c.saturating_add-number.ensures))) c.in_default-read.ensures.kept
          c.saturating_add-number.result next c.in_default-check_words.ensures;
      count = omega (arith, next, fewer, less_left (parts_of left) line (length left) behind c.first_line.ensures);
    }

pub returns-in-Err-clause-overfull : goal.returns-in-Err-clause-overfull
returns-in-Err-clause-overfull c = λ number words most over.
    let text = c.args.text.now in
    let left = c.in-Some.left.now in
    let said = subst (λ r. IsNamedUpTo (parts_of text) (parts_left r) c.lines.number c.lines.lines) c.in-Some.is c.lines.invariant.says in
    let fewer : c.lines.number + (length left + 1) ≤ length text + 1 = subst (λ r. c.lines.number + size_left r ≤ length text + 1) c.in-Some.is c.lines.invariant.count in
    unread text number words most over said.above (parts_of left) said.now c.saturating_add-number.result c.in-Err.refusal c.at.result said.whole said.says said.fits
    (omega (arith, c.saturating_add-number.ensures, fewer, said.counted)) c.in-Err.ensures.other c.at.ensures.memory c.at.ensures.number

pub returns-clause-says : goal.returns-clause-says
returns-clause-says c =
    let text = parts_of c.args.text.now in
    all_said c.args.text.now c.lines.number c.lines.lines (subst (λ r. IsNamedUpTo text (parts_left r) c.lines.number c.lines.lines) c.in_default.is c.lines.invariant.says)

pub returns-clause-fits : goal.returns-clause-fits
returns-clause-fits c =
    let text = parts_of c.args.text.now in
    all_fit c.args.text.now c.lines.number c.lines.lines (subst (λ r. IsNamedUpTo text (parts_left r) c.lines.number c.lines.lines) c.in_default.is c.lines.invariant.says)

pub returns-clause-overfull : goal.returns-clause-overfull
returns-clause-overfull c = λ number words most over.
    let text = parts_of c.args.text.now in
    let fit = all_fit c.args.text.now c.lines.number c.lines.lines (subst (λ r. IsNamedUpTo text (parts_left r) c.lines.number c.lines.lines) c.in_default.is c.lines.invariant.says) in
    none_overfull c.args.text.now fit.0 fit.1 fit.2 number words most over

pub returns-in-Err-check_words-clause-overfull : goal.returns-in-Err-check_words-clause-overfull
returns-in-Err-check_words-clause-overfull c = λ number words most over.
    let text = c.args.text.now in
    let left = c.in-Some.left.now in
    let behind = c.first_line.result.1 in
    let line = c.first_line.result.0.now in
    let is : parts_of left ≡ _ = split_off (parts_of left) line (length left) behind c.first_line.ensures in
    let said = subst (λ r. IsNamedUpTo (parts_of text) (parts_left r) c.lines.number c.lines.lines) c.in-Some.is c.lines.invariant.says in
    let fewer : c.lines.number + (length left + 1) ≤ length text + 1 = subst (λ r. c.lines.number + size_left r ≤ length text + 1) c.in-Some.is c.lines.invariant.count in
    overfull_now text (parts_of left) (parts_left behind) line is c.lines.number c.lines.lines c.read.new.self said
    (λ g. c.in_default-read.ensures.says g (omega (arith, c.saturating_add-number.ensures))) c.in_default-read.ensures.kept
    c.in-Err-check_words.expected c.in-Err-check_words.ensures number words most over c.saturating_add-number.result c.at-in-Err-check_words.result
    (omega (arith, c.saturating_add-number.ensures, fewer)) (c.at-in-Err-check_words.ensures.number _ refl)
