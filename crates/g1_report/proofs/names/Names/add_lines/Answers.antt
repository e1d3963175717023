use Rattle.std.proofs.Common.{◌==◌, ℕ, suc, List, length, drop, map, subst, arith}
use Rattle.std.specs.Borrow.{Bor}
use Rattle.std.proofs.lemmas.List.{length-map, length_push}
use Rattle.std.proofs.lemmas.List.Splits.{length-slice_split}
use Rattle.std.proofs.lemmas.List.Sums.{count_by-le-length}
use Rattle.std.proofs.lemmas.Iterator.Consumers.{YieldsList-at, YieldsList-so_far, YieldsList-turn, YieldsList-end}
use Rattle.std.proofs.lemmas.Iterator.Splits.{YieldsList-from_str_split}
use Rattle.g1_text.specs.Reading.{words_in, parts_of}
use Rattle.g1_report.specs.Program.{program_of, texts}
use Rattle.g1_report.specs.NamesText.{IsSaid, SaysNothing}
use Rattle.g1_report.proofs.NamesText.{next_said, same_labels}
use Rattle.g1_report.proofs.SaysNothing.{at_none, at_some, around_line}
use Rattle.g1_report.proofs.names.Names.add_lines.Goals as goal

pub loop-line-preserved : goal.loop-line-preserved
loop-line-preserved c =
    let text = c.args.text.now in
    let road = YieldsList-at c.into_iter-line-iterator.ensures.into_iter_gives (YieldsList-from_str_split 10 text (omega arith) c.split-line-items.ensures.text c.split-line-items.ensures.has_more c.split-line-items.ensures.pattern) in
    let turn = YieldsList-turn road c.loop-line.yielded _ c.loop-line.yielded_by _ _ c.in-Some.line c.in-Some.is c.next.ensures.steps in
    let many = length-slice_split (λ b. b == 10) text in
    let few = count_by-le-length (λ b. b == 10) text in
    let pushed = length_push c.loop-line.yielded c.in-Some.line in
    record {
      counted = omega (arith, turn.0, many, few, pushed, c.loop-line.invariant.counted, c.saturating_add-number.ensures);
      said = next_said c.loop-line.yielded c.in-Some.line (program_of c.args.self.now) (program_of c.loop-line.self) (program_of c.add_line.new.self) c.loop-line.invariant.said
          (at_none c.in_ok-expected.field-0 _ _ c.in_default.is c.in_ok-expected.ensures);
    }

pub returns-clause-says : goal.returns-clause-says
returns-clause-says c =
    let end = YieldsList-end (YieldsList-at c.into_iter-line-iterator.ensures.into_iter_gives (YieldsList-from_str_split 10 c.args.text.now (omega arith) c.split-line-items.ensures.text c.split-line-items.ensures.has_more c.split-line-items.ensures.pattern))
    c.loop-line.yielded _ c.loop-line.yielded_by _ _ c.in-None.is c.next.ensures.steps in
    subst (λ parts. IsSaid (program_of c.args.self.now).labels_before (map words_in parts) (program_of c.args.self.now) (program_of c.loop-line.self)) end.0 c.loop-line.invariant.said

pub returns-in-Some-2-clause-wrong : goal.returns-in-Some-2-clause-wrong
returns-in-Some-2-clause-wrong c =
    let text = c.args.text.now in
    let now : Bor (List ℕ) → List ℕ = λ b. b.now in
    let parts = parts_of text in
    let above = c.loop-line.yielded in
    let line = c.in-Some.line in
    let road = YieldsList-at c.into_iter-line-iterator.ensures.into_iter_gives (YieldsList-from_str_split 10 text (omega arith) c.split-line-items.ensures.text c.split-line-items.ensures.has_more c.split-line-items.ensures.pattern) in
    let turn = YieldsList-turn road above _ c.loop-line.yielded_by _ _ line c.in-Some.is c.next.ensures.steps in
    let many = length-slice_split (λ b. b == 10) text in
    let few = count_by-le-length (λ b. b == 10) text in
    let read = length-map above now in
    let wrong = at_some c.in_ok-expected.field-0 _ _ _ c.in-Some-2.is c.in_ok-expected.ensures in
    record {
      above = texts above;
      line = line.now;
      below = drop (suc (length above)) parts;
      parts = around_line parts (texts above) line.now (length above) (YieldsList-so_far road above _ c.loop-line.yielded_by) turn.1 turn.0;
      counted = omega (arith, turn.0, many, few, read, c.loop-line.invariant.counted, c.saturating_add-number.ensures);
      said = c.loop-line.invariant.said.said;
      says = c.loop-line.invariant.said.says;
      word = wrong.0;
      nothing = subst (λ l. SaysNothing l (words_in line.now)) (same_labels _ _ _ _ c.loop-line.invariant.said) wrong.1;
    }
