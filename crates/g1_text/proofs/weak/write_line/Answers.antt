use Rattle.std.proofs.Common.{◌≡◌, true, false, take, ◌++◌, sym, ◌∙◌, ap, subst}
use Rattle.std.specs.List.{list_any}
use Rattle.g1_text.specs.Reading.{words_in}
use Rattle.g1_text.specs.Weak.{IsStrong, is_weak}
use Rattle.g1_text.specs.Marking.{AreCut, texts, slots_of}
use Rattle.g1_text.proofs.WeakTexts.{line_same, line_plain}
use Rattle.g1_text.proofs.weak.write_line.Goals as goal

pub returns-then-not-has_weak : goal.returns-then-not-has_weak
returns-then-not-has_weak c = λ lines strong.
    let words : texts c.as_slice.result.now ≡ words_in c.args.line.now = ap texts c.as_slice.ensures.value ∙ c.in_ok-cut_words.ensures in
    let none : list_any is_weak (slots_of c.cut_slots.new.targets.items) ≡ false = ap (λ s. list_any is_weak (slots_of s)) (sym c.as_slice-2.ensures.value) ∙ sym c.has_weak.ensures ∙ c.if-not-has_weak.true in (
      c.args.line.now,
      line_same (IsStrong lines) c.args.line.now (texts c.as_slice.result.now) (slots_of c.cut_slots.new.targets.items) (texts c.in_ok-others.others.now) words c.in_ok-others.ensures none,
      c.in_ok-extend_from_slice.ensures.items ∙ ap (λ l. c.args.out.now.items ++ l) c.as_bytes.ensures.value,
    )

pub returns : goal.returns
returns c = λ lines strong.
    let words : texts c.as_slice.result.now ≡ words_in c.args.line.now = ap texts c.as_slice.ensures.value ∙ c.in_ok-cut_words.ensures in
    let slots = slots_of c.as_slice-4.result.now in
    let cut = subst (λ s. AreCut (texts c.as_slice.result.now) (slots_of s) (texts c.in_ok-others.others.now)) (sym c.as_slice-4.ensures.value) c.in_ok-others.ensures in
    let some : list_any is_weak slots ≡ true = ap (λ s. list_any is_weak (slots_of s)) (c.as_slice-4.ensures.value ∙ sym c.as_slice-2.ensures.value) ∙ sym c.has_weak.ensures ∙ c.if-not-has_weak.false in
    let head : texts c.split_head.result.0.now ≡ take 3 (texts c.as_slice.result.now) = c.split_head.ensures.head ∙ ap (λ ws. take 3 (texts ws)) (c.as_slice-3.ensures.value ∙ sym c.as_slice.ensures.value) in
    line_plain (IsStrong lines) c.args.line.now (texts c.as_slice.result.now) slots (texts c.in_ok-others.others.now) (texts c.split_head.result.0.now) (texts c.in-Some.head.now) c.in-Some.first.now.now
    c.args.out.now.items c.extend_from_slice-2.new.self.items c.push_words.new.out.items c.push_targets.new.out.items c.push_words-2.new.out.items words cut some head (ap texts c.in-Some.ensures.cases.0)
    (c.in_ok-extend_from_slice-2.ensures.items ∙ ap (λ l. c.args.out.now.items ++ l) c.as_bytes-2.ensures.value) c.in_ok-push_words.ensures (c.in_ok-push_targets.ensures lines strong) c.in_ok-push_words-2.ensures
