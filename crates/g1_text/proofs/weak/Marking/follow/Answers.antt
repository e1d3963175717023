use Rattle.std.proofs.Common.{◌≡◌, sym, ◌∙◌, ap, subst}
use Rattle.g1_text.specs.Weak.{AreSlotsOf}
use Rattle.g1_text.specs.Marking.{texts, slots_of, has_name, kept_line, line_words}
use Rattle.g1_text.proofs.WeakLines.{line_followed}
use Rattle.g1_text.proofs.weak.Marking.follow.Goals as goal

pub lines-preserved : goal.lines-preserved
lines-preserved c =
    let line = c.in-Some.line in
    let cut = c.in_ok-cut_slots.ensures in
    let words : texts c.as_slice.result.now ≡ line_words line = ap texts c.as_slice.ensures.value ∙ c.in_ok-cut_words.ensures in
    let are : AreSlotsOf (line_words line) (slots_of c.as_slice-in-Some.result.now) =
    subst (λ s. AreSlotsOf (line_words line) (slots_of s)) (sym c.as_slice-in-Some.ensures.value)
    (subst (λ ws. AreSlotsOf ws (slots_of c.cut_slots.new.targets.items)) words (cut.0, cut.1, cut.2)) in
    record {
      found = λ lines h. line_followed lines (has_name c.lines.self.strong) (has_name c.mark_targets.new.self.strong) (kept_line c.lines.self.objects) (kept_line c.mark_targets.new.self.objects)
          c.lines.self.unread.items c.pop.new.self.items c.mark_targets.new.self.unread.items line (slots_of c.as_slice-in-Some.result.now) c.in-Some.ensures.items are
          (c.in_ok-mark_targets.ensures.found lines) c.in_ok-mark_targets.ensures.marked (c.lines.invariant.found lines h);
      stay = λ name t. c.in_ok-mark_targets.ensures.stay name (c.lines.invariant.stay name t);
    }
