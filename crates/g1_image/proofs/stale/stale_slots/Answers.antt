use Rattle.std.proofs.Common.{◌≡◌, ◌<◌, ◌*◌, ◌+◌, ◌^◌, false, true, length, slice_index, arith, sym, ap, subst, ◌∙◌}
use Rattle.g1_image.specs.Marks.{StartsAt}
use Rattle.g1_image.proofs.StaleSlots.{IsSeen, seen_none, seen_put, seen_object, seen_nothing, seen_all}
use Rattle.g1_image.proofs.stale.stale_slots.Goals as goal
use Rattle.g1_image.proofs.stale.stale_slots.Goals.{then-at-slots_end+in_ok-put_stale, else-at-slots_end+then-is_set, else-at-slots_end+else-is_set}

pub loop-at-init : goal.loop-at-init
loop-at-init c = subst (IsSeen c.args.draft.now 0 0) (sym c.new-found.ensures.items) (seen_none c.args.draft.now)

pub loop-at-preserved : goal.loop-at-preserved
loop-at-preserved c =
    let h = c.args.draft.now in
    let at = c.loop-at.at in
    let found = c.loop-at.found.items in
    let last = c.loop-at.slots_end in
    let seen = c.loop-at.invariant in
    let same = c.words-words.ensures.same in
    let some : 0 < h.geometry.w = omega (arith, c.words-words.ensures.draft.limits.w_least) in
    elim c.if-at-slots_end.branch [
      | then-at-slots_end+in_ok-put_stale w ↦
          rw (w.found-is, w.slots_end-is) (seen_put h at last found some c.requires.shaped seen w.if-at-slots_end.true w.at.result w.put_stale.new.found.items
          (sym (w.at.ensures ∙ ap (λ l. slice_index l at) same)) w.in_ok-put_stale.ensures)
      | else-at-slots_end+then-is_set w ↦
          let q = w.header.result in
          let start : StartsAt h at = c.requires.starts.each.sound at (sym w.is_set.ensures ∙ w.if-is_set.true) in
          let word : slice_index h.words at ≡ q.size * 2 ^ 32 + q.refs = ap (λ ws. slice_index ws at) (sym same) ∙ w.header.ensures.word in
          rw (w.found-is, w.slots_end-is) (seen_object h at last found some c.requires.shaped seen w.if-at-slots_end.false start q word w.header.ensures.refs w.header.ensures.size)
      | else-at-slots_end+else-is_set w ↦
          let none : StartsAt h at → ⊥ = λ s. let e : false ≡ true = sym w.if-is_set.false ∙ w.is_set.ensures ∙ c.requires.starts.each.whole at s in cc in
          rw (w.found-is, w.slots_end-is) (seen_nothing h at last found some c.requires.shaped seen w.if-at-slots_end.false none)
    ]

pub returns : goal.returns
returns c =
    let h = c.args.draft.now in
    seen_all h c.loop-at.at c.loop-at.slots_end c.loop-at.found.items c.requires.shaped (omega (arith, c.loop-at-test.false, c.len-at-end.ensures, ap length c.words-words.ensures.same, c.words-words.ensures.draft.word_count)) c.loop-at.invariant
