use Rattle.std.proofs.Common.{AllPairs, sym, subst}
use Rattle.g1_image.specs.Stale.{HasLowerPlace}
use Rattle.g1judge.specs.Judged.{JudgesAfter}
use Rattle.g1judge.proofs.Texts.{other_judged, hidden_judged, stale_judged_by}
use Rattle.g1judge.proofs.judging.judge_stale.Goals as goal

pub judge_stale_words-requires : goal.judge_stale_words-requires
judge_stale_words-requires c = record {
  roots = subst (AllPairs HasLowerPlace) (sym c.as_slice.ensures.value) c.in-Ok.ensures.ok.stale_roots.rising;
  slots = subst (AllPairs HasLowerPlace) (sym c.as_slice-in-Ok.ensures.value) c.in-Ok.ensures.ok.stale_slots.rising;
}

pub returns-in-Some : goal.returns-in-Some
returns-in-Some c =
    let text = c.in-Ok.ensures.ok in
    stale_judged_by c.args.before.now c.in-Ok.new c.args.after.now c.args.place c.in-Ok.stale.roots.items c.in-Ok.stale.slots.items _ _ _ _ c.in-Some.verdict
    c.requires text c.in-Ok.ensures.image c.heap.ensures.same c.heap-in-Ok.ensures.same c.as_slice.ensures.value c.as_slice-in-Ok.ensures.value c.in-Some.ensures.some

pub returns-in-Ok : goal.returns-in-Ok
returns-in-Ok c =
    let text = c.in-Ok.ensures.ok in
    subst (JudgesAfter c.args.before.now c.args.after.now) (sym c.refused.ensures)
    (hidden_judged c.args.before.now c.in-Ok.new c.args.after.now c.args.place c.in-Ok.stale.roots.items c.in-Ok.stale.slots.items _ _ _ _
    c.requires text c.heap.ensures.same c.heap-in-Ok.ensures.same c.as_slice.ensures.value c.as_slice-in-Ok.ensures.value c.in-None.ensures.none)

pub returns : goal.returns
returns c =
    subst (JudgesAfter c.args.before.now c.args.after.now) (sym c.refused-in-Err.ensures)
    (other_judged c.args.before.now c.args.after.now c.args.place c.in-Err.fault c.requires c.in_default.not-Memory c.in-Err.ensures.err)
