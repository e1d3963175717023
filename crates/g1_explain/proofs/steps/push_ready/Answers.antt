use Rattle.std.proofs.Common.{◌≡◌, ◌∙◌, List, length, filter, refl, ap, arith, string_bytes}
use Rattle.std.proofs.lemmas.Result.{on_ok_weaker}
use Rattle.g1_words.specs.declared.region.Region.{Region}
use Rattle.g1_words.specs.Heap.{is_free}
use Rattle.g1_image.specs.Image.{Image}
use Rattle.g1_explain.proofs.StepLines.{ready_end}
use Rattle.g1_explain.proofs.steps.push_ready.Goals as goal

pub returns : goal.returns
returns c = λ set pause rise.
    let i : Image = c.args.before.now in
    let same = ap length c.deref.ensures.value in
    let many : c.len.result ≡ length c.deref.result.now = omega (arith, c.len.ensures, same, c.in_ok-patches.patches.ok) in
    on_ok_weaker c.push_totals.result
    (ready_end i c.heap-heap.result.now c.args.plan.now c.args.prepared.now c.need.result c.free_count.result (length c.args.cards.now) (length c.args.cards.now) c.len.result c.deref.result.now
    (string_bytes c.args.text.now) (string_bytes c.push_room.new.text) (string_bytes c.push_moves.new.text) (string_bytes c.push_humongous_objects.new.text) (string_bytes c.push_table_changes.new.text) (string_bytes c.push_totals.new.text)
    (c.heap-heap.ensures.same ∙ ap (λ (j : Image). j.heap) c.image.ensures.same) (c.deref.ensures.value ∙ c.in_ok-patches.ensures) c.need.ensures
    (c.free_count.ensures ∙ ap (λ (l : List Region). length (filter (λ q. is_free q.kind) l)) c.regions.ensures) refl many
    c.in_ok-push_room.ensures c.in_ok-push_moves.ensures (c.in_ok-push_humongous_objects.ensures set pause) (c.in_ok-push_table_changes.ensures rise)) c.push_totals.ensures
