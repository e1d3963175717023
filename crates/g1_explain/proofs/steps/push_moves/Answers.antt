use Rattle.std.proofs.Common.{string_bytes}
use Rattle.std.proofs.lemmas.Result.{on_ok_weaker}
use Rattle.g1_explain.proofs.StepLines.{moving_end}
use Rattle.g1_explain.proofs.steps.push_moves.Goals as goal

pub returns : goal.returns
returns c =
    on_ok_weaker c.push_patches.result
    (moving_end c.args.heap.now c.args.plan.now c.args.prepared.now c.args.patches.now c.survivors.result.now c.places.result.now c.roots.result.now c.roots-2.result.now (string_bytes c.args.text.now)
    (string_bytes c.push_places.new.text) (string_bytes c.push_roots.new.text) (string_bytes c.push_patches.new.text) c.survivors.ensures c.places.ensures c.roots.ensures c.roots-2.ensures c.in_ok-push_places.ensures
    c.in_ok-push_roots.ensures) c.push_patches.ensures
