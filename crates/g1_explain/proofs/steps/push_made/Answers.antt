use Rattle.std.proofs.Common.{◌≡◌, length, refl, sym, ap, subst, string_bytes}
use Rattle.g1_words.specs.Survivors.{Survivors}
use Rattle.g1_image.specs.Image.{Image}
use Rattle.g1_pause.specs.declared.steps.Outcome.TheVariants.{Ready}
use Rattle.g1_explain.proofs.StepLines.{search_there, made_end, made_rise}
use Rattle.g1_explain.proofs.steps.push_made.Goals as goal

pub returns-clause-lines : goal.returns-clause-lines
returns-clause-lines c = λ set rising outside lead made.
    let i : Image = c.args.before.now in
    let heap : c.of-walkable.result.heap ≡ i.heap = ap (λ (j : Image). j.heap) c.of-walkable.ensures in
    let search = search_there i c.of-walkable.result.heap set c.args.cards.now c.survivors.result.now heap rising outside lead (subst (Survivors i.heap set) (sym c.survivors.ensures) made.0.survivors) in
    made_end i set (length c.args.cards.now) (Ready c.args.plan.now c.args.prepared.now) c.args.plan.now c.args.prepared.now c.of-walkable.result.heap c.survivors.result.now
    (string_bytes c.args.text.now) (string_bytes c.push_survivors.new.text) (string_bytes c.push_ready.new.text) refl heap c.survivors.ensures (c.in_ok-push_survivors.ensures set search)
    (c.in_ok-push_ready.ensures set made.0 (made_rise i set c.args.plan.now.survivors c.args.prepared.now made.1))
