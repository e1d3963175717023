use Rattle.std.proofs.Common.{◌≡◌, length, refl, sym, ap, subst, string_bytes}
use Rattle.std.proofs.lemmas.Result.{on_ok_weaker}
use Rattle.g1_words.specs.Survivors.{Survivors}
use Rattle.g1_image.specs.Image.{Image}
use Rattle.g1_pause.specs.declared.steps.Outcome.TheVariants.{NoRoom}
use Rattle.g1_explain.proofs.StepLines.{search_there, lacking_end}
use Rattle.g1_explain.proofs.steps.push_lacking.Goals as goal

pub returns-clause-lines : goal.returns-clause-lines
returns-clause-lines c = λ set rising outside lead found.
    let i : Image = c.args.before.now in
    let heap : c.of-walkable.result.heap ≡ i.heap = ap (λ (j : Image). j.heap) c.of-walkable.ensures in
    let search = search_there i c.of-walkable.result.heap set c.args.cards.now c.deref.result.now heap rising outside lead (subst (Survivors i.heap set) (sym c.deref.ensures.value) found.found) in
    on_ok_weaker c.push_refusal.result
    (lacking_end i set (length c.args.cards.now) (NoRoom c.args.survivors.now c.args.need c.args.free) c.args.survivors.now c.args.need c.args.free c.of-walkable.result.heap c.deref.result.now
    (string_bytes c.args.text.now) (string_bytes c.push_survivors.new.text) (string_bytes c.push_refusal.new.text) refl heap c.deref.ensures.value (c.in_ok-push_survivors.ensures set search)) c.push_refusal.ensures.lines
