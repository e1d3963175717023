use Rattle.std.proofs.Common.{◌≡◌, ◌<◌, List, ℕ, All, sym, ap, subst, string_bytes}
use Rattle.std.proofs.lemmas.Result.{on_ok_weaker}
use Rattle.g1_words.specs.Heap.{Heap}
use Rattle.g1_image.specs.Image.{Image}
use Rattle.g1_frontier.specs.Window.{AreCards, AreOutside, LeadIn}
use Rattle.g1_explain.proofs.StepLines.{leads_there, set_below, steps_end}
use Rattle.g1_explain.proofs.steps.push_steps.Goals as goal

pub returns-clause-lines : goal.returns-clause-lines
returns-clause-lines c = λ t.
    let i : Image = c.args.before.now in
    let x = c.args.steps.now in
    let cost = c.args.settings.now.cost in
    let choice = c.args.settings.now.choice in
    let set : List ℕ = x.collection.regions.items in
    let there = leads_there cost choice i x c.image.ensures.tracked t in
    let heap : c.of-walkable.result.heap ≡ i.heap = ap (λ (j : Image). j.heap) c.of-walkable.ensures in
    let below : All (λ r. r < c.of-walkable.result.heap.geometry.n) c.deref.result.now =
    subst (λ (g : Heap). All (λ r. r < g.geometry.n) c.deref.result.now) (sym heap) (subst (All (λ r. r < i.heap.geometry.n)) (sym c.deref.ensures.value) (set_below cost choice i x t)) in
    on_ok_weaker c.push_outcome.result
    (steps_end cost i x c.of-walkable.result.heap c.deref.result.now c.deref-2.result.now c.deref-3.result.now (string_bytes c.args.text.now) (string_bytes c.push_bought.new.text) (string_bytes c.push_cards.new.text)
    (string_bytes c.push_outcome.new.text) heap c.deref.ensures.value c.deref-2.ensures.value c.deref-3.ensures.value (c.in_ok-push_bought.ensures t.bought) (c.in_ok-push_cards.ensures below))
    (c.push_outcome.ensures.lines set (subst (AreCards i.heap) (sym c.deref-3.ensures.value) there.0) (subst (AreOutside i.heap set) (sym c.deref-3.ensures.value) there.1)
    (subst (LeadIn i.heap set) (sym c.deref-3.ensures.value) there.2) t.outcome)
