use Rattle.std.proofs.Common.{◌∙◌, ap, map, length, refl}
use Rattle.g1_image.specs.Image.{Image}
use Rattle.g1_pause.specs.declared.settings.Choice.TheVariants.{Budget}
use Rattle.g1_pause.proofs.Chosen.{bought_set, bought_by}
use Rattle.g1_pause.proofs.choosing.buy_regions.Goals as goal

pub returns-clause-set : goal.returns-clause-set
returns-clause-set g c =
    bought_set c.args.settings.now.cost c.cost.result (Budget c.args.budget) c.args.before.now c.heap.result.now c.args.budget c.len.result
    (map (λ s. s.items) c.remembered.result.now) c.in_ok-live.live.items c.deref.result.now c.in_ok-chosen.chosen.regions.items
    (record {
      asked = refl;
      price = c.cost.ensures.value;
      heap = c.heap.ensures.same ∙ ap (λ (j : Image). j.heap) c.image-image.ensures.same;
      sets = c.remembered.ensures.refined;
      log = c.len.ensures.len ∙ ap length c.log.ensures ∙ ap (λ (j : Image). length j.log) c.image-image.ensures.same;
      same = c.deref.ensures.value;
      counted = c.in_ok-live.ensures.counted;
    }) c.in_ok-chosen.ensures.ok

pub returns-clause-bought : goal.returns-clause-bought
returns-clause-bought g c =
    bought_by c.args.settings.now.cost c.cost.result (Budget c.args.budget) c.args.before.now c.heap.result.now c.len.result
    (map (λ s. s.items) c.remembered.result.now) c.deref.result.now
    (record { budget = c.args.budget; live = c.in_ok-live.live; order = c.in_ok-chosen.chosen.order; taken = c.in_ok-chosen.chosen.taken })
    (record {
      asked = refl;
      price = c.cost.ensures.value;
      heap = c.heap.ensures.same ∙ ap (λ (j : Image). j.heap) c.image-image.ensures.same;
      sets = c.remembered.ensures.refined;
      log = c.len.ensures.len ∙ ap length c.log.ensures ∙ ap (λ (j : Image). length j.log) c.image-image.ensures.same;
      same = c.deref.ensures.value;
      counted = c.in_ok-live.ensures.counted;
    }) c.in_ok-chosen.ensures.order c.in_ok-chosen.ensures.paid
