use Rattle.std.proofs.Common.{◌∙◌, ap, string_bytes}
use Rattle.g1_image.specs.Image.{Image}
use Rattle.g1_explain.proofs.Explained.{lacking_map, placed_map}
use Rattle.g1_explain.proofs.explaining.map_steps.Goals as goal

pub returns-in-NoRoom-clause-map : goal.returns-in-NoRoom-clause-map
returns-in-NoRoom-clause-map c = λ none covered steps.
    let s = c.args.settings.now in
    lacking_map s.cost s.choice c.args.before.now c.refuse.result c.args.steps.now _ _ _ (string_bytes c.args.text.now) c.in-NoRoom.is covered steps none c.refuse.ensures.fault

pub returns-in_ok-push_map-in-Ready-clause-map : goal.returns-in_ok-push_map-in-Ready-clause-map
returns-in_ok-push_map-in-Ready-clause-map c = λ none covered steps.
    let s = c.args.settings.now in
    placed_map s.cost s.choice c.args.before.now c.args.steps.now _ _ c.heap.result.now c.survivors.result.now c.places.result.now (string_bytes c.args.text.now)
    (string_bytes c.push_map.new.text) c.in-Ready.is covered steps (c.heap.ensures.same ∙ ap (λ (j : Image). j.heap) c.image.ensures.same) c.survivors.ensures c.places.ensures none
    c.in_ok-push_map-in-Ready.ensures
