use Rattle.std.proofs.Common.{subst, string_bytes}
use Rattle.std.specs.Prelude.{IfOk}
use Rattle.g1_image.specs.Image.{Image}
use Rattle.g1_explain.specs.Explained.{IsMapOfPause}
use Rattle.g1_explain.proofs.Explained.{bad_set_map}
use Rattle.g1_explain.proofs.explaining.map_tracked.Goals as goal

pub returns-in-Ok-clause-map : goal.returns-in-Ok-clause-map
returns-in-Ok-clause-map g c = λ none.
    let s = c.args.settings.now in
    subst (λ (j : Image). IfOk c.map_steps.result (λ o. IsMapOfPause s.cost s.choice j (string_bytes c.map_steps.new.text) o)) c.in_ok-before.ensures.image
    (c.map_steps.ensures.map none c.image.ensures.tracked.covered (c.in-Ok.ensures.set, c.in-Ok.ensures.outcome))

pub returns-clause-map : goal.returns-clause-map
returns-clause-map g c = λ none.
    let s = c.args.settings.now in
    subst (λ (j : Image). IfOk c.refuse.result (λ o. IsMapOfPause s.cost s.choice j (string_bytes c.args.text.now) o)) c.in_ok-before.ensures.image
    (bad_set_map s.cost s.choice c.in_ok-before.before c.refuse.result c.in-Err.fault (string_bytes c.args.text.now) c.image.ensures.tracked.covered c.in-Err.ensures.refused none
    c.refuse.ensures.fault c.refuse.ensures.no_memory)
