use Rattle.std.proofs.Common.{subst, string_bytes}
use Rattle.std.specs.Prelude.{IfOk}
use Rattle.g1_image.specs.Image.{Image}
use Rattle.g1_explain.specs.Explained.{IsMapOfPause}
use Rattle.g1_explain.proofs.Explained.{bare_map}
use Rattle.g1_explain.proofs.explaining.push_map_lines.Goals as goal

pub returns-in-Ok-clause-map : goal.returns-in-Ok-clause-map
returns-in-Ok-clause-map g c = λ none.
    let s = c.args.settings.now in
    subst (λ (j : Image). IfOk c.map_tracked.result (λ o. IsMapOfPause s.cost s.choice j (string_bytes c.map_tracked.new.text) o)) c.in-Ok.ensures.ok (c.map_tracked.ensures.map none)

pub returns-clause-map : goal.returns-clause-map
returns-clause-map g c = λ none.
    let s = c.args.settings.now in
    bare_map s.cost s.choice c.args.image c.refuse.result c.in-Err.fault (string_bytes c.args.text.now) c.in-Err.ensures.fault none c.refuse.ensures.fault c.refuse.ensures.no_memory
