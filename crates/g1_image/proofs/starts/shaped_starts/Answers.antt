use Rattle.std.proofs.Common.{◌≡◌, ◌∙◌, ap, arith, subst}
use Rattle.std.specs.Prelude.{Ok}
use Rattle.g1_image.specs.Draft.{ShapedBelow}
use Rattle.g1_image.specs.Shapes.{AreShaped}
use Rattle.g1_image.proofs.Rows.{StartsOf-all}
use Rattle.g1_image.proofs.starts.shaped_starts.Goals as goal

pub returns-in-Ok-clause-ok : goal.returns-in-Ok-clause-ok
returns-in-Ok-clause-ok c =
    let h = c.args.draft.now in
    let n : c.regions-regions.result ≡ h.geometry.n = c.regions-regions.ensures.value ∙ ap (λ g. g.n) c.geometry.ensures.same in
    let all : AreShaped h 0 h.geometry.n (Ok c.in-Ok.marks) =
    subst (λ x. AreShaped h 0 x (Ok c.in-Ok.marks)) n (subst (AreShaped h 0 c.regions-regions.result) c.in-Ok.is c.in_ok-marks.ensures.ok) in
    let shaped : ShapedBelow h h.geometry.n = all.1 (λ q lt. absurd (omega arith)) in
    record { starts = StartsOf-all h c.in-Ok.marks shaped all.0; shaped = shaped }
