use Rattle.std.proofs.Common.{◌∷◌, refl, subst, arith}
use Rattle.std.specs.Prelude.{None, Some, codes}
use Rattle.g1_text.specs.Forms.{Sizes, Maybe}
use Rattle.g1_text.proofs.Fronts.{read_all, sizes_read, if_none, if_some}
use Rattle.g1_text.specs.Graphs.{SaysSizes}
use Rattle.g1_text.proofs.ByName.{sizes_said, no_sizes_said}
use Rattle.g1_text.proofs.named.all_sizes.Goals as goal

pub returns-then-len-eq0-clause-form : goal.returns-then-len-eq0-clause-form
returns-then-len-eq0-clause-form c = subst (Maybe Sizes) c.new-words.ensures (if_none Sizes c.new-words.result (omega (arith, c.len.ensures, c.if-len-eq0.true)))

pub returns-in-Ok-clause-form : goal.returns-in-Ok-clause-form
returns-in-Ok-clause-form c =
    let told = c.in_ok-told.told in
    let g = c.in-Ok.geometry in
    let sizes = sizes_read g.w g.k g.n told.w told.k told.n c.in-Ok.ensures.ok c.within_limits.ensures c.in_ok-told.ensures.digits in
    subst (Maybe Sizes) c.new-words.ensures (if_some Sizes c.new-words.result (read_all Sizes sizes c.in_ok-end.ensures.none))

pub returns-then-len-eq0-clause-says : goal.returns-then-len-eq0-clause-says
returns-then-len-eq0-clause-says c = (None, refl, subst (λ ws. SaysSizes None (codes "graph" ∷ ws)) c.new-words.ensures (no_sizes_said c.new-words.result (omega (arith, c.len.ensures, c.if-len-eq0.true))))

pub returns-in-Ok-clause-says : goal.returns-in-Ok-clause-says
returns-in-Ok-clause-says c =
    let told = c.in_ok-told.told in
    let g = c.in-Ok.geometry in
    let sizes = sizes_said g.w g.k g.n told.w told.k told.n c.in-Ok.ensures.ok c.within_limits.ensures c.in_ok-told.ensures.digits c.in_ok-end.ensures.none in
    (Some (record { w = told.w; k = told.k; n = told.n }), refl, subst (λ ws. SaysSizes (Some (record { w = told.w; k = told.k; n = told.n })) (codes "graph" ∷ ws)) c.new-words.ensures sizes)
