use Rattle.std.proofs.Common.{◌∙◌, ap, length}
use Rattle.g1_work.proofs.Slices.{by_slices}
use Rattle.g1_work.specs.Regions.{slice_of}
use Rattle.g1_copy.specs.Fates.{fate_at}
use Rattle.g1_copy.specs.Slices.{by_fate}
use Rattle.g1_copy.proofs.filling.write.Goals as goal

pub returns-clause-each : goal.returns-clause-each
returns-clause-each g c =
    let p = c.args.prepared.now in
    let w = c.args.region_words in
    let xs = c.args.words.now in
    let fates = c.deref.ensures.value ∙ ap (λ x. x.fates) c.prepared.view_is in
    let gathered = c.deref-2.ensures.value ∙ ap (λ x. x.gathered) c.prepared.view_is in
    let patches = c.deref-3.ensures.value ∙ ap (λ x. x.patches) c.prepared.view_is in
    λ r lt. c.each_region_mut.ensures.fills r lt ∙ (λ q. by_fate w (gathered q) (patches q) r (fate_at (fates q) r) (slice_of w r xs))

pub returns-clause-written : goal.returns-clause-written
returns-clause-written g c =
    let p = c.args.prepared.now in
    let w = c.args.region_words in
    let xs = c.args.words.now in
    let fates = c.deref.ensures.value ∙ ap (λ x. x.fates) c.prepared.view_is in
    let gathered = c.deref-2.ensures.value ∙ ap (λ x. x.gathered) c.prepared.view_is in
    let patches = c.deref-3.ensures.value ∙ ap (λ x. x.patches) c.prepared.view_is in
    by_slices (λ r. by_fate w p.gathered p.patches r (fate_at p.fates r) (slice_of w r xs)) w (length xs) c.each_region_mut.new.words c.requires.width c.each_region_mut.ensures.size c.requires.whole
    (λ r lt. c.each_region_mut.ensures.fills r lt ∙ (λ q. by_fate w (gathered q) (patches q) r (fate_at (fates q) r) (slice_of w r xs)))
