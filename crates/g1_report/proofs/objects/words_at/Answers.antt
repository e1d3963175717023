use Rattle.std.proofs.Common.{ap, arith}
use Rattle.std.specs.Prelude.{Some}
use Rattle.g1_report.proofs.Laid.{words_are, object_fits}
use Rattle.g1_report.proofs.objects.words_at.Goals as goal

pub returns-else-fits : goal.returns-else-fits
returns-else-fits c = λ there.
    let h = c.args.heap.now in
    let w = c.words-words.result.now in
    let fit = object_fits h w.items c.laid-laid.result.now w.laid c.args.at c.header-object.result c.words-words.ensures.same c.header-object.ensures.value c.words-words.ensures.valid c.words-words.ensures.laid there in
    absurd (c.fits.ensures.passes c.if-fits.false fit.0 (omega (arith, fit.1, c.laid-laid.ensures.many)))

pub returns-then-fits : goal.returns-then-fits
returns-then-fits c = λ there.
    let h = c.args.heap.now in
    let w = c.words-words.result.now in
    let fit = c.fits.ensures.fits c.if-fits.true in
    ap Some (words_are h w.items c.laid-laid.result.now w.laid c.args.at c.header-object.result c.words-words.ensures.same c.header-object.ensures.value
    c.slots-slots.result.now c.data-data.result.now c.laid-laid.ensures.range c.slots-slots.ensures.value c.data-data.ensures.value fit.0 (omega (arith, fit.1, c.laid-laid.ensures.many)))
