use Rattle.std.proofs.Common.{arith, ap, string_bytes}
use Rattle.g1_words.specs.Geometry.{Geometry}
use Rattle.g1_words.specs.Heap.{Heap}
use Rattle.g1_text.specs.Lines.{text_of, region_lines}
use Rattle.g1_text.proofs.Printed.{one_number_more, lines_end}
use Rattle.g1_text.proofs.printing.push_regions.Goals as goal

pub loop-region-preserved : goal.loop-region-preserved
loop-region-preserved c =
    one_number_more (λ r. text_of (region_lines c.args.image.now r)) (string_bytes c.args.text.now) (string_bytes c.loop-region.text)
    (string_bytes c.push_region.new.text) c.loop-region.region c.loop-region.invariant c.in_ok-push_region.ensures.text

pub returns-clause-text : goal.returns-clause-text
returns-clause-text c =
    let sizes = ap (λ (g : Geometry). g.n) c.geometry.ensures.same in
    let same = ap (λ (h : Heap). h.geometry.n) c.heap.ensures.same in
    lines_end (region_lines c.args.image.now) (string_bytes c.args.text.now) (string_bytes c.loop-region.text) c.loop-region.region c.args.image.now.heap.geometry.n
    (omega (arith, c.loop-region-test.false, c.loop-region.auto.region-end, c.regions-regions.ensures.value, sizes, same)) c.loop-region.invariant
