use Rattle.std.proofs.Common.{arith, string_bytes, length}
use Rattle.std.specs.Prelude.{min}
use Rattle.g1_text.specs.Lines.{text_of}
use Rattle.g1_explain.specs.Places.{place_lines_of}
use Rattle.g1_text.proofs.Printed.{one_number_more, lines_end}
use Rattle.g1_explain.proofs.places.push_places.Goals as goal

pub loop-index-preserved : goal.loop-index-preserved
loop-index-preserved c =
    one_number_more (λ k. text_of (place_lines_of c.args.heap.now c.args.survivors.now c.args.places.now k)) (string_bytes c.args.text.now) (string_bytes c.loop-index.text)
    (string_bytes c.push_place.new.text) c.loop-index.index c.loop-index.invariant c.in_ok-push_place.ensures

pub returns : goal.returns
returns c =
    lines_end (place_lines_of c.args.heap.now c.args.survivors.now c.args.places.now) (string_bytes c.args.text.now) (string_bytes c.loop-index.text) c.loop-index.index
    (min (length c.args.survivors.now) (length c.args.places.now)) (omega (arith, c.loop-index-test.false, c.loop-index.auto.index-end)) c.loop-index.invariant
