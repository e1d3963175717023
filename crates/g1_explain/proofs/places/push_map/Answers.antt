use Rattle.std.proofs.Common.{string_bytes}
use Rattle.g1_text.specs.Lines.{line_text}
use Rattle.g1_explain.specs.Places.{map_line}
use Rattle.g1_text.proofs.Printed.{one_number_more}
use Rattle.g1_explain.proofs.places.push_map.Goals as goal

pub loop-index-preserved : goal.loop-index-preserved
loop-index-preserved c =
    one_number_more (λ j. line_text (map_line c.args.heap.now c.args.survivors.now c.args.places.now j)) (string_bytes c.args.text.now)
    (string_bytes c.loop-index.text) (string_bytes c.push_map_line.new.text) c.loop-index.index c.loop-index.invariant c.in_ok-push_map_line.ensures
