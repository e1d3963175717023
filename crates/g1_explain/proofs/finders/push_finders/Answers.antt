use Rattle.std.proofs.Common.{slice_index, string_bytes}
use Rattle.g1_text.specs.Lines.{line_text}
use Rattle.g1_text.proofs.Printed.{one_number_more}
use Rattle.g1_explain.specs.Searched.{finder_at}
use Rattle.g1_explain.specs.Survivors.{survivor_line}
use Rattle.g1_explain.proofs.finders.push_finders.Goals as goal

pub loop-index-preserved : goal.loop-index-preserved
loop-index-preserved c =
    one_number_more (λ j. line_text (survivor_line c.args.heap.now (record { finder = finder_at c.args.finders.now j; target = slice_index c.args.survivors.now j }))) (string_bytes c.args.text.now)
    (string_bytes c.loop-index.text) (string_bytes c.push_survivor.new.text) c.loop-index.index c.loop-index.invariant c.in_ok-push_survivor.ensures
