use Rattle.std.proofs.Common.{drop}
use Rattle.g1_trace.specs.Store.{Store, IsPlainStep}
use Rattle.g1_trace.specs.Mutator.{IsStep}
use Rattle.g1_trace.specs.Views.{Shows}
use Rattle.g1_trace.specs.Run.{empty_image, empty_store}
use Rattle.g1_trace.proofs.GoesOn.{GoesOn}
use Rattle.g1_trace.specs.TraceText.{sizes}
use Rattle.g1_trace.proofs.running.run_trace.Given as goal

-- the replies so far and those to what is left are those to all, on the heap and on the plain store that it shows
abbrev pub invariant-loop-command : goal.invariant-loop-command
invariant-loop-command g l = record {
  heap : GoesOn (IsStep l.cost) (empty_image (sizes l.trace) l.trace.roots) l.command-items l.replies.items l.mutator (drop l.command-index l.command-items);
  plain : (s : Store) × Shows s l.mutator.heap × GoesOn IsPlainStep (empty_store l.trace.roots) l.command-items l.replies.items s (drop l.command-index l.command-items);
}
