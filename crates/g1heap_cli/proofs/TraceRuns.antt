-- Commands that lead from image to image are a run, on the plain store, too.
use Rattle.std.proofs.Common.{ℕ, List}
use Rattle.std.specs.Prelude.{All}
use Rattle.g1_words.specs.Geometry.{Geometry}
use Rattle.g1_image.specs.Image.{Image}
use Rattle.g1_choose.specs.declared.parameters.Cost.{Cost}
use Rattle.g1_trace.specs.declared.command.Command.{Command}
use Rattle.g1_trace.specs.declared.command.Reply.{Reply as ReplyOf}
use Rattle.g1_trace.specs.TraceText.{AllFit, numbers_of}
use Rattle.g1_trace.specs.Run.{IsRun, empty_image}
use Rattle.g1_trace.specs.Running.{IsHeapSize}
use Rattle.g1_trace.proofs.StepsKept.{whole_traces}
use Rattle.g1heap_cli.specs.Traced.{Leads}
use Rattle.g1heap_cli.proofs.LineByLine.{leads_replies}
use Rattle.g1_trace.proofs.Existing.{all_write}

pub run_of : (cost : Cost) (g : Geometry) (roots : ℕ) (commands : List Command) (replies : List ReplyOf) (i : Image) → IsHeapSize g roots → All (λ c. AllFit (numbers_of c)) commands
    → Leads cost (empty_image g roots) commands replies i → IsRun cost g roots commands replies
run_of cost g roots commands replies i limits fit leads =
    let run = leads_replies cost (empty_image g roots) i commands replies leads in
    record { plain = whole_traces cost g roots commands replies limits.sizes limits.roots (all_write commands fit) run; heap = run }
