use Rattle.std.proofs.Common.{string_bytes}
use Rattle.std.proofs.lemmas.Result.{on_ok_weaker}
use Rattle.g1_report.specs.Gathered.{run_of}
use Rattle.g1_report.proofs.Runs.{cut_ends}
use Rattle.g1_report.proofs.grouping.push_ends.Goals as goal

pub returns : goal.returns
returns c = λ few.
    on_ok_weaker c.push_runs-3.result
    (cut_ends run_of c.args.runs.now c.split_at.result.0.now c.split_at.result.1.now c.split_at-2.result.0.now c.split_at-2.result.1.now few c.if-runs.false
    c.split_at.ensures.front c.split_at.ensures.back c.split_at-2.ensures.front c.split_at-2.ensures.back
    (string_bytes c.args.text.now) (string_bytes c.push_runs-2.new.text) (string_bytes c.write.new.self) (string_bytes c.push_runs-3.new.text) c.steps_in-steps.result
    c.steps_in-steps.ensures c.in_ok-push_runs.ensures c.in_ok-write.ensures.bytes)
    c.push_runs-3.ensures
