use Rattle.std.proofs.Common.{[], string_bytes}
use Rattle.g1_report.specs.declared.grouping.Run.{Run}
use Rattle.g1_report.specs.Gathered.{run_of}
use Rattle.g1_report.proofs.Runs.{run_more, apart_more}
use Rattle.g1_report.proofs.grouping.push_runs.Goals as goal

pub loop-run-preserved : goal.loop-run-preserved
loop-run-preserved c =
    let none : Run = record { step = record { ref_ptr = (0, 0); now = [] }; count = 0 } in
    record {
      text = run_more run_of c.args.runs.now c.loop-run.run-index none c.loop-run-test.true c.args.apart c.loop-run.behind (string_bytes c.args.text.now) (string_bytes c.loop-run.text) (string_bytes c.push_run.new.text)
          c.loop-run.invariant.text c.loop-run.invariant.apart c.in_ok-push_run.ensures;
      apart = apart_more run_of c.args.runs.now c.loop-run.run-index none c.loop-run-test.true c.args.apart;
    }
