use Rattle.std.proofs.Common.{◌≡◌, ◌++◌, map, take, string_bytes}
use Rattle.g1_report.specs.Runs.{runs_text}
use Rattle.g1_report.specs.Gathered.{run_of}
use Rattle.g1_report.proofs.Runs.{ends_apart}
use Rattle.g1_report.proofs.grouping.push_runs.Given as goal

abbrev pub invariant-loop-run : goal.invariant-loop-run
invariant-loop-run l = record {
  text : string_bytes l.text ≡ string_bytes l.initial.text ++ runs_text l.apart (map run_of (take l.run-index l.runs));
  apart : l.behind ≡ ends_apart l.apart (map run_of (take l.run-index l.runs));
}
