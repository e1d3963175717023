use Rattle.std.proofs.Common.{◌≡◌, ◌<◌, ◌^◌, ◌∙◌, length, map, ap, arith, string_bytes}
use Rattle.g1_report.specs.Program.{program_of}
use Rattle.g1_report.specs.Runs.{runs_of}
use Rattle.g1_report.specs.Gathered.{group_of, run_of}
use Rattle.g1_report.specs.Steps.{steps_text}
use Rattle.g1_report.proofs.Steps.{path_end}
use Rattle.g1_report.proofs.naming.push_named_slots.Goals as goal

pub returns : goal.returns
returns c = λ o.
    let p = program_of c.args.names.now in
    let h = c.args.heap.now in
    let slots = c.args.slots.now in
    let steps = steps_text p h c.args.root slots in
    let few : length slots < 2 ^ 64 = omega arith in
    let runs : map run_of c.as_slice-2.result.now ≡ runs_of steps =
    ap (map run_of) c.as_slice-2.ensures.value ∙ c.in_ok-runs.ensures steps (ap (map group_of) c.as_slice.ensures.value ∙ c.in_ok-groups.ensures o) in
    path_end c.push_ends.result p h c.args.root slots (map run_of c.as_slice-2.result.now) (string_bytes c.args.text.now) (string_bytes c.push_ends.new.text) runs few c.push_ends.ensures
