use Rattle.std.proofs.Common.{get_or, length, arith, ap, ◌∙◌}
use Rattle.g1_layout.specs.declared.plan.Run.{Run}
use Rattle.g1_copy.specs.Gathered.{placed_words}
use Rattle.g1_copy.proofs.Plans.{run_is, runs_count}
use Rattle.g1_copy.proofs.gathering.CopiesFill.fill.Goals as goal

-- what a read past the runs would give
abbrev none_read : Run
none_read = record { region = 0; from = 0; to = 0; end = 0 }

pub offset_bounds-runs-region : goal.offset_bounds-runs-region
offset_bounds-runs-region c =
    let n = runs_count c.args.self.now.moving.now.heap c.args.self.now.moving.now.plan c.runs.ensures.made in
    omega (arith, c.requires.0, n, ap length c.runs.ensures.same, c.runs.type_inv)

pub bounds-runs-region : goal.bounds-runs-region
bounds-runs-region c =
    let n = runs_count c.args.self.now.moving.now.heap c.args.self.now.moving.now.plan c.runs.ensures.made in
    omega (arith, c.requires.0, n, ap length c.runs.ensures.same)

pub fill-requires-clause-run : goal.fill-requires-clause-run
fill-requires-clause-run c =
    let s = c.args.self.now in
    let r = c.args.region in
    (r, c.requires.0, ap (λ runs. get_or runs r none_read) c.runs.ensures.same ∙ run_is s.moving.now.heap s.moving.now.plan c.runs.ensures.made r none_read c.requires.0)

pub returns : goal.returns
returns c =
    let s = c.args.self.now in
    let r = c.args.region in
    c.fill.ensures ∙ ap (λ runs. placed_words s.moving.now.heap s.moving.now.plan.survivors (get_or runs r none_read).region) c.runs.ensures.same
    ∙ ap (λ u. placed_words s.moving.now.heap s.moving.now.plan.survivors u.region) (run_is s.moving.now.heap s.moving.now.plan c.runs.ensures.made r none_read c.requires.0)
