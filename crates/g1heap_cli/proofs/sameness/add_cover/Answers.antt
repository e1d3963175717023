use Rattle.std.proofs.Common.{◌≡◌, true, rules}
use Rattle.g1_command.specs.declared.refusal.Refusal.{Refusal}
use Rattle.g1heap_cli.specs.SameReasons.{LacksCoverBeside}
use Rattle.g1heap_cli.proofs.SameSides.{no_cover, covered}
use Rattle.g1heap_cli.proofs.SameRefused.{err_or_so}
use Rattle.g1heap_cli.proofs.Grown.{grows_none}
use Rattle.g1heap_cli.proofs.sameness.add_cover.Goals as goal
use Rattle.g1heap_cli.proofs.sameness.add_cover.Goals.{else-status-eq0-via-then-status-eq0+else-job, else-status-eq0-via-else-status-eq0}

-- cover is not asked
pub returns : goal.returns
returns g c =
    let same = c.args.job.now.same.now in
    let not : c.args.status ≡ 0 → same.covered ≡ true → ⊥ = elim c.else-status-eq0.branch [
      | else-status-eq0-via-then-status-eq0+else-job w ↦ search rules
      | else-status-eq0-via-else-status-eq0 w ↦ search rules
    ] in
    record {
      cover = no_cover same (g.L.Lines.taken c.args.answer.now) (g.L.Lines.taken c.args.answer.now) (g.L.Lines.taken c.args.answer.now) c.args.after.image c.args.status not;
      refused = tt;
      grown = grows_none (g.L.Lines.taken c.args.answer.now);
    }

-- it is
pub returns-then-job-clause-cover : goal.returns-then-job-clause-cover
returns-then-job-clause-cover g c =
    let same = c.args.job.now.same.now in
    let none : c.args.status ≡ 0 = search rules in
    let asked : same.covered ≡ true = search rules in
    covered same (g.L.Lines.taken c.args.answer.now) (g.L.Lines.taken c.push_cover.new.answer) c.args.after.image c.args.status c.push_cover.result none asked c.push_cover.ensures.covered
    c.push_cover.ensures.line

pub returns-then-job-clause-refused : goal.returns-then-job-clause-refused
returns-then-job-clause-refused g c =
    let same = c.args.job.now.same.now in
    let none : c.args.status ≡ 0 = search rules in
    let asked : same.covered ≡ true = search rules in
    let Lacks = LacksCoverBeside same.after.bytes.items same.young.items c.args.after.image in
    err_or_so Lacks (λ (r : Refusal). (c.args.status ≡ 0) × (same.covered ≡ true) × Lacks r) (λ r h. (none, asked, h)) c.push_cover.result c.push_cover.ensures.refused
