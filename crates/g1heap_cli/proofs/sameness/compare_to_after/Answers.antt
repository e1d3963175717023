use Rattle.std.proofs.Common.{inl, rules, subst}
use Rattle.g1heap_cli.specs.Streams.{LeavesBehind}
use Rattle.g1heap_cli.specs.SameReplies.{IsSideOf}
use Rattle.g1heap_cli.specs.SameReasons.{RefusesSide}
use Rattle.g1heap_cli.proofs.SameSides.{replied}
use Rattle.g1heap_cli.proofs.SameRefused.{behind_after, no_cover}
use Rattle.g1heap_cli.proofs.Grown.{grows_on}
use Rattle.g1heap_cli.proofs.sameness.compare_to_after.Goals as goal

-- what is said, and cover behind it
pub returns-in-Ok-compare_asked : goal.returns-in-Ok-compare_asked
returns-in-Ok-compare_asked g c =
    let same = c.args.job.now.same.now in
    let taken = g.L.Lines.taken in
    let left = g.R.Read.remaining c.args.reader.now in
    let side : IsSideOf same.limits same.after.bytes.items left c.in-Ok.after = search rules in
    let left_names = g.R.Read.remaining c.read_and_open.new.reader in
    let unread : LeavesBehind same.after.bytes.items left left_names = search rules in
    record {
      text = replied same (taken c.args.answer.now) (taken c.compare_asked.new.answer) (taken c.add_cover.new.answer) left left_names c.args.before.now c.in-Ok.after
          c.in-Ok-compare_asked.status c.add_cover.result side unread c.in-Ok-compare_asked.ensures.said c.add_cover.ensures.cover;
      refused = no_cover same c.args.before.now c.in-Ok.after left left_names side unread (taken c.args.answer.now) (taken c.compare_asked.new.answer) c.in-Ok-compare_asked.status
          c.in-Ok-compare_asked.ensures.said c.add_cover.result c.add_cover.ensures.refused;
      grown = grows_on (taken c.args.answer.now) (taken c.compare_asked.new.answer) (taken c.add_cover.new.answer) c.in-Ok-compare_asked.ensures.grown c.add_cover.ensures.grown;
    }

-- nothing is said of the sides
pub returns-clause-refused : goal.returns-clause-refused
returns-clause-refused g c =
    let same = c.args.job.now.same.now in
    let left = g.R.Read.remaining c.args.reader.now in
    let side : IsSideOf same.limits same.after.bytes.items left c.in-Ok.after = search rules in
    let left_names = g.R.Read.remaining c.read_and_open.new.reader in
    let unread : LeavesBehind same.after.bytes.items left left_names = search rules in
    behind_after same c.args.before.now c.in-Ok.after left left_names side unread c.in-Err-compare_asked.refusal c.in-Err-compare_asked.ensures.refused

-- the file has no side
pub returns-in-Err-clause-refused : goal.returns-in-Err-clause-refused
returns-in-Err-clause-refused g c =
    let same = c.args.job.now.same.now in
    inl (inl (subst (λ n. RefusesSide same.limits n (g.R.Read.remaining c.args.reader.now) c.in-Err.refusal) c.as_str.ensures.value c.in-Err.ensures.refused))
