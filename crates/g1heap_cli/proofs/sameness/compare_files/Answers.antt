use Rattle.std.proofs.Common.{◌≡◌, None, Some, inl, rules, subst}
use Rattle.g1heap_cli.specs.Streams.{LeavesBehind}
use Rattle.g1heap_cli.specs.SameReplies.{IsSideOf}
use Rattle.g1heap_cli.specs.SameReasons.{RefusesSide, RefusesWrong}
use Rattle.g1heap_cli.proofs.SameSides.{compared}
use Rattle.g1heap_cli.proofs.SameRefused.{behind_before, stale_before}
use Rattle.g1heap_cli.proofs.sameness.compare_files.Goals as goal

-- the reply, by both files
pub returns : goal.returns
returns g c =
    let same = c.args.same.now in
    let taken = g.L.Lines.taken in
    let left = g.R.Read.remaining c.args.reader.now in
    let left_after = g.R.Read.remaining c.read_and_open.new.reader in
    let side : IsSideOf same.limits same.before.bytes.items left c.in-Ok.before = search rules in
    let none : c.in-Ok.before.stale ≡ None = search rules in
    let unread : LeavesBehind same.before.bytes.items left left_after = subst (λ n. LeavesBehind n left left_after) c.as_str.ensures.value c.in-Ok.ensures.left in
    record {
      text = compared same (taken c.args.answer.now) _ left left_after c.in-Ok.before c.compare_to_after.result side none unread c.compare_to_after.ensures.text;
      refused = behind_before same c.in-Ok.before left left_after side unread none c.compare_to_after.result c.compare_to_after.ensures.refused;
      grown = c.compare_to_after.ensures.grown;
    }

-- the file before has no side
pub returns-in-Err-clause-refused : goal.returns-in-Err-clause-refused
returns-in-Err-clause-refused g c =
    let same = c.args.same.now in
    inl (inl (subst (λ n. RefusesSide same.limits n (g.R.Read.remaining c.args.reader.now) c.in-Err.refusal) c.as_str.ensures.value c.in-Err.ensures.refused))

-- it has stale words
pub returns-in-Some-clause-refused : goal.returns-in-Some-clause-refused
returns-in-Some-clause-refused g c =
    let same = c.args.same.now in
    let left = g.R.Read.remaining c.args.reader.now in
    let left_after = g.R.Read.remaining c.read_and_open.new.reader in
    let r = c.refuse_stale.result in
    let side : IsSideOf same.limits same.before.bytes.items left c.in-Ok.before = search rules in
    let unread : LeavesBehind same.before.bytes.items left left_after = subst (λ n. LeavesBehind n left left_after) c.as_str.ensures.value c.in-Ok.ensures.left in
    let is : c.in-Ok.before.stale ≡ Some c.in-Some.strays = search rules in
    let told : RefusesWrong same.before.bytes.items c.in-Some.strays.wrong r = subst (λ n. RefusesWrong n c.in-Some.strays.wrong r) c.as_str-name.ensures.value c.refuse_stale.ensures in
    stale_before same c.in-Ok.before left left_after side unread c.in-Some.strays r is told
