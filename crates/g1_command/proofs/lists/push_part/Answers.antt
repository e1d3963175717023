use Rattle.std.proofs.Common.{◌≡◌, ◌++◌, ℕ, Bool, true, false, refl, sym}
use Rattle.std.specs.Bool.{MatchBool}
use Rattle.std.proofs.lemmas.Bool.{false≢true}
use Rattle.std.proofs.lemmas.Result.{err_from_is_err_and}
use Rattle.g1_command.specs.declared.lists.Named.{Named}
use Rattle.g1_command.specs.Lists.{AddsRegions, HasTwice, rising}
use Rattle.g1_command.proofs.Got.{because_so}
use Rattle.g1_command.proofs.Listed.{ends_got, first_wrong, last_wrong, falls, repeats, adds_range}
use Rattle.g1_command.proofs.lists.push_part.Goals as goal
use Rattle.g1_command.proofs.Reasons.{error_because}

-- whether regions were added
were_new : (first last : ℕ) (old new : Named) (b : Bool) → MatchBool b (AddsRegions (rising first last) old new) (HasTwice (old.regions.items ++ rising first last)) → b ≡ true
    → new.regions.items ≡ old.regions.items ++ rising first last
were_new first last old new true h e = h.0
were_new first last old new false h e = absurd (false≢true e)

was_there : (first last : ℕ) (old new : Named) (b : Bool) → MatchBool b (AddsRegions (rising first last) old new) (HasTwice (old.regions.items ++ rising first last)) → b ≡ false
    → HasTwice (old.regions.items ++ rising first last)
was_there first last old new true h e = absurd (false≢true (sym e))
was_there first last old new false h e = h

pub returns-in_err-first-clause-refused : goal.returns-in_err-first-clause-refused
returns-in_err-first-clause-refused c =
    let ends = ends_got c.args.part.now c.split_once.result _ c.unwrap_or.result c.split_once.ensures.cases refl refl c.unwrap_or.ensures in
    let p = err_from_is_err_and c.from_residual.result c.from_residual.ensures.1 in
    rw (p.1, p.2) (because_so (first_wrong _ _ _ ends c.args.named.now.regions.items) c.in_err-first.field-0.0 c.in_err-first.ensures.refused)

pub returns-in_err-last-clause-refused : goal.returns-in_err-last-clause-refused
returns-in_err-last-clause-refused c =
    let ends = ends_got c.args.part.now c.split_once.result _ c.unwrap_or.result c.split_once.ensures.cases refl refl c.unwrap_or.ensures in
    let back = c.from_residual-in_err-last in
    let p = err_from_is_err_and back.result back.ensures.1 in
    rw (p.1, p.2) (because_so (last_wrong _ _ _ ends c.args.named.now.regions.items) c.in_err-last.field-0.0 c.in_err-last.ensures.refused)

pub returns-then-first-last-clause-refused : goal.returns-then-first-last-clause-refused
returns-then-first-last-clause-refused c =
    let ends = ends_got c.args.part.now c.split_once.result _ c.unwrap_or.result c.split_once.ensures.cases refl refl c.unwrap_or.ensures in
    error_because (falls _ _ _ ends c.args.named.now.regions.items c.in_ok-first.first c.in_ok-last.last c.in_ok-first.ensures.region c.in_ok-last.ensures.region c.if-first-last.true) c.refuse.result

pub returns-then-not-branch-clause-refused : goal.returns-then-not-branch-clause-refused
returns-then-not-branch-clause-refused c =
    let ends = ends_got c.args.part.now c.split_once.result _ c.unwrap_or.result c.split_once.ensures.cases refl refl c.unwrap_or.ensures in
    let there = was_there c.in_ok-first.first c.in_ok-last.last c.args.named.now c.push_range.new.named c.in_ok-push_range.field-0 c.in_ok-push_range.ensures c.if-not-branch.true in
    error_because (repeats _ _ _ ends c.args.named.now.regions.items c.in_ok-first.first c.in_ok-last.last c.in_ok-first.ensures.region c.in_ok-last.ensures.region there) c.refuse-then-not-branch.result

pub returns-clause-added : goal.returns-clause-added
returns-clause-added c =
    let ends = ends_got c.args.part.now c.split_once.result _ c.unwrap_or.result c.split_once.ensures.cases refl refl c.unwrap_or.ensures in
    let added = were_new c.in_ok-first.first c.in_ok-last.last c.args.named.now c.push_range.new.named c.in_ok-push_range.field-0 c.in_ok-push_range.ensures c.if-not-branch.false in
    adds_range _ _ _ ends c.args.named.now.regions.items c.in_ok-first.first c.in_ok-last.last c.in_ok-first.ensures.region c.in_ok-last.ensures.region c.push_range.new.named.regions.items c.if-first-last.false added
