use Rattle.std.proofs.Common.{◌≡◌, ◌+◌, ◌-◌, arith}
use Rattle.g1_frontier.proofs.Scopes.{names_null}
use Rattle.g1_frontier.proofs.scope.Scope.target.Goals as goal

pub returns-then-word-eq0-clause-none : goal.returns-then-word-eq0-clause-none
returns-then-word-eq0-clause-none c = names_null c.args.self.now c.args.word c.if-word-eq0.true

pub returns-clause-found : goal.returns-clause-found
returns-clause-found c = let named : c.args.word ≡ c.args.word - 1 + 1 = omega (arith, c.if-word-eq0.false) in (named, c.in_ok-place.ensures.found.0, c.in_ok-place.ensures.found.1)
