use Rattle.std.proofs.Common.{IfNone, ℕ, List, subst}
use Rattle.g1_words.specs.Graph.{SameGraph}
use Rattle.g1_same.specs.Stale.{LeadsToStale}
use Rattle.g1judge.proofs.judging.judge_stale_words.Goals as goal

pub returns-in-Ok-None-clause-none : goal.returns-in-Ok-None-clause-none
returns-in-Ok-None-clause-none c =
    let g = c.args.before.now in
    let h = c.args.after.now in
    let roots = c.args.stale.now.roots.now in
    let slots = c.args.stale.now.slots.now in
    let same : SameGraph g h = subst (λ o. IfNone o (SameGraph g h)) c.in-Ok-None.field-0-is c.in-Ok-None.ensures.same in
    let none : (p : List ℕ) (x z : ℕ) → LeadsToStale g h roots slots p x z → ⊥ =
    subst (λ o. IfNone o ((p : List ℕ) (x z : ℕ) → LeadsToStale g h roots slots p x z → ⊥)) c.in-Ok-None.field-0-is c.in-Ok-None.ensures.no_stale in
    (same, λ r. none r.0 r.1 r.2 r.3)
