use Rattle.g1_kept.specs.Order.{IsEarliestLoss}
use Rattle.g1_kept.specs.declared.lost.Lost.{Lost}
use Rattle.std.proofs.Common.{IfNone, subst, ◌≡◌, ℕ, List}
use Rattle.g1_words.specs.Heap.{Heap}
use Rattle.g1_kept.specs.Keeps.{Keeps}
use Rattle.g1_kept.specs.Lost.{IsLoss}
use Rattle.g1_kept.proofs.Excludes.{no_loss}
use Rattle.g1_same.proofs.Steps.{some_then}
use Rattle.g1_same.specs.declared.pair.Pair.{Pair}
use Rattle.g1_same.proofs.Held.{after_valid, before_valid, of_equals}
use Rattle.g1_kept.proofs.keeping.kept.Goals as goal

-- what holds of the heaps and the set of a pause holds of those that it was made of
of_parts : {r set : List ℕ} {g h : Heap} (p : Pair) (P : List ℕ → Heap → Heap → Type 0) → r ≡ set → p.before.now ≡ g → p.after.now ≡ h → P r p.before.now p.after.now → P set g h
of_parts {g = g} {h = h} p P marked same alike x = subst (λ s. P s g h) marked (of_equals (P _) same alike x)

pub returns-in-Some-clause-never : goal.returns-in-Some-clause-never
returns-in-Some-clause-never c =
    let p : Pair = c.new-heaps.result in
    let found = some_then (IsLoss c.args.fill c.in_ok-regions.regions p.before.now p.after.now) c.in_ok-lost.field-0 c.in-Some.lost c.in-Some.is c.in_ok-lost.ensures.some in
    of_parts p (λ s g h. Keeps c.args.fill s g h → ⊥) c.in_ok-regions.ensures c.new-heaps.ensures.before c.new-heaps.ensures.after
    (λ k. no_loss c.args.fill c.in_ok-regions.regions p.before.now p.after.now (before_valid p) (after_valid p) k c.in-Some.lost found)

pub returns-in-Some-clause-keeps : goal.returns-in-Some-clause-keeps
returns-in-Some-clause-keeps c = tt

pub returns-in-Some-clause-memory : goal.returns-in-Some-clause-memory
returns-in-Some-clause-memory c = tt

pub returns-clause-lost : goal.returns-clause-lost
returns-clause-lost c = tt

pub returns-clause-earliest : goal.returns-clause-earliest
returns-clause-earliest c = tt

pub returns-clause-never : goal.returns-clause-never
returns-clause-never c = tt

pub returns-clause-memory : goal.returns-clause-memory
returns-clause-memory c = tt

pub returns-in-Some-clause-lost : goal.returns-in-Some-clause-lost
returns-in-Some-clause-lost c =
    let p : Pair = c.new-heaps.result in
    of_parts p (λ s g h. IsLoss c.args.fill s g h c.in-Some.lost) c.in_ok-regions.ensures c.new-heaps.ensures.before c.new-heaps.ensures.after
    (some_then (λ (l : Lost). IsLoss c.args.fill c.in_ok-regions.regions p.before.now p.after.now l) c.in_ok-lost.field-0 c.in-Some.lost c.in-Some.is c.in_ok-lost.ensures.some)

pub returns-in-Some-clause-earliest : goal.returns-in-Some-clause-earliest
returns-in-Some-clause-earliest c =
    let p : Pair = c.new-heaps.result in
    of_parts p (λ s g h. IsEarliestLoss c.args.fill s g h c.in-Some.lost) c.in_ok-regions.ensures c.new-heaps.ensures.before c.new-heaps.ensures.after
    (some_then (λ (l : Lost). IsEarliestLoss c.args.fill c.in_ok-regions.regions p.before.now p.after.now l) c.in_ok-lost.field-0 c.in-Some.lost c.in-Some.is c.in_ok-lost.ensures.earliest)

pub returns-clause-keeps : goal.returns-clause-keeps
returns-clause-keeps c =
    let p : Pair = c.new-heaps.result in
    of_parts p (Keeps c.args.fill) c.in_ok-regions.ensures c.new-heaps.ensures.before c.new-heaps.ensures.after
    (subst (λ o. IfNone o (Keeps c.args.fill c.in_ok-regions.regions p.before.now p.after.now)) c.in-None.is c.in_ok-lost.ensures.none)
