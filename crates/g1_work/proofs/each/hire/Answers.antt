use Rattle.std.proofs.Common.{arith, ap, ◌∙◌, ◌++◌, ◌∷◌, [], refl}
use Rattle.std.proofs.lemmas.List.{nil_from_length}
use Rattle.g1_work.proofs.Hiring.{starts, goes_on, ends}
use Rattle.g1_work.proofs.each.hire.Goals as goal

pub loop-states-init : goal.loop-states-init
loop-states-init g c = (starts _ _ _ _ c.new-workers.ensures.items c.requires.seat, c.requires.count.0)

pub split-theirs-requires-clause-dealer : goal.split-theirs-requires-clause-dealer
split-theirs-requires-clause-dealer g c = c.loop-states.invariant.0.seat_of

pub split-theirs-requires-clause-two : goal.split-theirs-requires-clause-two
split-theirs-requires-clause-two g c = let h = c.loop-states.invariant.0 in omega (arith, h.kept, h.count)

pub loop-states-smaller : goal.loop-states-smaller
loop-states-smaller g c = omega (arith, c.in-Some.ensures.len)

pub loop-states-preserved : goal.loop-states-preserved
loop-states-preserved g c = let h = c.loop-states.invariant.0 in (
  goes_on _ _ _ _ _ _ _ _ _ c.loop-states.invariant.0 c.in-Some.ensures.items
      (omega (arith, h.kept, h.count)) c.split-theirs.ensures.left c.split-theirs.ensures.dealer c.split-theirs.ensures.share
      c.split-theirs.ensures.no_draws c.in_ok-push.ensures.items,
  omega (arith, c.in-Some.ensures.len),
)

pub returns : goal.returns
returns g c =
    let last = nil_from_length _ (omega (arith, c.in-Some-pop.ensures.len, c.loop-states-test.false, c.len.ensures)) in
    ends _ _ _ _ _ _ _ c.loop-states.invariant.0 (c.in-Some-pop.ensures.items ∙ ap (λ l. l ++ c.in-Some-pop.state ∷ []) last) refl c.in_ok-push-2.ensures.items
