use Rattle.std.proofs.Common.{arith, refl, ap, subst, sym, ◌+◌, ◌<◌, ◌++◌, ◌∙◌, ℕ, [], ◌∷◌, map}
use Rattle.g1_claim.specs.declared.rule.Hand.{Hand}
use Rattle.g1_claim.specs.Claims.{offer, least_rank}
use Rattle.g1_frontier.specs.declared.offering.Holder.{Holder}
use Rattle.g1_frontier.specs.Offering.{HasTried}
use Rattle.g1_frontier.specs.Scope.{place_in}
use Rattle.g1_frontier.proofs.Offerings.{tried_none, tried_one, aims_inside, aims_small}
use Rattle.g1_frontier.proofs.Scopes.{below, begins}
use Rattle.g1_frontier.proofs.offering.Offers.offer_named.Goals as goal

pub overflow_add-rank : goal.overflow_add-rank
overflow_add-rank c =
    let s = c.args.self.now.scope.now in
    let f = c.in-Some.ensures.found in
    let low = aims_small s.heap.now s.window.now (c.args.base + c.args.offset) c.args.word c.in-Some.target.address f.0 f.1 c.requires.ranks in omega (arith, low)

pub offer-answered_true-requires-clause-place : goal.offer-answered_true-requires-clause-place
offer-answered_true-requires-clause-place c =
    let s = c.args.self.now.scope.now in
    let f = c.in-Some.ensures.found in
    let a : ℕ = c.in-Some.target.address in
    let low = below s c.requires.places.scope a (begins s c.requires.places.scope c.args.word a c.requires.reference f.0 f.1) in
    omega (arith, low, f.2, c.requires.places.places)

pub offer-answered_true-requires-clause-rank : goal.offer-answered_true-requires-clause-rank
offer-answered_true-requires-clause-rank c =
    let s = c.args.self.now.scope.now in
    let f = c.in-Some.ensures.found in
    aims_small s.heap.now s.window.now (c.args.base + c.args.offset) c.args.word c.in-Some.target.address f.0 f.1 c.requires.ranks

pub returns-in_ok-keep_if-in-Some : goal.returns-in_ok-keep_if-in-Some
returns-in_ok-keep_if-in-Some c =
    let s = c.args.self.now.scope.now in
    let a : ℕ = c.in-Some.target.address in
    let rank : ℕ = c.args.base + c.args.offset in
    let f = c.in-Some.ensures.found in
    let t : Holder = record { number = c.args.holder.now.number; seat = c.offer-answered_true.new.seat; kept = c.keep_if.new.kept } in
    subst (λ ps. HasTried (place_in s) ps c.args.holder.now t) (sym (aims_inside s.heap.now s.window.now rank c.args.word a f.0 f.1))
    (tried_one (place_in s) rank a c.offer-answered_true.result c.args.holder.now t
    (ap (λ (h : Hand). h.offers) c.offer-answered_true.ensures.offered ∙ ap (λ p. c.args.holder.now.seat.hand.offers ++ offer p rank c.offer-answered_true.result ∷ []) f.2)
    c.in_ok-keep_if-in-Some.ensures
    refl
    (c.offer-answered_true.ensures.table ∙ sym c.requires.seat)
    (ap (λ (h : Hand). h.shares) c.offer-answered_true.ensures.offered)
    (λ all yes. subst (λ p. rank < least_rank p c.args.holder.now.seat.hand.offers) f.2 ((c.offer-answered_true.ensures.least all).0 yes)))

pub returns-in-None : goal.returns-in-None
returns-in-None c =
    let s = c.args.self.now.scope.now in
    let rank : ℕ = c.args.base + c.args.offset in
    subst (λ ps. HasTried (place_in s) ps c.args.holder.now c.args.holder.now)
    (sym (ap (λ l. map (λ a. (rank, a)) l) c.in-None.ensures.none)) (tried_none (place_in s) c.args.holder.now)
