use Rattle.std.proofs.Common.{◌≡◌, ◌++◌, ◌∷◌, [], ◌∙◌, ℕ, ap, sym, subst, get_or, arith}
use Rattle.std.proofs.lemmas.List.{take_all}
use Rattle.g1_claim.specs.Claims.{sight}
use Rattle.g1_claim.specs.History.{least_in}
use Rattle.g1_claim.specs.declared.rule.Hand.{Hand}
use Rattle.g1_frontier.specs.Looking.{HasLooked}
use Rattle.g1_frontier.specs.Scope.{place_in}
use Rattle.g1_frontier.proofs.Looks.{looked_none, looked_more}
use Rattle.g1_frontier.proofs.looking.still_there.Goals as goal

pub loop-pair-init : goal.loop-pair-init
loop-pair-init c = record {
  seat = c.requires.seat;
  looked = subst (HasLooked (place_in c.args.scope.now) [] c.args.seat.now c.args.seat.now) (sym c.in_ok-kept.ensures.items) (looked_none (place_in c.args.scope.now) c.args.seat.now);
}

pub loop-pair-preserved : goal.loop-pair-preserved
loop-pair-preserved c =
    let place = place_in c.args.scope.now in
    let i : ℕ = c.loop-pair.pair-index in
    let q : ℕ × ℕ = get_or c.args.pairs.now i (0, 0) in
    let inv = c.loop-pair.invariant in
    let there : c.in-Some.place ≡ place q.1 = c.in-Some.ensures.found.1 in
    let hand = c.least-word.ensures.seen in
    let sights : c.least-word.new.seat.hand.sights ≡ c.loop-pair.seat.hand.sights ++ sight (place q.1) c.least-word.result ∷ [] =
    ap (λ (h : Hand). h.sights) hand ∙ ap (λ (p : ℕ). c.loop-pair.seat.hand.sights ++ sight p c.least-word.result ∷ []) there in
    record {
      seat = c.least-word.ensures.table;
      looked = looked_more place c.args.pairs.now i (0, 0) c.least-word.result c.args.seat.now c.loop-pair.seat c.least-word.new.seat c.loop-pair.kept.items _ c.loop-pair-test.true inv.looked
          sights (ap (λ (h : Hand). h.offers) hand) (ap (λ (h : Hand). h.shares) hand) (c.least-word.ensures.table ∙ sym inv.seat)
          c.least-word.ensures.history.0 (c.least-word.ensures.history.1 ∙ ap (λ (p : ℕ). least_in p c.least-word.new.seat.seen) there) c.in_ok-keep_if.ensures;
    }

pub loop-pair-smaller : goal.loop-pair-smaller
loop-pair-smaller c = omega (arith, c.loop-pair-test.true)

pub returns : goal.returns
returns c = subst (λ l. HasLooked (place_in c.args.scope.now) l c.args.seat.now c.loop-pair.seat c.loop-pair.kept.items) (take_all c.loop-pair.pair-index c.args.pairs.now c.loop-pair-test.false) c.loop-pair.invariant.looked
