use Rattle.std.proofs.Common.{◌≡◌, ◌∙◌, ℕ, Vec, Global, arith, length, vec_len}
use Rattle.g1_frontier.specs.Scope.{place_in}
use Rattle.g1_frontier.proofs.Assembly.{given_seats, all_back, count_back}
use Rattle.g1_frontier.proofs.Pieces.{enough, none_empty}
use Rattle.g1_frontier.proofs.Looked.{none, tried, looked_over}
use Rattle.g1_frontier.proofs.looking.look_by_chunks.Goals as goal

pub give_out-requires : goal.give_out-requires
give_out-requires g c = record { seat = c.requires.seat }

pub each_chunk-requires-clause-chunks : goal.each_chunk-requires-clause-chunks
each_chunk-requires-clause-chunks g c κs within = omega (arith, c.requires.few)

pub each_chunk-requires-clause-workers : goal.each_chunk-requires-clause-workers
each_chunk-requires-clause-workers g c κs within =
    let count : vec_len c.in_ok-holders.holders ≡ c.for_chunks-team.result.workers = c.in_ok-holders.holders.ok.0 ∙ c.in_ok-holders.ensures.count_is in
    (omega (arith, count, c.for_chunks-team.ensures.range.0), omega (arith, count, c.for_chunks-team.ensures.range.1))

pub each_chunk-requires-clause-ready : goal.each_chunk-requires-clause-ready
each_chunk-requires-clause-ready g c κs within = λ k d lt chunk below.
    let n : ℕ = length c.args.pairs.now in (
      c.requires.places,
      given_seats c.args.claims.now c.args.seat c.for_chunks-team.result.workers c.in_ok-holders.holders.items c.in_ok-holders.ensures k d lt,
      c.requires.inside,
      omega arith,
      none_empty n 1024 chunk (omega arith) below,
      omega (arith, below, c.requires.few),
      omega arith,
    )

pub take_in-requires-clause-some : goal.take_in-requires-clause-some
take_in-requires-clause-some g c =
    let s = c.args.scope.now in
    let count = count_back c.args.claims.now (place_in s) none 1024 c.args.pairs.now _ (tried c.args.claims.now (place_in s) 1024 c.args.pairs.now (λ (v : Vec (ℕ × ℕ) Global). v.items) _ (λ s k t o r. r)) _ c.args.seat _ _ _ _
    c.in_ok-holders.ensures c.in_ok-holders-2.ensures.ok in
    omega (arith, count, c.in_ok-holders-2.holders.ok, c.for_chunks-team.ensures.range.0)

pub take_in-requires-clause-seats : goal.take_in-requires-clause-seats
take_in-requires-clause-seats g c =
    let s = c.args.scope.now in
    all_back c.args.claims.now (place_in s) none 1024 c.args.pairs.now _ (tried c.args.claims.now (place_in s) 1024 c.args.pairs.now (λ (v : Vec (ℕ × ℕ) Global). v.items) _ (λ s k t o r. r)) _ c.args.seat _ _ _ _
    c.in_ok-holders.ensures c.in_ok-holders-2.ensures.ok

pub returns-clause-seat : goal.returns-clause-seat
returns-clause-seat g c =
    let s = c.args.scope.now in
    let o = looked_over c.args.claims.now (place_in s) 1024 c.args.pairs.now (λ (v : Vec (ℕ × ℕ) Global). v.items) _ (λ s k t o r. r) _ c.args.seat _ _ _ _ _ _
    c.in_ok-holders.ensures c.in_ok-holders-2.ensures.ok c.in_ok-seat.ensures (enough (length c.args.pairs.now) 1024 (omega arith)) c.requires.seen in
    (c.in_ok-seat.ensures.seat, o.whole, o.offers)

pub returns-clause-won : goal.returns-clause-won
returns-clause-won g c =
    let s = c.args.scope.now in
    (looked_over c.args.claims.now (place_in s) 1024 c.args.pairs.now (λ (v : Vec (ℕ × ℕ) Global). v.items) _ (λ s k t o r. r) _ c.args.seat _ _ _ _ _ _
    c.in_ok-holders.ensures c.in_ok-holders-2.ensures.ok c.in_ok-seat.ensures (enough (length c.args.pairs.now) 1024 (omega arith)) c.requires.seen).won
