use Rattle.std.proofs.Common.{◌≡◌, ◌∙◌, ◌+◌, ◌-◌, ◌*◌, ◌/◌, ◌<◌, ◌≤◌, ℕ, arith, subst, vec_len}
use Rattle.g1_words.proofs.Ordered.{Ordered-from_pairs}
use Rattle.g1_frontier.specs.Scope.{place_in, pairs_in, all_pairs_in}
use Rattle.g1_frontier.proofs.Assembly.{RankLess, all_back, count_back, given_seats, whole_round}
use Rattle.g1_frontier.proofs.Pieces.{enough, no_more_than, none_empty}
use Rattle.g1_frontier.proofs.Spans.{whole_spans}
use Rattle.g1_frontier.specs.Items.{items_of}
use Rattle.g1_frontier.proofs.round.offer_all.Goals as goal

pub take_in-requires-clause-some : goal.take_in-requires-clause-some
take_in-requires-clause-some g c =
    let s = c.args.scope.now in
    let count = count_back c.args.claims.now (place_in s) (pairs_in s) c.chunk-chunk.result (items_of c.args.sought) _ (λ s k t o r. r.0) _ c.args.seat _ _ _ _
    c.in_ok-holders.ensures c.in_ok-holders-2.ensures.ok in
    omega (arith, count, c.in_ok-holders-2.holders.ok, c.for_chunks-team.ensures.range.0)

pub take_in-requires-clause-seats : goal.take_in-requires-clause-seats
take_in-requires-clause-seats g c =
    let s = c.args.scope.now in
    all_back c.args.claims.now (place_in s) (pairs_in s) c.chunk-chunk.result (items_of c.args.sought) _ (λ s k t o r. r.0) _ c.args.seat _ _ _ _ c.in_ok-holders.ensures c.in_ok-holders-2.ensures.ok

pub returns-clause-ok : goal.returns-clause-ok
returns-clause-ok g c =
    let s = c.args.scope.now in
    whole_round c.args.claims.now (place_in s) (pairs_in s) c.chunk-chunk.result (items_of c.args.sought) _ (λ s k t o r. r.0) _ c.args.seat _ _ _ _ _ _
    c.in_ok-holders.ensures c.in_ok-holders-2.ensures.ok c.in_ok-seat.ensures
    (subst (λ m. m ≤ ((c.len.result + c.chunk-chunk.result) - 1) / c.chunk-chunk.result * c.chunk-chunk.result) c.len.ensures (enough c.len.result c.chunk-chunk.result c.chunk-chunk.ensures.range.0)) (Ordered-from_pairs RankLess (all_pairs_in s (items_of c.args.sought)) c.requires.rise)

pub returns-clause-spans : goal.returns-clause-spans
returns-clause-spans g c =
    let s = c.args.scope.now in
    whole_spans c.args.claims.now (place_in s) (pairs_in s) c.chunk-chunk.result (items_of c.args.sought) _ (λ s k t o r. r) _ c.args.seat _ _ _ _ _ _
    c.in_ok-holders.ensures c.in_ok-holders-2.ensures.ok c.in_ok-seat.ensures (Ordered-from_pairs RankLess (all_pairs_in s (items_of c.args.sought)) c.requires.rise)

pub give_out-requires : goal.give_out-requires
give_out-requires g c = record { seat = c.requires.seat }

pub each_chunk-requires-clause-chunks : goal.each_chunk-requires-clause-chunks
each_chunk-requires-clause-chunks g c κs within =
    let few = no_more_than c.len.result c.chunk-chunk.result c.chunk-chunk.ensures.range.0 in omega (arith, few, c.requires.few, c.len.ensures)

pub each_chunk-requires-clause-workers : goal.each_chunk-requires-clause-workers
each_chunk-requires-clause-workers g c κs within =
    let count : vec_len c.in_ok-holders.holders ≡ c.for_chunks-team.result.workers = c.in_ok-holders.holders.ok.0 ∙ c.in_ok-holders.ensures.count_is in
    (omega (arith, count, c.for_chunks-team.ensures.range.0), omega (arith, count, c.for_chunks-team.ensures.range.1))

pub each_chunk-requires-clause-ready : goal.each_chunk-requires-clause-ready
each_chunk-requires-clause-ready g c κs within = λ k d lt chunk below.
    let n : ℕ = c.len.result in
    let size : ℕ = c.chunk-chunk.result in
    let range = c.chunk-chunk.ensures.range in
    let few = no_more_than n size range.0 in (
      c.requires.places,
      given_seats c.args.claims.now c.args.seat c.for_chunks-team.result.workers c.in_ok-holders.holders.items c.in_ok-holders.ensures k d lt,
      c.requires.items,
      c.requires.paired,
      c.requires.ranks,
      range.0,
      subst (λ m. chunk * size < m) c.len.ensures (none_empty n size chunk range.0 below),
      omega (arith, below, few, c.requires.few, c.len.ensures),
      range.1,
    )
