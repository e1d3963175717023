use Rattle.std.proofs.Common.{arith, subst, sym, ◌∙◌, ◌<◌, ℕ, All}
use Rattle.std.specs.List.{flat_map}
use Rattle.std.proofs.lemmas.Result.{err_from_is_err_and}
use Rattle.g1_deal.specs.Dealer.{IsEachBelow}
use Rattle.g1_work.specs.Each.{IsEachRun, IsFaultOf, RisesBelow, chunks_of}
use Rattle.g1_work.proofs.Whole.{has_all, few_parts, each_below, all_rise, each_run, ready_each, are_of, fault_of}
use Rattle.g1_work.proofs.each.each_chunk.Goals as goal

pub run_all-requires-after_bounds : goal.run_all-requires-after_bounds
run_all-requires-after_bounds g c κs within = λ k d lt. let h = c.in_ok-workers.ensures in let s = h.seats k d lt in let n = c.in_ok-dealer.ensures.chunks in
    record {
      seat = s.0;
      none = s.1;
      may_run = (λ chunk below. ready_each (λ (t : g.row.T-State.Denot). (i : ℕ) → i < c.args.chunks →
          g.T.Task.ready c.args.task.now t i) _ _ h.of_states c.requires.ready k d lt chunk (omega arith));
    }

pub gather-requires-clause-seats : goal.gather-requires-clause-seats
gather-requires-clause-seats g c = are_of _ _ _ _ _ c.in_ok-results.ensures

pub close-requires-clause-whole : goal.close-requires-clause-whole
close-requires-clause-whole g c = has_all _ _ _ _ _ _ _ c.in_ok-workers.ensures c.in_ok-results.ensures c.in_ok-seat.ensures.ok

pub in_order-requires : goal.in_order-requires
in_order-requires g c =
    let n = c.in_ok-dealer.ensures.chunks in
    let brought = c.in_ok-seat.field-0.parts in
    let few = few_parts _ _ _ _ _ _ _ c.in_ok-workers.ensures c.in_ok-results.ensures c.in_ok-seat.ensures.ok (omega (arith, c.requires.workers.1, c.args.states.ok.0)) in
    let each = each_below _ _ _ _ _ _ _ c.in_ok-workers.ensures c.in_ok-results.ensures c.in_ok-seat.ensures.ok _ (omega arith) c.close.ensures.known c.close.ensures.draws in
    let rise = all_rise _ _ _ _ _ _ _ c.in_ok-workers.ensures c.in_ok-results.ensures c.in_ok-seat.ensures.ok in
    record {
      few = few;
      counted = c.requires.chunks;
      each = subst (λ (m : ℕ). IsEachBelow m (chunks_of (flat_map (λ p. p.items) brought.items))) n each;
      rise = subst (λ (m : ℕ). All (λ p. RisesBelow m (chunks_of p.items)) brought.items) n rise;
    }

pub returns-clause-ok : goal.returns-clause-ok
returns-clause-ok g c = subst (λ (n : ℕ). IsEachRun (g.T.Task.runs c.args.task.now) n c.args.states.items c.in_ok-seat.field-0.states.items c.in_ok-outs.outs.items) c.in_ok-dealer.ensures.chunks
    (each_run _ _ _ _ _ _ _ c.in_ok-workers.ensures c.in_ok-results.ensures c.in_ok-seat.ensures.ok _ (c.in_ok-outs.ensures.0, c.in_ok-outs.ensures.1 ∙ sym c.in_ok-dealer.ensures.chunks))

pub returns-in_err-seat-clause-err : goal.returns-in_err-seat-clause-err
returns-in_err-seat-clause-err g c =
    let p = err_from_is_err_and c.from_residual-in_err-seat.result c.from_residual-in_err-seat.ensures.1 in
    rw (p.1, p.2) (subst (λ (n : ℕ). IsFaultOf (g.T.Task.may_fail c.args.task.now) n c.in_err-seat.field-0.0) c.in_ok-dealer.ensures.chunks
    (fault_of _ _ _ _ _ c.in_ok-results.ensures _ c.in_err-seat.ensures.err))
