use Rattle.std.proofs.Common.{arith, ap, ◌∙◌, ◌++◌, ◌∷◌, [], Result}
use Rattle.g1_work.proofs.Gathering.{begins, goes_on, seat_next, fault_next, ends}
use Rattle.std.proofs.lemmas.List.{nil_from_length}
use Rattle.std.proofs.lemmas.Result.{err_from_is_err_and}
use Rattle.g1_work.specs.declared.worker.Worked.{Worked}
use Rattle.g1_words.specs.declared.fault.Fault.{Fault}
use Rattle.g1_work.proofs.gather.gather.Goals as goal

pub loop-found-init : goal.loop-found-init
loop-found-init g c = begins _ _ _ _ _ (c.in-Some.ensures.items ∙ ap (λ (r : Result (Worked g.row.S.Denot g.row.O.Denot) Fault). c.pop.new.self.items
    ++ r ∷ []) c.in_ok-first.was) c.requires.seats c.in_ok-gathered.ensures

pub returns-in_err-found-clause-err : goal.returns-in_err-found-clause-err
returns-in_err-found-clause-err g c =
    let p = err_from_is_err_and c.from_residual-in_err-found.result c.from_residual-in_err-found.ensures.1 in
    rw (p.1, p.2) (fault_next _ _ _ _ _ _ c.loop-found.invariant (c.in-Some-pop.ensures.items
    ∙ ap (λ (r : Result (Worked g.row.S.Denot g.row.O.Denot) Fault). c.pop-in-loop-found.new.self.items ++ r ∷ []) c.in_err-found.was))

pub add-requires-clause-seat : goal.add-requires-clause-seat
add-requires-clause-seat g c = c.loop-found.invariant.gathered.seat_of

pub add-requires-clause-other : goal.add-requires-clause-other
add-requires-clause-other g c = seat_next _ _ _ _ _ _ c.loop-found.invariant (c.in-Some-pop.ensures.items
    ∙ ap (λ (r : Result (Worked g.row.S.Denot g.row.O.Denot) Fault). c.pop-in-loop-found.new.self.items ++ r ∷ []) c.in_ok-found.was) c.requires.seats

pub loop-found-smaller : goal.loop-found-smaller
loop-found-smaller g c = omega (arith, c.in-Some-pop.ensures.len)

pub loop-found-preserved : goal.loop-found-preserved
loop-found-preserved g c = goes_on _ _ _ _ _ _ _ c.loop-found.invariant (c.in-Some-pop.ensures.items
    ∙ ap (λ (r : Result (Worked g.row.S.Denot g.row.O.Denot) Fault). c.pop-in-loop-found.new.self.items ++ r ∷ []) c.in_ok-found.was) c.in_ok-add.ensures

pub returns-clause-ok : goal.returns-clause-ok
returns-clause-ok g c = ends _ _ _ _ c.loop-found.invariant (nil_from_length _ (omega (arith, c.in_default-pop.ensures.cases, c.loop-found.results.ok)))
