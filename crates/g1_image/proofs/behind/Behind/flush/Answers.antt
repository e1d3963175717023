use Rattle.std.proofs.Common.{◌≡◌, ◌++◌, [], take, refl, sym, ap, subst}
use Rattle.std.proofs.lemmas.Result.{err_from_is_err_and}
use Rattle.g1_image.specs.Sink.{unsent, SendFails}
use Rattle.g1_image.proofs.Sent.{fails_all}
use Rattle.g1_image.proofs.behind.Behind.flush.Goals as goal

pub returns-in_err-write_all-clause-err : goal.returns-in_err-write_all-clause-err
returns-in_err-write_all-clause-err g c =
    let same = err_from_is_err_and c.from_residual.result c.from_residual.ensures.1 in
    let end = c.args.self.now.end in
    let is : take end c.deref.result.now ≡ unsent c.args.self.now = ap (take end) c.deref.ensures.value in
    rw (same.1, same.2) (subst (λ l. SendFails (g.S.Sink.written c.args.sink.now) (g.S.Sink.written c.write_all.new.sink) l [] c.in_err-write_all.field-0.0) is
    (fails_all _ _ (take end c.deref.result.now) _ c.in_err-write_all.ensures.err))

pub returns-clause-none : goal.returns-clause-none
returns-clause-none g c = refl

pub returns-clause-room : goal.returns-clause-room
returns-clause-room g c = refl

pub returns-clause-ok : goal.returns-clause-ok
returns-clause-ok g c =
    let end = c.args.self.now.end in
    record { front = take end c.deref.result.now; bytes = c.in_ok-write_all.ensures.ok; same = ap (λ l. take end l ++ []) (sym c.deref.ensures.value) }
