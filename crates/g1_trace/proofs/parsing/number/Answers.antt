use Rattle.std.proofs.Common.{sym, subst, arith}
use Rattle.g1_trace.specs.Lines.{IsNumberEnd}
use Rattle.g1_trace.proofs.Numerals.{none_empty, none_zero, some_number}
use Rattle.g1_trace.proofs.parsing.number.Goals as goal
use Rattle.g1_trace.proofs.parsing.number.Goals.{else-bytes-eq48-via-then-bytes-eq48+else-count-gt1, else-bytes-eq48-via-else-bytes-eq48}

pub returns-then-count-eq0-clause-none : goal.returns-then-count-eq0-clause-none
returns-then-count-eq0-clause-none c = none_empty c.in-Some.read.1 c.args.bytes.now c.if-count-eq0.true c.in-Some.ensures.digits c.in-Some.ensures.end

pub returns-then-count-gt1-clause-none : goal.returns-then-count-gt1-clause-none
returns-then-count-gt1-clause-none c = none_zero c.in-Some.read.1 c.args.bytes.now c.if-bytes-eq48.true (omega (arith, c.if-count-gt1.true)) c.in-Some.ensures.within
    c.in-Some.ensures.digits c.in-Some.ensures.end

pub returns-clause-some : goal.returns-clause-some
returns-clause-some c =
    let told = some_number c.in-Some.read.1 c.args.bytes.now c.split_at.result.1.now c.in-Some.read.0 c.split_at.ensures.back (omega (arith, c.if-count-eq0.false)) c.in-Some.ensures.within
    (λ z. elim c.else-bytes-eq48.branch [
      | else-bytes-eq48-via-then-bytes-eq48+else-count-gt1 w ↦ omega (arith, w.if-count-gt1.false)
      | else-bytes-eq48-via-else-bytes-eq48 w ↦ absurd (w.if-bytes-eq48.false z)
    ]) c.in-Some.ensures.digits c.in-Some.ensures.value c.in-Some.ensures.fits in
    (told, subst IsNumberEnd (sym c.split_at.ensures.back) c.in-Some.ensures.end)
