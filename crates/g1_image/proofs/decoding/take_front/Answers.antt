use Rattle.std.proofs.Common.{map, length, ap, refl, subst, ◌∙◌, arith}
use Rattle.std.proofs.KnownBytes.{Keeps-refl, Keeps-trans}
use Rattle.std.proofs.lemmas.Result.{err_from_is_err_and}
use Rattle.g1_image.specs.Ahead.{waiting}
use Rattle.g1_image.specs.Faults.{FaultWithin, MayFailWithin}
use Rattle.g1_image.proofs.Told.{read_text, read_fails, front_taken, front_fails, at_end, whatever_follows}
use Rattle.g1_image.proofs.decoding.take_front.Goals as goal
use Rattle.g1_image.proofs.decoding.take_front.Goals.{then-not-more-via-then-not-more, then-not-more-via-else-not-more+then-is_final}

pub loop-more-init : goal.loop-more-init
loop-more-init g c = record { known = c.requires.known; mark = refl; kept = Keeps-refl _; some = omega arith }

pub loop-more-preserved : goal.loop-more-preserved
loop-more-preserved g c =
    let read = c.in_ok-more.ensures.ok in
    record {
      known = c.reach.ensures.known;
      mark = read.mark ∙ c.loop-more.invariant.mark;
      kept = Keeps-trans _ _ _ c.loop-more.invariant.kept read.kept;
      some = omega (arith, read.there c.if-not-more.false, c.len-wanted.ensures.value, c.loop-more.invariant.some);
    }

pub returns-in_err-more-clause-err : goal.returns-in_err-more-clause-err
returns-in_err-more-clause-err g c =
    let left = err_from_is_err_and c.from_residual.result c.from_residual.ensures.1 in
    rw (left.1, left.2) (read_fails c.args.limits _ _ _ _ c.in_err-more.field-0.0 c.loop-more.invariant.mark c.in_err-more.ensures.err)

pub returns-in-Ok-clause-taken : goal.returns-in-Ok-clause-taken
returns-in-Ok-clause-taken g c =
    let f = c.in-Ok.front in
    let sets = map (λ s. s.items) f.remembered.items in
    front_taken f.version f.heading f.table.items f.roots.items f.log.items sets _ (g.S.Source.left c.reach.new.source) (waiting c.reach.new.self)
    c.bytes.result.now (waiting c.pass.new.self) c.in-Ok.count
    (Keeps-trans _ _ _ c.loop-more.invariant.kept c.in_ok-more.ensures.ok.kept) c.bytes.ensures.same c.in-Ok.ensures.text c.pass.ensures.left

pub returns-then-not-more-clause-err : goal.returns-then-not-more-clause-err
returns-then-not-more-clause-err g c =
    let w = waiting c.reach.new.self in
    let l = g.S.Source.left c.reach.new.source in
    let e = c.in-Err.fault in
    front_fails c.args.limits _ _ _ l w e (c.in_ok-more.ensures.ok.mark ∙ c.loop-more.invariant.mark) (Keeps-trans _ _ _ c.loop-more.invariant.kept c.in_ok-more.ensures.ok.kept)
    (subst (λ b. MayFailWithin c.args.limits b e) c.bytes.ensures.same c.in-Err.ensures.err)
    (λ (f : FaultWithin c.args.limits w e). elim c.then-not-more.branch [
      | then-not-more-via-then-not-more t ↦ at_end l w (λ b. FaultWithin c.args.limits b e) (c.in_ok-more.ensures.ok.ended t.if-not-more.true).0 f
      | then-not-more-via-else-not-more+then-is_final t ↦ whatever_follows l w (λ b. FaultWithin c.args.limits b e) (λ ys. t.is_final.ensures t.if-is_final.true c.args.limits w ys f)
    ])

pub loop-more-smaller : goal.loop-more-smaller
loop-more-smaller g c = omega (arith, c.in_ok-more.ensures.ok.there c.if-not-more.false, c.len-wanted.ensures.value, c.len-wanted.ensures.bound, c.loop-more.invariant.some)

pub overflow_mul-wanted : goal.overflow_mul-wanted
overflow_mul-wanted g c = omega (arith, c.len-wanted.ensures.bound)

pub reach-requires : goal.reach-requires
reach-requires g c = record { known = c.loop-more.invariant.known }

pub pass-requires : goal.pass-requires
pass-requires g c = omega (arith, c.in-Ok.ensures.count, ap length c.bytes.ensures.same)

pub returns-in-Ok-clause-known : goal.returns-in-Ok-clause-known
returns-in-Ok-clause-known g c = c.pass.ensures.end (g.S.Source.left c.reach.new.source) c.reach.ensures.known

pub returns-in-Ok-clause-mark : goal.returns-in-Ok-clause-mark
returns-in-Ok-clause-mark g c = c.in_ok-more.ensures.ok.mark ∙ c.loop-more.invariant.mark

pub returns-in-Ok-clause-ok : goal.returns-in-Ok-clause-ok
returns-in-Ok-clause-ok g c = c.in-Ok.ensures.ok

pub returns-in_err-more-clause-known : goal.returns-in_err-more-clause-known
returns-in_err-more-clause-known g c = c.reach.ensures.known

pub returns-then-not-more-clause-known : goal.returns-then-not-more-clause-known
returns-then-not-more-clause-known g c = c.reach.ensures.known

pub returns-in_err-more-clause-stage : goal.returns-in_err-more-clause-stage
returns-in_err-more-clause-stage g c =
    let left = err_from_is_err_and c.from_residual.result c.from_residual.ensures.1 in
    rw (left.1, left.2) (read_text _ _ c.in_err-more.field-0.0 c.in_err-more.ensures.err)

pub returns-then-not-more-clause-stage : goal.returns-then-not-more-clause-stage
returns-then-not-more-clause-stage g c = c.in-Err.ensures.stage
