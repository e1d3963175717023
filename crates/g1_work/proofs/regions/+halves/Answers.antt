use Rattle.std.proofs.Common.{◌/◌, ◌≤◌, arith, rules, subst}
use Rattle.std.proofs.Math.Nat.{mul-le-mul_left, mul-le-mul_right}
use Rattle.g1_work.specs.Regions.{IsFilled}
use Rattle.g1_work.proofs.Slices.{at_most, shares, front_cut, back_cut, filled_both}
use Rattle.g1_work.proofs.regions.+halves.Goals as goal

pub fill_span-overflow_mul-here : goal.fill_span-overflow_mul-here
fill_span-overflow_mul-here g t c =
    let low : c.args.span.runs / 2 ≤ c.args.span.runs = omega arith in
    let part = mul-le-mul_left (c.args.span.count / c.args.span.runs) low in
    record { fits = omega (arith, part, c.requires.runs.0) }

pub fill_span-overflow_add-here : goal.fill_span-overflow_add-here
fill_span-overflow_add-here g t c =
    let s = shares c.args.span.count c.args.span.runs c.min.result c.requires.runs.0 c.requires.runs.1 c.if-span-eq1.false (at_most _ _ _ c.min.ensures) in
    record { fits = omega (arith, s.fits) }

pub fill_span-fill_run-requires : goal.fill_span-fill_run-requires
fill_span-fill_run-requires g t c = c.requires.cut

pub fill_span-fill_both-requires-clause-front_runs : goal.fill_span-fill_both-requires-clause-front_runs
fill_span-fill_both-requires-clause-front_runs g t c κs within =
    let s = shares c.args.span.count c.args.span.runs c.min.result c.requires.runs.0 c.requires.runs.1 c.if-span-eq1.false (at_most _ _ _ c.min.ensures) in
    (omega (arith, c.requires.runs.0, c.if-span-eq1.false), s.some)

pub fill_span-fill_both-requires-clause-front_named : goal.fill_span-fill_both-requires-clause-front_named
fill_span-fill_both-requires-clause-front_named g t c κs within = omega (arith, c.requires.named)

pub fill_span-fill_both-requires-clause-back_named : goal.fill_span-fill_both-requires-clause-back_named
fill_span-fill_both-requires-clause-back_named g t c κs within = omega (arith, c.requires.named)

pub fill_span-overflow_mul-here-2 : goal.fill_span-overflow_mul-here-2
fill_span-overflow_mul-here-2 g t c =
    let s = shares c.args.span.count c.args.span.runs c.min.result c.requires.runs.0 c.requires.runs.1 c.if-span-eq1.false (at_most _ _ _ c.min.ensures) in
    let h = mul-le-mul_right c.args.writer.now.width s.fits in
    record { fits = omega arith }

pub fill_span-split_at_mut-a-requires : goal.fill_span-split_at_mut-a-requires
fill_span-split_at_mut-a-requires g t c =
    let s = shares c.args.span.count c.args.span.runs c.min.result c.requires.runs.0 c.requires.runs.1 c.if-span-eq1.false (at_most _ _ _ c.min.ensures) in
    let h = mul-le-mul_right c.args.writer.now.width s.fits in
    omega arith

pub fill_span-fill_both-requires-clause-front : goal.fill_span-fill_both-requires-clause-front
fill_span-fill_both-requires-clause-front g t c κs within =
    let s = shares c.args.span.count c.args.span.runs c.min.result c.requires.runs.0 c.requires.runs.1 c.if-span-eq1.false (at_most _ _ _ c.min.ensures) in
    front_cut _ _ _ _ _ _ _ _ s.fits c.split_at_mut-a.ensures.value c.split_at_mut-a.ensures.front_len c.requires.cut

pub fill_span-fill_both-requires-clause-back_runs :
    goal.fill_span-fill_both-requires-clause-back_runs
fill_span-fill_both-requires-clause-back_runs g t c κs within =
    let s = shares c.args.span.count c.args.span.runs c.min.result c.requires.runs.0 c.requires.runs.1 c.if-span-eq1.false (at_most _ _ _ c.min.ensures) in
    (s.others, s.left)

pub fill_span-fill_both-requires-clause-back : goal.fill_span-fill_both-requires-clause-back
fill_span-fill_both-requires-clause-back g t c κs within =
    let s = shares c.args.span.count c.args.span.runs c.min.result c.requires.runs.0 c.requires.runs.1 c.if-span-eq1.false (at_most _ _ _ c.min.ensures) in
    back_cut _ _ _ _ _ _ _ _ s.fits c.split_at_mut-a.ensures.value c.split_at_mut-a.ensures.front_len c.requires.cut

pub fill_span-returns : goal.fill_span-returns
fill_span-returns g t c =
    let s = shares c.args.span.count c.args.span.runs c.min.result c.requires.runs.0 c.requires.runs.1 c.if-span-eq1.false (at_most _ _ _ c.min.ensures) in
    filled_both _ _ _ _ _ _ _ _ _ _ s.fits c.split_at_mut-a.ensures.value c.split_at_mut-a.ensures.front_len c.fill_both.ensures.front c.fill_both.ensures.back

pub fill_both-returns-clause-front : goal.fill_both-returns-clause-front
fill_both-returns-clause-front g t c = subst (IsFilled _ _ _ _ _) (search rules) c.join_mut.ensures.0.met.1

pub fill_both-returns-clause-back : goal.fill_both-returns-clause-back
fill_both-returns-clause-back g t c = subst (IsFilled _ _ _ _ _) (search rules) c.join_mut.ensures.1.met.1
