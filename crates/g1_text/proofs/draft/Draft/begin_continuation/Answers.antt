use Rattle.std.proofs.Common.{length, arith}
use Rattle.std.proofs.lemmas.Result.{err_from_is_err_and}
use Rattle.g1_text.specs.Drafts.{content}
use Rattle.g1_text.proofs.Results.{ok_one, not_both}
use Rattle.g1_text.proofs.Skipping.{goes_length, region_there}
use Rattle.g1_text.proofs.draft.Draft.begin_continuation.Goals as goal

pub returns-in_err-number-clause-goes : goal.returns-in_err-number-clause-goes
returns-in_err-number-clause-goes c = λ on e first goes count lt some.
    let s = content c.args.self.now in
    let l = goes_length s on e goes in
    absurd (not_both c.in_err-number.was (region_there c.args.told (length s.regions) (length e.regions) c.args.self.now.geometry.n c.region_number.result c.region_number.ensures.told c.region_number.ensures.next count
    (λ none. let z = first none in omega (arith, l, z)) (omega (arith, l)) lt))

pub returns-in_err-continue_run_to-clause-goes : goal.returns-in_err-continue_run_to-clause-goes
returns-in_err-continue_run_to-clause-goes c = λ on e first goes count lt some.
    let s = content c.args.self.now in
    let l = goes_length s on e goes in
    let there = ok_one c.in_ok-number.was (region_there c.args.told (length s.regions) (length e.regions) c.args.self.now.geometry.n c.region_number.result c.region_number.ensures.told c.region_number.ensures.next count
    (λ none. let z = first none in omega (arith, l, z)) (omega (arith, l)) lt) in
    let left = err_from_is_err_and c.from_residual-in_err-continue_run_to.result c.from_residual-in_err-continue_run_to.ensures.1 in
    rw (left.1, left.2) (c.in_err-continue_run_to.ensures.goes on e (omega (arith, l, there)) goes some)

pub returns-clause-goes : goal.returns-clause-goes
returns-clause-goes c = λ on e first goes count lt some.
    let s = content c.args.self.now in
    let l = goes_length s on e goes in
    let there = ok_one c.in_ok-number.was (region_there c.args.told (length s.regions) (length e.regions) c.args.self.now.geometry.n c.region_number.result c.region_number.ensures.told c.region_number.ensures.next count
    (λ none. let z = first none in omega (arith, l, z)) (omega (arith, l)) lt) in
    (there, c.in_ok-continue_run_to.ensures.goes on e (omega (arith, l, there)) goes some)
