use Rattle.std.proofs.lemmas.Result.{err_from_is_err_and}
use Rattle.clap.specs.Words.{found_of}
use Rattle.g1_command.specs.Values.{IsRegion}
use Rattle.g1_command.proofs.Got.{nothing_got, some_got, wrong_region}
use Rattle.g1_command.proofs.values.region.Goals as goal

pub returns-in-None-clause-region : goal.returns-in-None-clause-region
returns-in-None-clause-region c = nothing_got (found_of c.args.values.now) c.args.argument.now.id.now c.get_str.result c.get_str.ensures IsRegion c.in-None.is

pub returns-in_ok-region_in-in-Some-clause-region : goal.returns-in_ok-region_in-in-Some-clause-region
returns-in_ok-region_in-in-Some-clause-region c =
    let one = c.in_ok-region_in-in-Some in
    some_got (found_of c.args.values.now) c.args.argument.now.id.now c.get_str.result c.get_str.ensures c.in-Some.text c.in-Some.is IsRegion one.field-0 one.ensures.region

pub returns-in_err-region_in-in-Some-clause-refused : goal.returns-in_err-region_in-in-Some-clause-refused
returns-in_err-region_in-in-Some-clause-refused c =
    let p = err_from_is_err_and c.from_residual.result c.from_residual.ensures.1 in
    let bad = c.in_err-region_in-in-Some in
    rw (p.1, p.2) (wrong_region (found_of c.args.values.now) c.args.argument.now.id.now c.get_str.result c.get_str.ensures c.in-Some.text c.in-Some.is bad.field-0.0 bad.ensures.refused)
