use Rattle.std.specs.Prelude.{codes}
use Rattle.clap.specs.Words.{found_of}
use Rattle.std.proofs.Common.{[], sym, subst}
use Rattle.std.specs.Prelude.{IfErr, IfOk, option_to_list}
use Rattle.g1_command.proofs.Got.{none_got, one_got}
use Rattle.g1_command.specs.Lists.{AreRegionsIn}
use Rattle.g1heap_request.proofs.Got.{no_lists}
use Rattle.std.proofs.lemmas.Result.{err_from_is_err_and}
use Rattle.g1_command.proofs.Got.{because_so}
use Rattle.g1heap_request.specs.Wrong.HasWrongValue.{alone, no_young}
use Rattle.g1heap_request.specs.Together.LacksAnother.{young}
use Rattle.g1_command.specs.Values.{Because}
use Rattle.g1heap_request.specs.Wrong.{NameNone}
use Rattle.g1heap_request.proofs.Checked.{on_ok, refused_so}
use Rattle.g1heap_request.proofs.options.young_of.Goals as goal

pub returns-in-None-clause-young : goal.returns-in-None-clause-young
returns-in-None-clause-young c =
    rw (c.new.ensures.items) (subst (λ lists. AreRegionsIn (option_to_list lists) []) (sym (none_got (found_of c.args.values.now) (codes "young") c.get_str.result c.get_str.ensures c.in-None.is)) no_lists)

pub returns-in-Some-clause-young : goal.returns-in-Some-clause-young
returns-in-Some-clause-young c =
    subst (λ lists. IfOk c.regions_in.result (λ v. AreRegionsIn (option_to_list lists) v.items))
    (sym (one_got (found_of c.args.values.now) (codes "young") c.get_str.result c.get_str.ensures c.in-Some.list c.in-Some.is)) c.regions_in.ensures.regions

pub returns-in_err-need_flag-clause-refused : goal.returns-in_err-need_flag-clause-refused
returns-in_err-need_flag-clause-refused c =
    let p = err_from_is_err_and c.from_residual.result c.from_residual.ensures.1 in
    rw (p.1, p.2) (because_so (λ k. alone (young k.0 k.1)) c.in_err-need_flag.field-0.0 c.in_err-need_flag.ensures.refused)

pub returns-in-Some-clause-covers : goal.returns-in-Some-clause-covers
returns-in-Some-clause-covers c = on_ok c.regions_in.result c.in_ok-need_flag.ensures.beside

pub returns-in-Some-clause-refused : goal.returns-in-Some-clause-refused
returns-in-Some-clause-refused c =
    refused_so no_young c.regions_in.result
    (subst (λ lists. IfErr c.regions_in.result (Because (NameNone (option_to_list lists)))) (sym (one_got (found_of c.args.values.now) (codes "young") c.get_str.result c.get_str.ensures c.in-Some.list c.in-Some.is)) c.regions_in.ensures.refused)
