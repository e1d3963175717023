use Rattle.std.proofs.Common.{[], subst}
use Rattle.std.specs.Prelude.{IfErr, IfOk, codes}
use Rattle.g1_command.specs.Lists.{AreRegionsIn}
use Rattle.g1heap_request.proofs.Got.{no_lists, no_texts, some_texts}
use Rattle.clap.specs.Words.{found_of}
use Rattle.g1_command.specs.Values.{Because}
use Rattle.g1heap_request.specs.Wrong.{NameNone}
use Rattle.g1heap_request.specs.Wrong.HasWrongValue.{no_set}
use Rattle.g1heap_request.proofs.Checked.{refused_so}
use Rattle.g1heap_request.proofs.options.set_of.Goals as goal

pub returns-in-Some-clause-set : goal.returns-in-Some-clause-set
returns-in-Some-clause-set c =
    subst (λ lists. IfOk c.regions_in.result (λ v. AreRegionsIn lists v.items)) (some_texts (found_of c.args.values.now) (codes "set") c.get_strs.result c.get_strs.ensures c.in-Some.lists c.in-Some.is) c.regions_in.ensures.regions

pub returns-in-None-clause-set : goal.returns-in-None-clause-set
returns-in-None-clause-set c =
    rw (c.new.ensures.items) (subst (λ lists. AreRegionsIn lists []) (no_texts (found_of c.args.values.now) (codes "set") c.get_strs.result c.get_strs.ensures c.in-None.is) no_lists)

pub returns-in-Some-clause-refused : goal.returns-in-Some-clause-refused
returns-in-Some-clause-refused c =
    refused_so no_set c.regions_in.result
    (subst (λ lists. IfErr c.regions_in.result (Because (NameNone lists))) (some_texts (found_of c.args.values.now) (codes "set") c.get_strs.result c.get_strs.ensures c.in-Some.lists c.in-Some.is) c.regions_in.ensures.refused)
