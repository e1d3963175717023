use Rattle.std.proofs.Common.{◌^◌, refl, subst, arith}
use Rattle.std.specs.Borrow.{Bor}
use Rattle.std.specs.List.{AllZip, Any}
use Rattle.std.proofs.lemmas.List.{take_all}
use Rattle.std.proofs.lemmas.Result.{err_from_is_err_and}
use Rattle.clap.specs.Words.{Text, found_of}
use Rattle.g1_command.specs.Values.{IsBelow, IsRegion}
use Rattle.g1_command.proofs.Got.{because_so, texts_got, zipped_texts, zip_step, wrong_text}
use Rattle.g1_command.proofs.values.regions.Goals as goal

pub loop-text-preserved : goal.loop-text-preserved
loop-text-preserved c =
    zip_step _ _ _ c.unwrap_or-text-items.result.now c.loop-text.text-index _ c.loop-text-test.true c.in_ok-push.ensures.items c.loop-text.invariant c.in_ok-region_in.ensures.region

pub returns-in_err-region_in-clause-refused : goal.returns-in_err-region_in-clause-refused
returns-in_err-region_in-clause-refused c =
    let p = err_from_is_err_and c.from_residual.result c.from_residual.ensures.1 in
    let texts = texts_got (found_of c.args.values.now) c.args.argument.now.id.now c.get_strs.result c.unwrap_or-text-items.result _ c.get_strs.ensures c.unwrap_or-text-items.ensures refl in
    rw (p.1, p.2) (because_so
    (λ bad. subst (Any (λ text. IsBelow (2 ^ 32) text → ⊥)) texts (wrong_text (λ text. IsBelow (2 ^ 32) text → ⊥) c.unwrap_or-text-items.result.now c.loop-text.text-index _ c.loop-text-test.true bad))
    c.in_err-region_in.field-0.0 c.in_err-region_in.ensures.refused)

pub returns-clause-regions : goal.returns-clause-regions
returns-clause-regions c =
    let xs = c.unwrap_or-text-items.result.now in
    let all = subst (AllZip (λ r (s : Bor Text). IsRegion r s.now) c.loop-text.regions.items) (take_all c.loop-text.text-index xs (omega (arith, c.loop-text-test.false))) c.loop-text.invariant in
    subst (AllZip IsRegion c.loop-text.regions.items)
    (texts_got (found_of c.args.values.now) c.args.argument.now.id.now c.get_strs.result c.unwrap_or-text-items.result _ c.get_strs.ensures c.unwrap_or-text-items.ensures refl)
    (zipped_texts c.loop-text.regions.items xs all)
