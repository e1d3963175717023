use Rattle.std.proofs.Common.{ℕ, Err, ◌∙◌, sym, subst, ap}
use Rattle.std.proofs.lemmas.Result.{err_from_is_err_and}
use Rattle.g1_image.specs.Image.{Image}
use Rattle.g1_pause.proofs.Refused.{named_refused}
use Rattle.g1_pause.proofs.Chosen.{given_set}
use Rattle.g1_pause.specs.Bought.{IsListed}
use Rattle.g1_pause.proofs.choosing.collection_set.Goals as goal

pub returns-in_err-regions-in-Given-clause-refused : goal.returns-in_err-regions-in-Given-clause-refused
returns-in_err-regions-in-Given-clause-refused g c =
    let p = err_from_is_err_and c.from_residual.result c.from_residual.ensures.1 in
    rw (p.1, p.2) (named_refused {X = ℕ} c.args.settings.now.choice c.args.before.now.heap c.heap.result.now c.in-Given.list c.deref.result.now
    (Err c.in_err-regions-in-Given.field-0.0) (sym c.choice.ensures ∙ c.in-Given.is) (c.heap.ensures.same ∙ ap (λ (j : Image). j.heap) c.image.ensures.same)
    c.deref.ensures.value c.in_err-regions-in-Given.ensures.err)

pub returns-in_ok-regions-in-Given-clause-set : goal.returns-in_ok-regions-in-Given-clause-set
returns-in_ok-regions-in-Given-clause-set g c =
    given_set c.args.settings.now.cost c.args.settings.now.choice c.args.before.now c.heap.result.now c.in-Given.list c.deref.result.now c.in_ok-regions-in-Given.regions.items
    (sym c.choice.ensures ∙ c.in-Given.is) (c.heap.ensures.same ∙ ap (λ (j : Image). j.heap) c.image.ensures.same) c.deref.ensures.value
    c.in_ok-regions-in-Given.ensures.accepted c.in_ok-regions-in-Given.ensures.rising

pub returns-in_ok-regions-in-Given-clause-listed : goal.returns-in_ok-regions-in-Given-clause-listed
returns-in_ok-regions-in-Given-clause-listed g c = subst IsListed (sym (sym c.choice.ensures ∙ c.in-Given.is)) tt
