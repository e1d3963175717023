use Rattle.std.proofs.Common.{map, ap, ◌∙◌, arith}
use Rattle.std.proofs.lemmas.Result.{err_from_is_err_and}
use Rattle.g1_image.specs.Plain.{front_text}
use Rattle.g1_image.proofs.Files.{front_dropped}
use Rattle.g1_image.proofs.decoding.front_of.Goals as goal

pub returns-clause-text : goal.returns-clause-text
returns-clause-text c =
    let f = c.in_ok-front.front in
    let sets = map (λ s. s.items) f.remembered.items in
    let text = c.in_ok-front.ensures.ok.1 in
    text ∙ ap (λ l. front_text f.version f.heading f.table.items f.roots.items f.log.items sets l)
    (front_dropped f.version f.heading f.table.items f.roots.items f.log.items sets c.in_ok-front.rest.now c.args.bytes.now text)

pub returns-in_err-front-clause-err : goal.returns-in_err-front-clause-err
returns-in_err-front-clause-err c =
    let left = err_from_is_err_and c.from_residual.result c.from_residual.ensures.1 in
    rw (left.1, left.2) c.in_err-front.ensures.err

pub returns-clause-ok : goal.returns-clause-ok
returns-clause-ok c = c.in_ok-front.ensures.ok.0

pub returns-clause-count : goal.returns-clause-count
returns-clause-count c = omega arith

pub returns-in_err-front-clause-stage : goal.returns-in_err-front-clause-stage
returns-in_err-front-clause-stage c =
    let left = err_from_is_err_and c.from_residual.result c.from_residual.ensures.1 in
    rw (left.1, left.2) (c.in_err-front.ensures.stage)
