use Rattle.std.proofs.Common.{◌≡◌, false, true, inl, inr, refl, ap, ◌∙◌, ◌++◌}
use Rattle.std.proofs.lemmas.Result.{err_from_is_err_and}
use Rattle.g1_image.specs.Text.{magic}
use Rattle.g1_image.proofs.cursor.Cursor.opening.Goals as goal

pub returns-in_err-version-clause-err : goal.returns-in_err-version-clause-err
returns-in_err-version-clause-err c =
    let same = err_from_is_err_and c.from_residual.result c.from_residual.ensures.1 in
    rw (same.1, same.2) (c.in_err-version.ensures.err c.args.limits)

pub returns-in-None-clause-err : goal.returns-in-None-clause-err
returns-in-None-clause-err c = inr (inl (c.in_ok-version.version, c.magic.new.self, c.in_ok-version.ensures.ok, c.in-None.ensures.short))

pub returns-then-not-is_good_heading-clause-err : goal.returns-then-not-is_good_heading-clause-err
returns-then-not-is_good_heading-clause-err c =
    let found = c.in-Some.ensures.found in (
      c.in_ok-version.version,
      c.in-Some.heading,
      c.heading.new.self,
      found.0,
      c.in_ok-version.ensures.ok ∙ ap (λ l. magic c.in_ok-version.version ++ l) found.1,
      λ good. let clash : false ≡ true = c.if-not-is_good_heading.ensures.1 good in cc,
    )

pub returns-else-not-is_good_heading-clause-ok : goal.returns-else-not-is_good_heading-clause-ok
returns-else-not-is_good_heading-clause-ok c =
    let found = c.in-Some.ensures.found in (
      found.0,
      c.if-not-is_good_heading.ensures.0 refl,
      c.in_ok-version.ensures.ok ∙ ap (λ l. magic c.in_ok-version.version ++ l) found.1,
    )

pub returns-in_err-version-clause-stage : goal.returns-in_err-version-clause-stage
returns-in_err-version-clause-stage c =
    let left = err_from_is_err_and c.from_residual.result c.from_residual.ensures.1 in
    rw (left.1, left.2) (c.in_err-version.ensures.stage)
