use Rattle.std.proofs.Common.{◌≡◌, ◌⊎◌, ℕ, Vec, Global, ap, sym, refl, subst, ◌∙◌}
use Rattle.std.specs.Prelude.{IfSome, Err}
use Rattle.std.proofs.lemmas.Result.{err_from_is_err_and}
use Rattle.g1_words.specs.declared.fault.Fault.TheVariants as fault
use Rattle.g1_words.specs.declared.fault.Device.TheVariants as device
use Rattle.g1_image.specs.declared.front.Front.{Front}
use Rattle.g1_image.specs.Ahead.{waiting, TextFails}
use Rattle.g1_image.specs.Faults.{MayFailWithin}
use Rattle.g1_image.specs.Source.{HoldsOfLeft, IsReadOut}
use Rattle.g1_image.proofs.Told.{none_waits, read_text, read_fails, read_out_at_end, read_out_failed, not_read_out, text_mark, text_unmarked, text_may}
use Rattle.g1_image.proofs.decoding.read_parts.Goals as goal
use Rattle.g1_image.proofs.decoding.read_parts.Goals.{then-is_of_bytes+in_ok-drain-in-Err, else-is_of_bytes}
use Rattle.g1_image.proofs.decoding.read_parts.Goals.{Joined-ahead-2}
use Rattle.g1_image.proofs.decoding.read_parts.Given.{Over}

-- what a text is read into
abbrev Parts : Type 0
Parts = Front × Vec ℕ Global

pub take_parts-requires : goal.take_parts-requires
take_parts-requires g c = record { known = c.nothing-ahead.ensures.known (g.S.Source.left c.args.source.now) }

pub drain-requires : goal.drain-requires
drain-requires g c = record { known = c.in-Err.ensures.known }

pub returns-in-Ok-clause-ok : goal.returns-in-Ok-clause-ok
returns-in-Ok-clause-ok g c =
    let left = g.S.Source.left c.args.source.now in
    let is = c.in-Ok.ensures.ok in
    (is.0, is.1, subst (λ a. IfSome a (λ xs. xs ≡ is.0)) (none_waits (waiting c.nothing-ahead.result) left c.nothing-ahead.ensures.none) is.2)

pub returns-in-Ok-clause-end : goal.returns-in-Ok-clause-end
returns-in-Ok-clause-end g c = c.in-Ok.ensures.end

pub returns-in-Ok-clause-marks : goal.returns-in-Ok-clause-marks
returns-in-Ok-clause-marks g c = c.in-Ok.ensures.mark

-- a read that fails behind a fault of the bytes takes its place
drain_fails : (g : Over) (c : Joined-ahead-2 g) →
    TextFails c.args.limits (g.S.Source.failed c.args.source.now) (g.S.Source.failed c.drain.new.source) (g.S.Source.left c.args.source.now) c.in_err-drain-in-Err.field-0.0
drain_fails g c =
    read_fails c.args.limits _ _ _ _ c.in_err-drain-in-Err.field-0.0 (text_unmarked c.args.limits _ _ _ c.in-Err.fault c.in-Err.ensures.err (c.if-is_of_bytes.ensures.yes refl).1) c.in_err-drain-in-Err.ensures.err

pub returns-in_err-drain-in-Err-clause-err : goal.returns-in_err-drain-in-Err-clause-err
returns-in_err-drain-in-Err-clause-err g c =
    let same = err_from_is_err_and c.from_residual.result c.from_residual.ensures.1 in
    rw (same.1, same.2) (text_may c.args.limits _ _ _ c.in_err-drain-in-Err.field-0.0 (drain_fails g c))

pub returns-in_err-drain-in-Err-clause-end : goal.returns-in_err-drain-in-Err-clause-end
returns-in_err-drain-in-Err-clause-end g c =
    let same = err_from_is_err_and c.from_residual.result c.from_residual.ensures.1 in
    rw (same.1, same.2) (read_out_failed Parts _ _ (g.S.Source.left c.drain.new.source) c.in_err-drain-in-Err.field-0.0 c.in_err-drain-in-Err.ensures.err)

pub returns-in_err-drain-in-Err-clause-marks : goal.returns-in_err-drain-in-Err-clause-marks
returns-in_err-drain-in-Err-clause-marks g c =
    let same = err_from_is_err_and c.from_residual.result c.from_residual.ensures.1 in
    rw (same.1, same.2) (text_mark c.args.limits Parts _ _ _ c.in_err-drain-in-Err.field-0.0 (drain_fails g c))

pub returns-clause-err : goal.returns-clause-err
returns-clause-err g c =
    let left = g.S.Source.left c.args.source.now in
    let e = c.in-Err.fault in
    subst (λ a. (e ≡ fault.Device device.Input) ⊎ HoldsOfLeft a (λ xs. MayFailWithin c.args.limits xs e)) (none_waits (waiting c.nothing-ahead.result) left c.nothing-ahead.ensures.none)
    (text_may c.args.limits _ _ _ e c.in-Err.ensures.err)

pub returns-clause-end : goal.returns-clause-end
returns-clause-end g c = elim c.if-is_of_bytes.branch [
  | then-is_of_bytes+in_ok-drain-in-Err w ↦ subst (λ s. IsReadOut {X = Parts} (g.S.Source.left s) (Err c.in-Err.fault)) (sym w.source-is) (read_out_at_end {X = Parts} _ (Err c.in-Err.fault) w.in_ok-drain-in-Err.ensures.end)
  | else-is_of_bytes w ↦ not_read_out Parts _ c.in-Err.fault (w.if-is_of_bytes.ensures.no refl)
]

pub returns-clause-marks : goal.returns-clause-marks
returns-clause-marks g c =
    let marked = text_mark c.args.limits Parts _ _ _ c.in-Err.fault c.in-Err.ensures.err in
    elim c.if-is_of_bytes.branch [
      | then-is_of_bytes+in_ok-drain-in-Err w ↦ ap (λ s. g.S.Source.failed s) w.source-is ∙ w.in_ok-drain-in-Err.ensures.mark ∙ marked
      | else-is_of_bytes w ↦ ap (λ s. g.S.Source.failed s) w.source-is ∙ marked
    ]

pub returns-in_err-drain-in-Err-clause-stage : goal.returns-in_err-drain-in-Err-clause-stage
returns-in_err-drain-in-Err-clause-stage g c =
    let left = err_from_is_err_and c.from_residual.result c.from_residual.ensures.1 in
    rw (left.1, left.2) (read_text _ _ c.in_err-drain-in-Err.field-0.0 c.in_err-drain-in-Err.ensures.err)

pub returns-clause-stage : goal.returns-clause-stage
returns-clause-stage g c = c.in-Err.ensures.stage
