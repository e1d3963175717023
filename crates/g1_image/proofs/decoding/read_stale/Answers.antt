use Rattle.std.proofs.Common.{◌≡◌, ◌⊎◌, List, ℕ, inl, inr}
use Rattle.std.proofs.lemmas.Result.{err_from_is_err_and}
use Rattle.g1_words.specs.declared.fault.Fault.TheVariants as fault
use Rattle.g1_words.specs.declared.fault.Device.TheVariants as device
use Rattle.g1_image.specs.Front.{IsLaidOut}
use Rattle.g1_image.specs.Source.{HoldsOfLeft}
use Rattle.g1_image.specs.Stale.{IsTextWithout, FaultWithout}
use Rattle.g1_image.proofs.Told.{if_ok, if_err, may_without, mark_without, read_out_at_end}
use Rattle.g1_image.proofs.decoding.read_stale.Goals as goal

pub returns-in_err-front-clause-err : goal.returns-in_err-front-clause-err
returns-in_err-front-clause-err g c =
    let e = c.in_err-front.field-0.0 in
    let left = err_from_is_err_and c.from_residual.result c.from_residual.ensures.1 in
    rw (left.1, left.2) (elim c.in_err-front.ensures.err [
      | inl d ↦ inl d
      | inr h ↦ inr (h.0, may_without c.args.limits h.0 e c.in_err-front.ensures.stage h.1, h.2)
    ])

pub returns-in_err-front-clause-end : goal.returns-in_err-front-clause-end
returns-in_err-front-clause-end g c =
    let left = err_from_is_err_and c.from_residual.result c.from_residual.ensures.1 in
    rw (left.1, left.2) c.in_err-front.ensures.end

pub returns-in_err-front-clause-marks : goal.returns-in_err-front-clause-marks
returns-in_err-front-clause-marks g c =
    let left = err_from_is_err_and c.from_residual.result c.from_residual.ensures.1 in
    rw (left.1, left.2) c.in_err-front.ensures.marks

pub returns-clause-ok : goal.returns-clause-ok
returns-clause-ok g c =
    let left = g.S.Source.left c.args.source.now in
    let is = c.in_ok-front.ensures.ok in
    if_ok c.image_without.result (λ x. (bytes : List ℕ) → IsLaidOut c.args.limits bytes c.in_ok-front.front c.in_ok-front.words.items → IsTextWithout c.args.limits bytes x.0 x.1.roots.items x.1.slots.items)
    (λ x. HoldsOfLeft left (λ xs. IsTextWithout c.args.limits xs x.0 x.1.roots.items x.1.slots.items)) (λ x h. (is.0, h is.0 is.1, is.2)) c.image_without.ensures.ok

pub returns-clause-err : goal.returns-clause-err
returns-clause-err g c =
    let left = g.S.Source.left c.args.source.now in
    let is = c.in_ok-front.ensures.ok in
    if_err c.image_without.result (λ e. (bytes : List ℕ) → IsLaidOut c.args.limits bytes c.in_ok-front.front c.in_ok-front.words.items → (e ≡ fault.Memory) ⊎ FaultWithout c.args.limits bytes e)
    (λ e. (e ≡ fault.Device device.Input) ⊎ HoldsOfLeft left (λ xs. (e ≡ fault.Memory) ⊎ FaultWithout c.args.limits xs e))
    (λ e h. inr (is.0, h is.0 is.1, is.2)) c.image_without.ensures.err

pub returns-clause-end : goal.returns-clause-end
returns-clause-end g c = read_out_at_end _ c.image_without.result c.in_ok-front.ensures.end

pub returns-clause-marks : goal.returns-clause-marks
returns-clause-marks g c =
    let is = c.in_ok-front.ensures.ok in
    mark_without c.args.limits _ _ is.0 c.image_without.result
    (if_err c.image_without.result (λ e. (bytes : List ℕ) → IsLaidOut c.args.limits bytes c.in_ok-front.front c.in_ok-front.words.items → (e ≡ fault.Memory) ⊎ FaultWithout c.args.limits bytes e)
    (λ e. (e ≡ fault.Memory) ⊎ FaultWithout c.args.limits is.0 e) (λ e h. h is.0 is.1) c.image_without.ensures.err)
    c.in_ok-front.ensures.marks
