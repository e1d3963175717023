use Rattle.std.proofs.Common.{◌≡◌, ◌⊎◌, List, ℕ, sym, subst, ◌∙◌, append-nil}
use Rattle.std.proofs.lemmas.Result.{err_from_is_err_and}
use Rattle.g1_words.specs.declared.fault.Fault.TheVariants as fault
use Rattle.g1_image.specs.Front.{IsLaidOut}
use Rattle.g1_image.specs.Stale.{IsTextWithout, FaultWithout}
use Rattle.g1_image.proofs.Told.{memory_fault, may_without, if_ok, if_err}
use Rattle.g1_image.proofs.decoding.decode_stale.Goals as goal

pub returns-in_err-front-clause-err : goal.returns-in_err-front-clause-err
returns-in_err-front-clause-err c =
    let e = c.in_err-front.field-0.0 in
    let limits = c.args.limits in
    let left = err_from_is_err_and c.from_residual.result c.from_residual.ensures.1 in
    rw (left.1, left.2) (subst (λ l. (e ≡ fault.Memory) ⊎ FaultWithout limits l e) c.new-cursor.ensures
    (may_without limits c.new-cursor.result e c.in_err-front.ensures.stage (memory_fault limits c.new-cursor.result e c.in_err-front.ensures.err)))

pub returns-clause-ok : goal.returns-clause-ok
returns-clause-ok c =
    let is = c.in_ok-front.ensures.ok in
    let limits = c.args.limits in
    let same : is.0 ≡ c.args.bytes.now = sym is.2 ∙ append-nil c.new-cursor.result ∙ c.new-cursor.ensures in
    if_ok c.image_without.result (λ x. (bytes : List ℕ) → IsLaidOut limits bytes c.in_ok-front.front c.in_ok-front.laid.items → IsTextWithout limits bytes x.0 x.1.roots.items x.1.slots.items)
    (λ x. IsTextWithout limits c.args.bytes.now x.0 x.1.roots.items x.1.slots.items) (λ x h. subst (λ l. IsTextWithout limits l x.0 x.1.roots.items x.1.slots.items) same (h is.0 is.1)) c.image_without.ensures.ok

pub returns-clause-err : goal.returns-clause-err
returns-clause-err c =
    let is = c.in_ok-front.ensures.ok in
    let limits = c.args.limits in
    let same : is.0 ≡ c.args.bytes.now = sym is.2 ∙ append-nil c.new-cursor.result ∙ c.new-cursor.ensures in
    if_err c.image_without.result (λ e. (bytes : List ℕ) → IsLaidOut limits bytes c.in_ok-front.front c.in_ok-front.laid.items → (e ≡ fault.Memory) ⊎ FaultWithout limits bytes e)
    (λ e. (e ≡ fault.Memory) ⊎ FaultWithout limits c.args.bytes.now e) (λ e h. subst (λ l. (e ≡ fault.Memory) ⊎ FaultWithout limits l e) same (h is.0 is.1)) c.image_without.ensures.err
