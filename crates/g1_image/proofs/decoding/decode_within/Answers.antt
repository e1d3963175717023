use Rattle.std.proofs.Common.{◌≡◌, List, ℕ, sym, subst, ◌∙◌, append-nil}
use Rattle.std.proofs.lemmas.Result.{err_from_is_err_and}
use Rattle.g1_image.specs.Image.{IsTextWithin}
use Rattle.g1_image.specs.Front.{IsLaidOut}
use Rattle.g1_image.specs.Faults.{MayFailWithin}
use Rattle.g1_image.proofs.Told.{memory_fault, if_ok, if_err}
use Rattle.g1_image.proofs.decoding.decode_within.Goals as goal

pub returns-in_err-front-clause-err : goal.returns-in_err-front-clause-err
returns-in_err-front-clause-err c =
    let left = err_from_is_err_and c.from_residual.result c.from_residual.ensures.1 in
    rw (left.1, left.2) (subst (λ l. MayFailWithin c.args.limits l c.in_err-front.field-0.0) c.new-cursor.ensures (memory_fault c.args.limits c.new-cursor.result c.in_err-front.field-0.0 c.in_err-front.ensures.err))

pub returns-clause-ok : goal.returns-clause-ok
returns-clause-ok c =
    let is = c.in_ok-front.ensures.ok in
    let same : is.0 ≡ c.args.bytes.now = sym is.2 ∙ append-nil c.new-cursor.result ∙ c.new-cursor.ensures in
    if_ok c.image_of.result (λ i. (bytes : List ℕ) → IsLaidOut c.args.limits bytes c.in_ok-front.front c.in_ok-front.words.items → IsTextWithin c.args.limits bytes i)
    (λ i. IsTextWithin c.args.limits c.args.bytes.now i) (λ i h. subst (λ l. IsTextWithin c.args.limits l i) same (h is.0 is.1)) c.image_of.ensures.ok

pub returns-clause-err : goal.returns-clause-err
returns-clause-err c =
    let is = c.in_ok-front.ensures.ok in
    let same : is.0 ≡ c.args.bytes.now = sym is.2 ∙ append-nil c.new-cursor.result ∙ c.new-cursor.ensures in
    if_err c.image_of.result (λ e. (bytes : List ℕ) → IsLaidOut c.args.limits bytes c.in_ok-front.front c.in_ok-front.words.items → MayFailWithin c.args.limits bytes e)
    (MayFailWithin c.args.limits c.args.bytes.now) (λ e h. subst (λ l. MayFailWithin c.args.limits l e) same (h is.0 is.1)) c.image_of.ensures.err
