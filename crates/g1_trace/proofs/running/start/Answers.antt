use Rattle.std.proofs.Common.{◌≡◌, ◌⊎◌, ◌<◌, ◌≤◌, inl, inr, ◌∙◌, ap, subst, arith}
use Rattle.std.proofs.lemmas.Result.{IfErr-weaker, IfOk-weaker}
use Rattle.g1_words.specs.Geometry.{Geometry, IsWithinLimits, most_roots}
use Rattle.g1_words.specs.declared.fault.Fault.TheVariants.{Memory, Geometry as Outside}
use Rattle.g1_trace.specs.Run.{empty_image}
use Rattle.g1_trace.specs.Running.{IsHeapSize}
use Rattle.g1_trace.proofs.running.start.Goals as goal

pub returns-in-Ok-clause-ok : goal.returns-in-Ok-clause-ok
returns-in-Ok-clause-ok c =
    let geometry : c.in-Ok.geometry ≡ record { w = c.args.w; k = c.args.k; n = c.args.n } = (λ t. record { w = c.in-Ok.ensures.ok.0 t; k = c.in-Ok.ensures.ok.1 t; n = c.in-Ok.ensures.ok.2 t }) in
    IfOk-weaker c.new-in-Ok.result _ (λ m. m ≡ empty_image (record { w = c.args.w; k = c.args.k; n = c.args.n }) c.args.roots) (λ m made. made.0
    ∙ ap (λ (x : Geometry). empty_image x c.args.roots) geometry) c.new-in-Ok.ensures.ok

pub returns-in-Ok-clause-limits : goal.returns-in-Ok-clause-limits
returns-in-Ok-clause-limits c =
    let geometry : c.in-Ok.geometry ≡ record { w = c.args.w; k = c.args.k; n = c.args.n } = (λ t. record { w = c.in-Ok.ensures.ok.0 t; k = c.in-Ok.ensures.ok.1 t; n = c.in-Ok.ensures.ok.2 t }) in
    IfOk-weaker c.new-in-Ok.result (λ m. (m ≡ empty_image c.in-Ok.geometry c.args.roots) × (c.args.roots ≤ most_roots)) (λ m. IsHeapSize (record { w = c.args.w; k = c.args.k; n = c.args.n }) c.args.roots)
    (λ m made. record { sizes = subst (λ (x : Geometry). IsWithinLimits x.w x.k x.n) geometry c.in-Ok.ensures.limits; roots = made.1 }) c.new-in-Ok.ensures.ok

pub returns-in-Ok-clause-refused : goal.returns-in-Ok-clause-refused
returns-in-Ok-clause-refused c =
    IfErr-weaker c.new-in-Ok.result (λ e. (e ≡ Memory) ⊎ ((e ≡ Outside) × (most_roots < c.args.roots)))
    (λ e. (e ≡ Memory) ⊎ ((e ≡ Outside) × (IsHeapSize (record { w = c.args.w; k = c.args.k; n = c.args.n }) c.args.roots → ⊥)))
    (λ e h. elim h [
      | inl memory ↦ inl memory
      | inr out ↦ inr (out.0, λ size. absurd (omega (arith, out.1, size.roots)))
    ]) c.new-in-Ok.ensures.err
