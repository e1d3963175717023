use Rattle.std.proofs.Common.{◌≡◌, ◌<◌, ◌*◌, sym, ap, ◌∙◌, arith}
use Rattle.std.proofs.lemmas.Bool.{false≢true}
use Rattle.g1_words.specs.Geometry.{Geometry}
use Rattle.g1_words.specs.Heap.{kind}
use Rattle.g1_words.specs.declared.region.Kind.TheVariants.{Continuation}
use Rattle.g1_words.specs.declared.region.Region.{Region}
use Rattle.g1_report.proofs.Locating.{back_end}
use Rattle.g1_report.proofs.location.first_of_run.Goals.{then-loop-first-test+else-is_continuation, else-loop-first-test}
use Rattle.g1_report.proofs.location.first_of_run.Goals as goal

pub returns : goal.returns
returns c = λ on.
    let h = c.args.heap.now in
    let n = c.loop-first.first in
    let stop : 0 < n → kind h n ≡ Continuation → ⊥ =
    λ pos is. elim c.loop-first-test.branch [
      | then-loop-first-test+else-is_continuation w ↦ false≢true (sym w.if-is_continuation.false ∙ w.is_continuation.ensures.1 (ap (λ (r : Region). r.kind) w.region.ensures ∙ is))
      | else-loop-first-test w ↦ omega (arith, pos, w.loop-first-test.false)
    ] in (
      n,
      c.start.ensures.value ∙ ap (λ (g : Geometry). n * g.w) c.geometry-geometry.ensures.same,
      back_end h c.geometry-geometry.ensures.valid c.args.region n c.requires on c.loop-first.invariant.back c.loop-first.invariant.low stop,
    )
