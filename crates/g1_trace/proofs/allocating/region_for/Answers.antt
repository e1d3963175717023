use Rattle.std.proofs.Common.{◌≡◌, ◌+◌, ◌-◌, ◌*◌, ◌/◌, ◌<◌, cond, find, sym, ap, ◌∙◌, arith, lt-ltb}
use Rattle.g1_words.specs.Geometry.{Geometry}
use Rattle.g1_words.specs.Heap.{regions}
use Rattle.g1_trace.specs.Mutator.{run_length, is_free_region, is_free_run, fits_current}
use Rattle.g1_trace.proofs.Tables.{rounded_up}
use Rattle.g1_trace.proofs.allocating.region_for.Goals as goal

pub returns-then-is_humongous : goal.returns-then-is_humongous
returns-then-is_humongous c =
    let h = c.args.heap.now in
    let size = c.args.size in
    let width : c.geometry-geometry.result.w ≡ h.geometry.w = ap (λ (g : Geometry). g.w) c.geometry-geometry.ensures.same in
    let large = c.is_humongous.ensures.0 c.if-is_humongous.true in
    let big : 3 * h.geometry.w < 4 * size = omega (arith, width, large) in
    let count : c.regions_for.result ≡ run_length h size =
    c.regions_for.ensures ∙ rounded_up c.geometry-geometry.result.w size (omega (arith, width, c.geometry-geometry.ensures.valid.limits.w_least))
    ∙ ap (λ w. (size + (w - 1)) / w) width in
    c.lowest_run.ensures ∙ ap (λ m. find (is_free_run h m) (regions h)) count
    ∙ sym (ap (λ b. cond b (find (is_free_run h (run_length h size)) (regions h)) (cond (fits_current h size h.current) h.current (find (is_free_region h) (regions h))))
    (lt-ltb (3 * h.geometry.w) (4 * size) big))
