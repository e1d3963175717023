use Rattle.std.proofs.Common.{ℕ, ◌≤◌, ◌<◌, ◌+◌, ◌*◌, ◌++◌, ◌∙◌, ap, sym, subst, arith, flat_map, string_bytes}
use Rattle.std.specs.Int.{div_ceil}
use Rattle.std.proofs.Math.Nat.{mul-le-mul_right}
use Rattle.std.proofs.lemmas.Grind.{div_ceil_times}
use Rattle.g1_words.specs.Geometry.{Geometry}
use Rattle.g1_words.specs.Heap.{Heap}
use Rattle.g1_text.specs.Lines.{line_text, heading}
use Rattle.g1_tables.proofs.TableText.{rows_joined}
use Rattle.g1_tables.proofs.show.table.Goals as goal

pub returns-clause-text : goal.returns-clause-text
returns-clause-text g c =
    let i = c.args.image.now in
    let chunk : ℕ = c.chunk.result in
    let regions : ℕ = c.regions-regions.result in
    let sizes = ap (λ (g : Geometry). g.n) c.geometry.ensures.same in
    let same = ap (λ (h : Heap). h.geometry.n) c.heap.ensures.same in
    let over = div_ceil_times regions chunk (omega (arith, c.chunk.ensures.value, c.chunk.ensures.range.0)) in
    let reached : i.heap.geometry.n ≤ div_ceil regions chunk * chunk = omega (arith, over.0, c.regions-regions.ensures.value, sizes, same) in
    let enough : i.heap.geometry.n ≤ c.div_ceil-chunks.result * chunk = subst (λ x. i.heap.geometry.n ≤ x * chunk) (sym c.div_ceil-chunks.ensures) reached in
    let rows = rows_joined i chunk c.div_ceil-chunks.result c.in_ok-workers.workers.items c.in_ok-outs.field-0-0.items c.in_ok-outs.outs.items c.in_ok-outs.ensures.ok enough in
    c.in_ok-join.ensures ∙ ap (λ xs. line_text (heading i) ++ xs) (ap (flat_map string_bytes) c.deref.ensures.value ∙ rows)

-- the first region of a chunk is one of the heap's
pub each_chunk-requires-clause-ready : goal.each_chunk-requires-clause-ready
each_chunk-requires-clause-ready g c κs within = λ k d lt number below.
    let chunk : ℕ = c.chunk.result in
    let regions : ℕ = c.regions-regions.result in
    let sizes = ap (λ (g : Geometry). g.n) c.geometry.ensures.same in
    let same = ap (λ (h : Heap). h.geometry.n) c.heap.ensures.same in
    let over = div_ceil_times regions chunk (omega (arith, c.chunk.ensures.value, c.chunk.ensures.range.0)) in
    let whole : c.div_ceil-chunks.result * chunk < regions + chunk = subst (λ x. x * chunk < regions + chunk) (sym c.div_ceil-chunks.ensures) over.1 in
    let next : (number + 1) * chunk ≤ c.div_ceil-chunks.result * chunk = mul-le-mul_right chunk (omega (arith, below)) in
    (omega (arith, next, whole, c.regions-regions.ensures.value, sizes, same), omega (arith, c.chunk.ensures.value, c.chunk.ensures.range.1))
