use Rattle.std.proofs.Common.{◌≡◌, ◌+◌, ◌*◌, ◌<◌, None, cond, sym, ◌∙◌, ap, arith}
use Rattle.std.proofs.lemmas.Bool.{lt-ltb, le-ltb}
use Rattle.g1_words.specs.Geometry.{Geometry}
use Rattle.g1_words.specs.Heap.{Heap}
use Rattle.g1_trace.specs.Mutator.{region_for}
use Rattle.g1_trace.proofs.allocating.place_for.Goals as goal
use Rattle.g1_trace.proofs.allocating.place_for.Goals.{then-refs-total-via-then-refs-total, then-refs-total-via-else-refs-total+then-words-total}

pub returns-then-refs-total : goal.returns-then-refs-total
returns-then-refs-total c =
    let h : Heap = c.args.heap.now in
    let size = 1 + c.args.refs + c.args.words in
    let total : c.words-total.result ≡ h.geometry.n * h.geometry.w = c.words-total.ensures.value ∙ ap (λ (g : Geometry). g.n * g.w) c.geometry.ensures.same in
    let more : h.geometry.n * h.geometry.w < size = elim c.then-refs-total.branch [
      | then-refs-total-via-then-refs-total w ↦ omega (arith, total, w.if-refs-total.true)
      | then-refs-total-via-else-refs-total+then-words-total w ↦ omega (arith, total, w.if-refs-total.false, w.if-words-total.true)
    ] in
    sym (ap (λ b. cond b None (region_for h size)) (lt-ltb (h.geometry.n * h.geometry.w) size more))

pub returns : goal.returns
returns c =
    let h : Heap = c.args.heap.now in
    let size = 1 + c.args.refs + c.args.words in
    let total : c.words-total.result ≡ h.geometry.n * h.geometry.w = c.words-total.ensures.value ∙ ap (λ (g : Geometry). g.n * g.w) c.geometry.ensures.same in
    c.region_for.ensures ∙ sym (ap (λ b. cond b None (region_for h size)) (le-ltb (h.geometry.n * h.geometry.w) size (omega (arith, total, c.if-refs-total.false, c.if-words-total.false))))
