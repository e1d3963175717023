use Rattle.std.proofs.Common.{◌≡◌, ◌*◌, take, ◌∙◌, ap}
use Rattle.std.proofs.lemmas.List.{take_all}
use Rattle.g1_words.specs.Geometry.{Geometry}
use Rattle.g1_words.specs.Heap.{start, objects_in}
use Rattle.g1_report.proofs.Locating.{starts, last_to, last_found, last_kept, in_ordinary}
use Rattle.g1_report.proofs.location.holder.Goals.{then-start-address, else-start-address}
use Rattle.g1_report.proofs.location.holder.Goals as goal

pub loop-start-init : goal.loop-start-init
loop-start-init c = c.start-last.ensures.value ∙ ap (λ (g : Geometry). c.args.region * g.w) c.geometry.ensures.same

pub loop-start-preserved : goal.loop-start-preserved
loop-start-preserved c =
    let a = c.args.address in
    let d = start c.args.heap.now c.args.region in
    let l = c.as_slice-start-items.result.now in
    let i = c.loop-start.start-index in
    let last = c.loop-start.last in
    elim c.if-start-address.branch [
      | then-start-address w ↦ w.last-is ∙ last_found a d l i last c.loop-start-test.true c.loop-start.invariant w.if-start-address.true
      | else-start-address w ↦ w.last-is ∙ last_kept a d l i last c.loop-start-test.true c.loop-start.invariant w.if-start-address.false
    ]

pub returns-clause-location : goal.returns-clause-location
returns-clause-location c =
    let h = c.args.heap.now in
    let a = c.args.address in
    let r = c.args.region in
    let l = c.as_slice-start-items.result.now in
    let all : take c.loop-start.start-index l ≡ starts (objects_in h r) =
    take_all c.loop-start.start-index l c.loop-start-test.false ∙ c.as_slice-start-items.ensures.value ∙ c.in_ok-starts.ensures.ok in
    in_ordinary h c.geometry.ensures.valid a r c.requires.region c.requires.here c.requires.used c.requires.ordinary c.loop-start.last (c.loop-start.invariant ∙ ap (last_to a (start h r)) all)
