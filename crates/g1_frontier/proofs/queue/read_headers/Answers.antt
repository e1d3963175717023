use Rattle.std.proofs.Common.{◌++◌, ◌∷◌, [], ◌∙◌, ap, sym, map, take, get_or}
use Rattle.std.proofs.lemmas.List.{map-append, take_all, take_more}
use Rattle.g1_words.specs.Heap.{object_at}
use Rattle.g1_frontier.proofs.queue.read_headers.Goals as goal

pub loop-at-init : goal.loop-at-init
loop-at-init c = c.clear.ensures.items

pub object-requires : goal.object-requires
object-requires c = c.requires c.loop-at.at-index 0 c.loop-at-test.true

pub loop-at-preserved : goal.loop-at-preserved
loop-at-preserved c =
    let f = object_at c.args.heap.now in
    let xs = c.args.addresses.now in
    c.in_ok-push.ensures.items ∙ (λ i. c.loop-at.invariant i ++ c.object.ensures.value i ∷ []) ∙ sym (map-append f (take c.loop-at.at-index xs) (get_or xs c.loop-at.at-index 0 ∷ []))
    ∙ ap (map f) (sym (take_more xs c.loop-at.at-index 0 c.loop-at-test.true))

pub returns : goal.returns
returns c = c.loop-at.invariant ∙ ap (map (object_at c.args.heap.now)) (take_all c.loop-at.at-index c.args.addresses.now c.loop-at-test.false)
