use Rattle.std.proofs.Common.{◌≡◌, ◌∙◌, ◌+◌, ◌++◌, [], ◌∷◌, arith, ap, sym, take, flat_map}
use Rattle.std.proofs.lemmas.List.{take_more, take_all, flat_map_more}
use Rattle.g1_frontier.proofs.rooms.join_lists.Goals as goal

pub loop-list-init : goal.loop-list-init
loop-list-init c = c.empty_room-all.ensures

pub loop-list-smaller : goal.loop-list-smaller
loop-list-smaller c = omega (arith, c.loop-list-test.true)

pub loop-list-preserved : goal.loop-list-preserved
loop-list-preserved c =
    let lists = c.args.lists.now in
    let i = c.loop-list.list-index in
    let list = c.list-item.result in
    let more : take i lists ++ list ∷ [] ≡ take (i + 1) lists =
    ap (λ x. take i lists ++ x ∷ []) c.list-item.is ∙ sym (take_more lists i list c.loop-list-test.true) in
    c.in_ok-extend_from_slice.ensures.items ∙ ap (λ l. c.loop-list.all.items ++ l) c.deref.ensures.value ∙ ap (λ l. l ++ list.items) c.loop-list.invariant
    ∙ flat_map_more (λ s. s.items) [] (take i lists) list ∙ ap (flat_map (λ s. s.items)) more

pub returns : goal.returns
returns c = c.loop-list.invariant ∙ ap (flat_map (λ s. s.items)) (take_all c.loop-list.list-index c.args.lists.now c.loop-list-test.false)
