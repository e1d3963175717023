use Rattle.std.proofs.Common.{◌++◌, ◌∷◌, [], ◌∙◌, ℕ, ap, sym, map, take, get_or, append_assoc, append-nil, arith}
use Rattle.std.proofs.lemmas.List.{map_more, take_all}
use Rattle.g1_words.specs.declared.object.Object.{Object}
use Rattle.g1_frontier.proofs.queue.push_sizes.Goals as goal

pub loop-object-init : goal.loop-object-init
loop-object-init c = sym (append-nil c.args.sizes.now.items)

pub loop-object-preserved : goal.loop-object-preserved
loop-object-preserved c =
    let batch = c.args.batch.now in
    let i : ℕ = c.loop-object.object-index in
    let none : Object = record { at = 0; size = 0; refs = 0 } in
    let o : Object = get_or batch i none in
    let before = c.args.sizes.now.items in
    c.in_ok-push.ensures.items ∙ ap (λ l. l ++ o.size ∷ []) c.loop-object.invariant ∙ append_assoc before (map (λ (o : Object). o.size) (take i batch)) (o.size ∷ [])
    ∙ ap (λ l. before ++ l) (sym (map_more (λ (o : Object). o.size) batch i none c.loop-object-test.true))

pub overflow_cast-object : goal.overflow_cast-object
overflow_cast-object c = omega (arith, c.requires c.loop-object.object-index (record { at = 0; size = 0; refs = 0 }) c.loop-object-test.true)

pub returns : goal.returns
returns c =
    c.loop-object.invariant ∙ ap (λ l. c.args.sizes.now.items ++ map (λ (o : Object). o.size) l) (take_all c.loop-object.object-index c.args.batch.now c.loop-object-test.false)
