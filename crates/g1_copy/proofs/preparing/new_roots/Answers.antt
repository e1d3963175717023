use Rattle.std.proofs.Common.{◌++◌, ◌∷◌, [], map, take, get_or, sym, subst, ◌∙◌, ap, arith}
use Rattle.std.proofs.lemmas.List.{map-append, take_all, take_more}
use Rattle.g1_words.specs.Copy.{renamed}
use Rattle.g1_words.specs.Layout.{moved_to}
use Rattle.g1_words.specs.Valid.{IsValid}
use Rattle.g1_copy.specs.Plans.{IsPauseOf, Moving}
use Rattle.g1_copy.proofs.PreparedRegions.{root_fits, roots_made}
use Rattle.g1_copy.proofs.preparing.new_roots.Goals as goal

pub loop-root-init : goal.loop-root-init
loop-root-init c = c.in_ok-roots.ensures.items

pub rename_reference-requires : goal.rename_reference-requires
rename_reference-requires c =
    let m = c.moving.inside in
    root_fits m.heap.now m.plan.now.set m.plan.now c.moving.invariant.0 (subst (λ (v : Moving). IsPauseOf v.heap v.plan.set v.plan) (sym c.moving.view_is) c.requires)
    c.roots-root-items.result.now c.loop-root.root-index 0 c.roots-root-items.ensures c.loop-root-test.true

pub loop-root-preserved : goal.loop-root-preserved
loop-root-preserved c =
    let f = renamed (moved_to c.args.moving.now.plan.survivors c.args.moving.now.plan.places) in
    let xs = c.roots-root-items.result.now in
    let i = c.loop-root.root-index in
    let renames = c.rename_reference.ensures ∙ ap (λ (v : Moving). renamed (moved_to v.plan.survivors v.plan.places) (get_or xs i 0)) c.moving.view_is in
    c.in_ok-push.ensures.items
    ∙ (λ q. c.loop-root.invariant q ++ renames q ∷ [])
    ∙ sym (map-append f (take i xs) (get_or xs i 0 ∷ []))
    ∙ ap (map f) (sym (take_more xs i 0 c.loop-root-test.true))

pub returns : goal.returns
returns c =
    let xs = c.roots-root-items.result.now in
    let f = renamed (moved_to c.args.moving.now.plan.survivors c.args.moving.now.plan.places) in
    let m : Moving = c.args.moving.now in
    roots_made m.heap m.plan.set m.plan (subst (λ (v : Moving). IsValid v.heap) c.moving.view_is c.moving.invariant.0) c.requires xs c.loop-root.roots.items
    (c.roots-root-items.ensures ∙ ap (λ (v : Moving). v.heap.roots) c.moving.view_is)
    (c.loop-root.invariant ∙ ap (map f) (take_all c.loop-root.root-index xs (omega (arith, c.loop-root-test.false))))

pub loop-root-smaller : goal.loop-root-smaller
loop-root-smaller c = omega (arith, c.loop-root-test.true)
