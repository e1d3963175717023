use Rattle.std.proofs.Common.{◌≡◌, ◌++◌, ◌∷◌, [], ◌∙◌, map, replicate, ap, arith}
use Rattle.std.proofs.lemmas.List.{map_push, replicate-append-replicate}
use Rattle.g1_rem.proofs.card_lists.no_cards.Goals as goal

pub loop-i-init : goal.loop-i-init
loop-i-init c = ap (map (λ s. s.items)) c.new-remembered.ensures.items

pub loop-i-smaller : goal.loop-i-smaller
loop-i-smaller c = omega (arith, c.loop-i-test.true)

pub loop-i-preserved : goal.loop-i-preserved
loop-i-preserved c =
    ap (map (λ s. s.items)) c.in_ok-push.ensures.items ∙ map_push (λ s. s.items) c.loop-i.remembered.items c.new.result
    ∙ ap (λ l. l ++ c.new.result.items ∷ []) c.loop-i.invariant ∙ ap (λ s. replicate c.loop-i._i [] ++ s ∷ []) c.new.ensures.items
    ∙ replicate-append-replicate c.loop-i._i 1 []

pub returns : goal.returns
returns c =
    let all : c.loop-i._i ≡ c.args.regions = omega (arith, c.loop-i-test.false, c.loop-i.auto._i-end) in
    c.loop-i.invariant ∙ ap (λ n. replicate n []) all
