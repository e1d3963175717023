use Rattle.std.proofs.Common.{◌++◌, ◌∷◌, [], ◌∙◌, ℕ, ap, sym, map, take, get_or, append_assoc, arith}
use Rattle.std.proofs.lemmas.List.{map_more}
use Rattle.g1_frontier.proofs.survivors.push_addresses.Goals as goal

pub loop-pair-preserved : goal.loop-pair-preserved
loop-pair-preserved c =
    let won = c.args.won.now in
    let i : ℕ = c.loop-pair.pair-index in
    let q : ℕ × ℕ = get_or won i (0, 0) in
    let before = c.args.found.now.items in
    c.in_ok-push.ensures.items ∙ ap (λ l. l ++ q.1 ∷ []) c.loop-pair.invariant ∙ append_assoc before (map (λ (q : ℕ × ℕ). q.1) (take i won)) (q.1 ∷ [])
    ∙ ap (λ l. before ++ l) (sym (map_more (λ (q : ℕ × ℕ). q.1) won i (0, 0) c.loop-pair-test.true))

pub loop-pair-smaller : goal.loop-pair-smaller
loop-pair-smaller c = omega (arith, c.loop-pair-test.true)
