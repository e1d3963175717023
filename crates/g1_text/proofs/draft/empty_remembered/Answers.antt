use Rattle.std.proofs.Common.{◌≡◌, ℕ, ◌+◌, List, [], ◌∷◌, ◌++◌, map, replicate, ◌∙◌, ap, arith, Vec, Global}
use Rattle.std.proofs.lemmas.List.{map-append, replicate-append-replicate}
use Rattle.g1_text.proofs.draft.empty_remembered.Goals as goal

abbrev sets : List (Vec ℕ Global) → List (List ℕ)
sets xs = map (λ s. s.items) xs

more : (xs : List (Vec ℕ Global)) (x : Vec ℕ Global) (n : ℕ) → x.items ≡ [] → sets xs ≡ replicate n [] → sets (xs ++ x ∷ []) ≡ replicate (n + 1) []
more xs x n none was =
    map-append (λ s. s.items) xs (x ∷ []) ∙ (λ i. was i ++ none i ∷ []) ∙ replicate-append-replicate n 1 []

pub loop-init : goal.loop-init
loop-init c = ap sets c.new-remembered.ensures.items

pub loop-preserved : goal.loop-preserved
loop-preserved c = ap sets c.in_ok-push.ensures.items ∙ more c.loop.remembered.items c.new.result c.loop.counter c.new.ensures.items c.loop.invariant

pub returns : goal.returns
returns c =
    let all : c.loop.counter ≡ c.args.count = omega (arith, c.loop-test.false, c.loop.auto.counter-end) in
    c.loop.invariant ∙ ap (λ n. replicate n []) all
