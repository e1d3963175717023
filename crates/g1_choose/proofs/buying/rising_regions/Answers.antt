use Rattle.std.proofs.Common.{[], ◌∷◌, ◌++◌, map, take, get_or, ap, sym, subst, ◌∙◌, arith}
use Rattle.std.proofs.lemmas.List.{map-append, take_all, take_more}
use Rattle.std.specs.List.Sorted.{IsPermutation}
use Rattle.g1_choose.proofs.buying.rising_regions.Goals as goal

pub loop-candidate-preserved : goal.loop-candidate-preserved
loop-candidate-preserved c =
    let xs = c.args.candidates.now in
    let i = c.loop-candidate.candidate-index in
    let x = c.candidate-item.result in
    c.in_ok-push.ensures.items ∙ ap (λ rs. rs ++ x.region ∷ []) c.loop-candidate.invariant
    ∙ ap (λ y. map (λ z. z.region) (take i xs) ++ y.region ∷ []) c.candidate-item.is
    ∙ sym (map-append (λ z. z.region) (take i xs) (get_or xs i x ∷ []))
    ∙ ap (map (λ z. z.region)) (sym (take_more xs i x c.loop-candidate-test.true))

pub loop-candidate-smaller : goal.loop-candidate-smaller
loop-candidate-smaller c = omega (arith, c.loop-candidate-test.true)

pub returns-clause-ok : goal.returns-clause-ok
returns-clause-ok c =
    let all = c.loop-candidate.invariant ∙ ap (map (λ x. x.region)) (take_all c.loop-candidate.candidate-index c.args.candidates.now (omega (arith, c.loop-candidate-test.false))) in
    record {
      same = subst (λ xs. IsPermutation xs c.sort_unstable.new.self.items) all c.sort_unstable.ensures.permutation;
      rising = c.sort_unstable.ensures.sorted;
    }
