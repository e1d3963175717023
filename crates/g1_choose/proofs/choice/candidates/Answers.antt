use Rattle.std.proofs.Common.{◌≡◌, ℕ, Bool, List, [], ◌∷◌, ◌++◌, map, All, sym, subst, arith}
use Rattle.std.proofs.lemmas.List.Elements.{All-push}
use Rattle.g1_choose.specs.declared.candidate.Candidate.{Candidate}
use Rattle.g1_choose.specs.Choice.{is_candidate}
use Rattle.g1_choose.specs.Candidate.{TellsRegion}
use Rattle.g1_choose.proofs.Filtered.{one_more_kept, one_more_left}
use Rattle.g1_choose.proofs.choice.candidates.Goals as goal
use Rattle.g1_choose.proofs.choice.candidates.Goals.{in-Some+in_ok-push, in_default}

pub loop-region-preserved : goal.loop-region-preserved
loop-region-preserved c =
    let remembered : List (List ℕ) = map (λ s. s.items) c.args.pricing.now.remembered.now in
    let test : ℕ → Bool = is_candidate c.args.pricing.now.parameters.now c.args.pricing.now.heap.now remembered c.args.pricing.now.live.now in
    let True : Candidate → Type 0 = TellsRegion c.args.pricing.now.parameters.now c.args.pricing.now.heap.now remembered c.args.pricing.now.live.now in
    let old : List Candidate = c.loop-region.candidates.items in
    let new : List Candidate = c.match-candidate.candidates.items in
    elim c.match-candidate.branch [
      | in-Some+in_ok-push w ↦
          let x : Candidate = w.in-Some.found in
          let pushed : new ≡ old ++ x ∷ [] = cc (w.in_ok-push.ensures.items) in
          record {
            all = one_more_kept test c.loop-region.region w.in-Some.ensures.found old new x c.loop-region.invariant.all w.in-Some.ensures.same pushed;
            tells = subst (All True) (sym pushed) (All-push True old x c.loop-region.invariant.tells w.in-Some.ensures.tells);
          }
      | in_default w ↦
          let same : new ≡ old = cc in
          record {
            all = one_more_left test c.loop-region.region w.in_default.ensures.none old new c.loop-region.invariant.all same;
            tells = subst (All True) (sym same) c.loop-region.invariant.tells;
          }
    ]

pub loop-region-smaller : goal.loop-region-smaller
loop-region-smaller c = omega (arith, c.loop-region-test.true)
