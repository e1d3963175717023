use Rattle.std.proofs.Common.{◌≡◌, ◌+◌, ◌<◌, ◌++◌, ◌∷◌, [], length, get_or, ap, sym, ◌∙◌, arith}
use Rattle.std.proofs.lemmas.List.{get_or-take, length-take-le}
use Rattle.std.proofs.lemmas.List.FromFn.{map-range_with_len_more}
use Rattle.g1_words.specs.Layout.{free_regions, laid, need, sizes_of}
use Rattle.g1_layout.specs.Plan.{run_at}
use Rattle.g1_layout.proofs.Running.{none_before}
use Rattle.g1_layout.proofs.placing.runs.Goals as goal

pub loop-region-init : goal.loop-region-init
loop-region-init c =
    let h = c.args.batch.now.heap.now in
    record { reached = sym (none_before h.geometry.w 0 (laid h.geometry.w 0 (sizes_of h c.args.batch.now.survivors.now)) (λ q i. omega arith)); listed = c.in_ok-runs.ensures.items }

pub loop-region-preserved : goal.loop-region-preserved
loop-region-preserved c =
    let h = c.args.batch.now.heap.now in
    let l = c.args.batch.now.survivors.now in
    let i = c.loop-region.region-index in
    let count : length c.args.batch.now.to_space.now ≡ need h l = ap length c.requires.batch.regions ∙ length-take-le (need h l) (free_regions h) c.requires.batch.room in
    let there : i < need h l = omega (arith, count, c.loop-region-test.true) in
    let region : get_or c.args.batch.now.to_space.now i 0 ≡ get_or (free_regions h) i 0 = ap (λ xs. get_or xs i 0) c.requires.batch.regions ∙ get_or-take (need h l) (free_regions h) i 0 there in
    let run : c.run_from-run.result ≡ run_at h l i = c.run_from-run.ensures i there region c.loop-region.invariant.reached in
    let next : 0 + i ≡ i = omega arith in
    record {
      reached = ap (λ r. r.to) run;
      listed = c.in_ok-push.ensures.items ∙ (λ t. c.loop-region.invariant.listed t ++ run t ∷ []) ∙ sym (map-range_with_len_more (run_at h l) 0 i i next);
    }

pub loop-region-smaller : goal.loop-region-smaller
loop-region-smaller c = omega (arith, c.loop-region-test.true)
