-- What a plan has: the survivors' places, and the runs.
use Rattle.std.proofs.Common.{◌≡◌, ℕ, ◌<◌, length, get_or, ◌∙◌, ap, arith}
use Rattle.std.proofs.lemmas.List.FromFn.{get_or-map-range_with_len, length-map-range_with_len}
use Rattle.g1_words.specs.Heap.{Heap}
use Rattle.g1_words.specs.Layout.{need, places}
use Rattle.g1_layout.specs.Plan.{Plan, run_at, runs}
use Rattle.g1_layout.specs.declared.plan.Run.{Run}
use Rattle.g1_copy.specs.Plans.{IsPlanOf}

module _ (h : Heap) (p : Plan) (made : IsPlanOf h p) where
  pub places_of_plan : p.places ≡ places h p.survivors
  places_of_plan = ap (λ (q : Plan). q.places) made.plan

  pub runs_of_plan : p.runs ≡ runs h p.survivors
  runs_of_plan = ap (λ (q : Plan). q.runs) made.plan

  pub runs_count : length p.runs ≡ need h p.survivors
  runs_count = ap length runs_of_plan ∙ length-map-range_with_len (run_at h p.survivors) 0 (need h p.survivors)

  pub run_is : (t : ℕ) (d : Run) → t < need h p.survivors → get_or p.runs t d ≡ run_at h p.survivors t
  run_is t d lt = ap (λ us. get_or us t d) runs_of_plan ∙ get_or-map-range_with_len (run_at h p.survivors) 0 (need h p.survivors) t t d lt (omega arith)
