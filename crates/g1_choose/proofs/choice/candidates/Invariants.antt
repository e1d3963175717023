use Rattle.std.proofs.Common.{◌≡◌, map, filter, All}
use Rattle.std.specs.List.{range_with_len}
use Rattle.g1_choose.specs.Choice.{is_candidate}
use Rattle.g1_choose.specs.Candidate.{TellsRegion}
use Rattle.g1_choose.proofs.choice.candidates.Given as goal

abbrev pub invariant-loop-region : goal.invariant-loop-region
invariant-loop-region l = record {
  all : map (λ x. x.region) l.candidates.items ≡ filter (is_candidate l.pricing.parameters.now l.pricing.heap.now
      (map (λ s. s.items) l.pricing.remembered.now) l.pricing.live.now) (range_with_len 0 l.region);
  tells : All (TellsRegion l.pricing.parameters.now l.pricing.heap.now (map (λ s. s.items) l.pricing.remembered.now) l.pricing.live.now) l.candidates.items;
}
