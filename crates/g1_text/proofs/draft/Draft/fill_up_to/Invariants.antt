use Rattle.std.proofs.Common.{◌≡◌, ◌≤◌, ◌-◌, ◌++◌, length, replicate}
use Rattle.g1_words.specs.Heap.{free_region}
use Rattle.g1_text.specs.Drafts.{content, numbers}
use Rattle.g1_text.proofs.draft.Draft.fill_up_to.Given as goal

abbrev pub invariant-loop : goal.invariant-loop
invariant-loop l = record {
  lines : numbers l.self ≡ numbers l.fn.self;
  same : l.fn.region ≤ length (content l.fn.self).regions → content l.self ≡ content l.fn.self;
  free : content l.self ≡ record (content l.fn.self) { regions = (content l.fn.self).regions ++ replicate (l.counter - length (content l.fn.self).regions) free_region };
}
