use Rattle.std.proofs.Common.{◌≡◌, ◌-◌, map}
use Rattle.std.specs.Slice.Iter.{iter_rest}
use Rattle.g1_text.specs.Boxes.{targets}
use Rattle.g1_text.specs.Marked.{names_found, words_found, with_marked}
use Rattle.g1_text.proofs.boxes.Found.add_targets.Given as goal

abbrev pub invariant-loop : goal.invariant-loop
invariant-loop l = record {
  names : names_found l.self ≡ names_found l.fn.self;
  words : with_marked (words_found l.self) (targets (l.fn.slots - l.counter) (map (λ t. t.now) (iter_rest l.words)))
      ≡ with_marked (words_found l.fn.self) (targets l.fn.slots (map (λ t. t.now) l.fn.content));
}
