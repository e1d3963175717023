use Rattle.std.proofs.Common.{◌-◌, map, ◌∙◌}
use Rattle.std.specs.Slice.Iter.{iter_rest}
use Rattle.g1_text.specs.Boxes.{targets}
use Rattle.g1_text.specs.Marked.{words_found, with_marked}
use Rattle.g1_text.proofs.Slots.{target_taken, no_target}
use Rattle.g1_text.proofs.boxes.Found.add_targets.Goals as goal

pub returns-in_default-clause-words : goal.returns-in_default-clause-words
returns-in_default-clause-words c =
    no_target (words_found c.loop.self) (with_marked (words_found c.args.self.now) (targets c.args.slots (map (λ t. t.now) c.args.content.now)))
    (c.args.slots - c.loop.counter) (map (λ t. t.now) (iter_rest c.loop.words)) c.in_default.ensures c.loop.invariant.words

pub loop-preserved : goal.loop-preserved
loop-preserved c = record {
  names = c.in_ok-add_word.ensures.names ∙ c.loop.invariant.names;
  words = target_taken (words_found c.loop.self) (words_found c.add_word.new.self)
      (with_marked (words_found c.args.self.now) (targets c.args.slots (map (λ t. t.now) c.args.content.now)))
      c.args.slots c.loop.counter (map (λ t. t.now) (iter_rest c.loop.words)) (map (λ t. t.now) (iter_rest c.next_target.new.words)) c.in-Some.word.now
      c.loop-test.true c.in-Some.ensures c.in_ok-add_word.ensures.words c.loop.invariant.words;
}
