use Rattle.std.proofs.Common.{◌≡◌, map, take}
use Rattle.g1_words.specs.Numbers.{AreCounted, counted_on}
use Rattle.g1_words.proofs.numbers.Numbers.new.Given as goal

abbrev pub invariant-loop-word : goal.invariant-loop-word
invariant-loop-word l = record {
  counted : AreCounted 0 l.blocks.items;
  same : map (λ b. b.marks) l.blocks.items ≡ take l.word-index l.bits;
  count : l.count ≡ counted_on 0 l.blocks.items;
}
