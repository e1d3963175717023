use Rattle.std.proofs.Common.{◌≡◌, ◌++◌, take}
use Rattle.g1_text.specs.Marking.{texts, spaced}
use Rattle.g1_text.proofs.weak.push_words.Given as goal

abbrev pub invariant-loop-word : goal.invariant-loop-word
invariant-loop-word l = l.out.items ≡ l.fn.out.items ++ spaced (texts (take l.word-index l.words))
