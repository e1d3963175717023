use Rattle.std.proofs.Common.{◌≡◌, take}
use Rattle.g1judge.specs.Judged.{words_of}
use Rattle.g1judge.proofs.counting.words.Given as goal

abbrev pub invariant-loop-address : goal.invariant-loop-address
invariant-loop-address l = l.words ≡ words_of l.heap (take l.address-index l.renamed)
