use Rattle.std.proofs.Common.{◌≡◌, map, take}
use Rattle.g1heap_request.proofs.dump.words_of.Given as goal

abbrev pub invariant-loop-text : goal.invariant-loop-text
invariant-loop-text l = map (λ s. s.bytes.items) l.words.items ≡ map (λ t. t.now) (take l.text-index l.text-items)
