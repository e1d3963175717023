use Rattle.std.proofs.Common.{◌≡◌, ◌<◌, ◌^◌, ◌++◌, length, take, map}
use Rattle.std.specs.Prelude.{All}
use Rattle.g1_image.specs.Text.{remembered_texts}
use Rattle.g1_image.proofs.writing.push_remembered.Given as goal

abbrev pub invariant-loop-cards : goal.invariant-loop-cards
invariant-loop-cards l =
    All (λ s. length s < 2 ^ 32) (map (λ s. s.items) l.remembered) → l.out.items ≡ l.fn.out.items ++ remembered_texts (map (λ s. s.items) (take l.cards-index l.remembered))
