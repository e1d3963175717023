use Rattle.std.proofs.Common.{◌≡◌, ◌≤◌, ◌^◌, ℕ, List, [], ◌++◌, length, drop, take}
use Rattle.std.specs.List.{AllZip}
use Rattle.g1_text.specs.Forms.{Spells, IsBelow, Many, HasFront}
use Rattle.g1_text.proofs.reading.add_cards.Given as goal

abbrev pub invariant-loop : goal.invariant-loop
invariant-loop l =
    ((xs : List ℕ) → AllZip (Spells (2 ^ 32)) xs l.initial.words
    → (l.words ≡ drop l.counter l.initial.words ++ []) × (l.cards.items ≡ l.initial.cards.items ++ take l.counter xs))
    × HasFront (Many (IsBelow (2 ^ 32)) l.counter) l.initial.words l.words × (l.counter ≤ length l.initial.words)
