use Rattle.std.proofs.Common.{◌≡◌, ◌≤◌, ℕ, List, ◌++◌, length, drop, take}
use Rattle.std.specs.List.{AllZip}
use Rattle.g1_text.specs.Forms.{IsReferenceWord, Denotes, Many, HasFront}
use Rattle.g1_text.proofs.reading.add_references.Given as goal

abbrev pub invariant-loop : goal.invariant-loop
invariant-loop l =
    ((xs : List ℕ) (front rest : List (List ℕ)) → l.fn.count ≡ length xs → AllZip Denotes xs front → l.fn.words ≡ front ++ rest
    → (l.words ≡ drop l.counter front ++ rest) × (l.content.items ≡ l.fn.content.items ++ take l.counter xs))
    × HasFront (Many IsReferenceWord l.counter) l.fn.words l.words × (l.counter ≤ l.fn.count)
