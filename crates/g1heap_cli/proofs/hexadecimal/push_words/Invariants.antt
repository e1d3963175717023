use denote.Shadow.{shadow}
use denote.Text.{Utf8}
use Rattle.std.proofs.Common.{◌≡◌, ℕ, List, ◌∷◌, ◌++◌, length, string_bytes}
use Rattle.g1heap_cli.specs.Hexadecimal.{AreInHex, spaced}
use Rattle.g1heap_cli.proofs.Hexes.{AreLeft}
use Rattle.g1heap_cli.proofs.hexadecimal.push_words.Given as goal

abbrev pub invariant-words : goal.invariant-words
invariant-words l = shadow (Utf8 l.rest) × ((first : List ℕ) (said others : List (List ℕ)) → AreInHex l.fn.before_data (first ∷ said) others → l.fn.line ≡ spaced (first ∷ said)
    → AreLeft l.left l.rest (string_bytes l.text) (string_bytes l.initial.text ++ spaced others))

abbrev pub decreases-words : goal.decreases-words
decreases-words l = length l.rest
