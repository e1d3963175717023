use denote.Shadow.{shadow}
use denote.Text.{Utf8}
use Rattle.std.proofs.Common.{◌≡◌, ℕ, List, length, string_bytes}
use Rattle.std.specs.List.{AllZip}
use Rattle.g1_text.specs.Lines.{text_of}
use Rattle.g1heap_cli.specs.Hexadecimal.{HasHex}
use Rattle.g1heap_cli.proofs.Hexes.{LinesAreLeft}
use Rattle.g1heap_cli.proofs.hexadecimal.with_hexadecimal.Given as goal

abbrev pub invariant-lines : goal.invariant-lines
invariant-lines l = shadow (Utf8 l.rest) × ((said others : List (List (List ℕ))) → AllZip HasHex said others → l.fn.lines ≡ text_of said → LinesAreLeft l.rest (string_bytes l.text) (text_of others))

abbrev pub decreases-lines : goal.decreases-lines
decreases-lines l = length l.rest
