-- Words with a space between each two.
use Rattle.std.proofs.Common.{◌≡◌, ℕ, List, [], ◌∷◌, ◌++◌, flat_map, ap, append-nil}
use Rattle.std.specs.Prelude.{codes}
use Rattle.std.specs.Borrow.{Bor}
use Rattle.std.specs.List.{join_with_byte}
use Rattle.std.specs.Str.{byte}
use Rattle.g1_report.specs.Program.{texts}

-- the first one, and each other behind a space
pub joined_apart : (x : Bor (List ℕ)) (xs : List (Bor (List ℕ))) → x.now ++ flat_map (λ (word : Bor (List ℕ)). codes " " ++ word.now) xs ≡ join_with_byte (byte " ") (texts (x ∷ xs))
joined_apart x [] = append-nil x.now
joined_apart x (y ∷ ys) = ap (λ (rest : List ℕ). x.now ++ (codes " " ++ rest)) (joined_apart y ys)
