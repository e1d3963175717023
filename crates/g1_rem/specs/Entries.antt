-- What leads into one region from the others, and isn't covered.
use Rattle.std.specs.Prelude.{◌≡◌, ◌⊎◌, ℕ, not, ◌&&◌, List, ◌∷◌, map, filter}
use Rattle.g1_words.specs.declared.fault.Fault.{Fault}
use Rattle.g1_words.specs.declared.fault.Fault.TheVariants.{Memory, Uncovered}
use Rattle.g1_words.specs.References.{refs}
use Rattle.g1_image.specs.Image.{Image}
use Rattle.g1_image.specs.Cards.{leads_into, is_covered}

-- the slots that lead into region r from another region and aren't covered, rising
abbrev pub uncovered_into : Image → ℕ → List ℕ
uncovered_into i r = map (λ e. e.slot) (filter (λ e. leads_into i.heap r e && not (is_covered i e)) (refs i.heap))

-- THE FAULT: the lowest slot into region r that isn't covered, or out of memory
abbrev pub IsEntryFault : Image → ℕ → Fault → Type 0
IsEntryFault i r fault = (fault ≡ Memory) ⊎ ((p : ℕ) × (rest : List ℕ) × (uncovered_into i r ≡ p ∷ rest) × (fault ≡ Uncovered p))
