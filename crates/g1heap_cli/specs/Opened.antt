-- What a source of an image gives that is read.
use Rattle.std.specs.Prelude.{◌≡◌, ℕ, List, Option, Some, None, ⊤}
use Rattle.g1heap_cli.specs.declared.sources.Opened.{Opened}
use Rattle.g1heap_cli.specs.declared.sources.Opened.TheVariants as opened

-- the bytes that are left in it, where they are known
abbrev pub left_of : {F : Type 0} → (F → Option (List ℕ)) → Opened F → Option (List ℕ)
left_of known (opened.File file) = known file
left_of known (opened.Kept bytes) = Some bytes.now

-- it gives what is kept, if something is
abbrev pub GivesKept : {F V : Type 0} → (V → List ℕ) → Option V → Opened F → Type 0
GivesKept items None o = ⊤
GivesKept items (Some v) (opened.File file) = ⊥
GivesKept items (Some v) (opened.Kept bytes) = bytes.now ≡ items v
