-- The humongous objects that nothing keeps, and that a pause frees them.
use Rattle.std.specs.Prelude.{◌≡◌, ℕ, List, filter}
use Rattle.g1_words.specs.Heap.{Heap, regions}
use Rattle.g1_pause.specs.declared.steps.Outcome.{Outcome}
use Rattle.g1_pause.specs.declared.steps.Outcome.TheVariants.{Ready, NoRoom}
use Rattle.g1_explain.specs.Keepers.{is_nothing, keeper_of}

-- the regions in which a humongous object begins that nothing keeps
abbrev pub unkept : Heap → List ℕ → List ℕ → List ℕ
unkept h set survivors = filter (λ r. is_nothing (keeper_of h set survivors r)) (regions h)

-- the humongous objects that the pause frees are those that nothing keeps
abbrev pub FreesUnkept : Heap → Outcome → Type 0
FreesUnkept h (Ready p q) = q.humongous ≡ unkept h p.set p.survivors
FreesUnkept h (NoRoom survivors need free) = Unit {0}
