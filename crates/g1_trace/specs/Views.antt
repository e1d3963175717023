-- When two stores show the same objects to whoever reads from the roots.
use Rattle.std.specs.Prelude.{◌≡◌, ℕ, zero, suc, map, flat_map, length, ◌<◌, ⊤}
use Rattle.g1_words.specs.Heap.{Heap}
use Rattle.g1_words.specs.References.{named}
use Rattle.g1_words.specs.Live.{Reached}
use Rattle.g1_words.specs.Copy.{renamed}
use Rattle.g1_trace.specs.Commands.{View, Effect, Nothing, SetRoot, SetSlot, SetValue, MakeNew, MakePause}
use Rattle.g1_trace.specs.Store.{Store, store_view}
use Rattle.g1_trace.specs.Mutator.{heap_view}

-- the object is reached from the roots of a view
abbrev pub Seen : View → ℕ → Type 0
Seen v a = Reached (flat_map named v.roots) (λ b. flat_map named (v.slots b)) a

-- u shows the objects that v shows, under other names: one-to-one, with the roots, slots and data
pub record SameView (v u : View) : Type 0 where
  pub rename : ℕ → ℕ
  pub one_to_one : (a b : ℕ) → Seen v a → Seen v b → rename a ≡ rename b → a ≡ b
  pub roots : u.roots ≡ map (renamed rename) v.roots
  pub slots : (a : ℕ) → Seen v a → u.slots (rename a) ≡ map (renamed rename) (v.slots a)
  pub values : (a : ℕ) → Seen v a → u.values (rename a) ≡ v.values a

-- the heap shows what the plain store shows: each number that the store's roots reach has an address of its own
pub record Shows (s : Store) (h : Heap) : Type 0 where
  pub numbered : (m : ℕ) → Seen (store_view s) m → m < length s.objects
  pub view : SameView (store_view s) (heap_view h)

-- the word is null or names an object that is seen
abbrev pub SeenWord : View → ℕ → Type 0
SeenWord v zero = ⊤
SeenWord v (suc a) = Seen v a

-- what the checks before an effect make sure of
abbrev pub EffectFits : View → Effect → Type 0
EffectFits v Nothing = ⊤
EffectFits v (SetRoot r x) = (r < length v.roots) × SeenWord v x
EffectFits v (SetSlot a p x) = Seen v a × (p < length (v.slots a)) × SeenWord v x
EffectFits v (SetValue a p x) = Seen v a × (p < length (v.values a))
EffectFits v (MakeNew r refs words) = r < length v.roots
EffectFits v (MakePause b) = ⊤

-- what is asked where the effect is a pause
abbrev pub ForPause : Effect → Type 0 → Type 0
ForPause (MakePause b) P = P
ForPause _ P = ⊤
