-- What a search goes over.
use Rattle.std.specs.Prelude.{◌≡◌, ◌≤◌, ℕ, ◌*◌, List, Bool, filter, length, IfSome}
use Rattle.g1_words.specs.Geometry.{most_words}
use Rattle.g1_words.specs.References.{named}
use Rattle.g1_words.specs.Valid.{IsValid}
use Rattle.g1_words.specs.Survivors.{in_set}
use Rattle.g1_rem.specs.Starts.{IsStartsOf}
use Rattle.g1_frontier.specs.Window.{AreRegions, AreWindowPositions, place}
use Rattle.g1_frontier.specs.Items.{aims, pairs, all_pairs}
use Rattle.g1_frontier.specs.declared.item.Item.{Item}
use Rattle.g1_words.specs.Numbers.{number_at}
use Rattle.g1_frontier.specs.Numbers.{IsNumbering}
use Rattle.g1_frontier.specs.declared.scope.Numbering.{Numbering}
use Rattle.g1_frontier.specs.declared.scope.Numbering.TheVariants.{Words, Objects}
use Rattle.g1_frontier.specs.declared.scope.Scope.{Scope}

-- the place of the object whose first word stands somewhere among the window's words
abbrev pub place_by : Numbering → ℕ → ℕ
place_by Words p = p
place_by (Objects starts) p = number_at starts p

-- how many places there are, where the window has so many words
abbrev pub count_by_numbering : Numbering → ℕ → ℕ
count_by_numbering Words words = words
count_by_numbering (Objects starts) words = number_at starts (length starts)

-- each of so many words has a number, and there are no more numbers than words of the heap
abbrev pub Covers : Numbering → ℕ → Type 0
Covers Words words = Unit {0}
Covers (Objects starts) words = (words ≤ length starts) × (length starts ≤ most_words)

-- THE NUMBERING, stated once: the place of the object at an address, in a claim table or among marks
abbrev pub place_in : Scope → ℕ → ℕ
place_in s a = place_by s.numbering.now (place s.heap.now s.window.now a)

-- how many places there are
abbrev pub place_count : Scope → ℕ
place_count s = count_by_numbering s.numbering.now (length s.window.now * s.heap.now.geometry.w)

-- the parts belong together
pub record IsScope (s : Scope) : Type 0 where
  pub valid : IsValid s.heap.now
  pub starts : IfSome s.starts (λ t. IsStartsOf s.heap.now t.now)
  pub regions : AreRegions s.heap.now s.window.now
  pub positions : AreWindowPositions s.window.now s.positions.now
  pub count : length s.positions.now ≡ s.heap.now.geometry.n
  pub covers : Covers s.numbering.now (length s.window.now * s.heap.now.geometry.w)
  pub numbers : IsNumbering s.heap.now s.window.now (place_count s) (place_in s)

-- whether an address lies in the window
abbrev pub inside : Scope → ℕ → Bool
inside s a = in_set s.heap.now s.window.now a

-- what a word references in the window
abbrev pub names_in : Scope → ℕ → List ℕ
names_in s x = filter (inside s) (named x)

-- what a reference word references in the window, with a rank
abbrev pub aims_in : Scope → ℕ → ℕ → List (ℕ × ℕ)
aims_in s rank x = aims s.heap.now s.window.now rank x

-- the ranks and addresses that an item offers
abbrev pub pairs_in : Scope → Item → List (ℕ × ℕ)
pairs_in s i = pairs s.heap.now s.window.now i

-- those of all items
abbrev pub all_pairs_in : Scope → List Item → List (ℕ × ℕ)
all_pairs_in s items = all_pairs s.heap.now s.window.now items
