-- What a round looks at, and what that offers in the window.
use Rattle.std.specs.Prelude.{◌≡◌, ℕ, List, [], ◌∷◌, ◌<◌, ◌+◌, ◌-◌, ◌^◌, ◌++◌, false, Contains, length, map, filter, flat_map, slice_index}
use Rattle.std.specs.List.{All, range_with_len}
use Rattle.g1_words.specs.Heap.{Heap, word, object_at, objects, slots}
use Rattle.g1_words.specs.References.{named}
use Rattle.g1_words.specs.Survivors.{in_set}
use Rattle.g1_image.specs.Image.{card_in}
use Rattle.g1_rem.specs.Starts.{card_count}
use Rattle.g1_rem.specs.Slots.{slots_on}
use Rattle.g1_frontier.specs.declared.item.Item.{Item}
use Rattle.g1_frontier.specs.declared.item.Item.TheVariants.{Root, Card, Object}
use Rattle.g1_frontier.specs.declared.sought.Sought.{Sought}
use Rattle.g1_frontier.specs.declared.sought.Sought.TheVariants.{Items, Objects}

-- the item is one of the heap's
abbrev pub IsItem : Heap → Item → Type 0
IsItem h (Root i) = i < length h.roots
IsItem h (Card c b) = c < card_count h
IsItem h (Object a b) = Contains (objects h) (object_at h a)

-- the item is no card of a region of the window
abbrev pub IsOutside : Heap → List ℕ → Item → Type 0
IsOutside h window (Root i) = Unit {0}
IsOutside h window (Card c b) = card_in h window c ≡ false
IsOutside h window (Object a b) = Unit {0}

-- what a reference word references in the window, with this rank: rank and address
abbrev pub aims : Heap → List ℕ → ℕ → ℕ → List (ℕ × ℕ)
aims h window rank x = map (λ a. (rank, a)) (filter (in_set h window) (named x))

-- the ranks and addresses that an item offers, in order
abbrev pub pairs : Heap → List ℕ → Item → List (ℕ × ℕ)
pairs h window (Root i) = aims h window i (slice_index h.roots i)
pairs h window (Card c b) = flat_map (λ p. aims h window (b + p) (word h p)) (slots_on h c)
pairs h window (Object a b) = flat_map (λ p. aims h window (b + (p - (a + 1))) (word h p)) (slots (object_at h a))

-- those of all items
abbrev pub all_pairs : Heap → List ℕ → List Item → List (ℕ × ℕ)
all_pairs h window items = flat_map (pairs h window) items

-- the ranks are ones that may be offered
abbrev pub AreRanks : List (ℕ × ℕ) → Type 0
AreRanks ps = All (λ q. q.0 < 2 ^ 32) ps

-- the roots, each by its number
abbrev pub root_items : ℕ → List Item
root_items roots = map Root (range_with_len 0 roots)

-- what a search begins with: the roots, by number, then the cards, whose ranks stand behind those of the roots
abbrev pub first_items : ℕ → List ℕ → List Item
first_items roots cards = root_items roots ++ map (λ c. Card c roots) cards

-- how many slots the object at an address has
abbrev pub slot_count : Heap → ℕ → ℕ
slot_count h a = (object_at h a).refs

-- how many slots the item's object has, 0 if the item is a root or a card
abbrev pub item_slots : Heap → Item → ℕ
item_slots h (Root i) = 0
item_slots h (Card c b) = 0
item_slots h (Object a b) = slot_count h a

-- the objects at some addresses, their slots numbered on from a base
abbrev pub object_items : Heap → ℕ → List ℕ → List Item
object_items h base [] = []
object_items h base (a ∷ rest) = Object a base ∷ object_items h (base + slot_count h a) rest

-- the objects at some addresses, each with its base
abbrev pub items_at : List ℕ → List ℕ → List Item
items_at [] bases = []
items_at (a ∷ rest) [] = []
items_at (a ∷ rest) (b ∷ bases) = Object a b ∷ items_at rest bases

-- numbers that begin at one: each is the one before and what stands beside that
abbrev pub numbered_on : ℕ → List ℕ → List ℕ
numbered_on base [] = []
numbered_on base (n ∷ counts) = base ∷ numbered_on (base + n) counts

-- the items that a round looks at
abbrev pub items_of : Sought → List Item
items_of (Items items) = items.now
items_of (Objects addresses bases) = items_at addresses.now bases.now

-- each address has a base
abbrev pub ArePaired : Sought → Type 0
ArePaired (Items items) = Unit {0}
ArePaired (Objects addresses bases) = length bases.now ≡ length addresses.now
