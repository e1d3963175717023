-- What the search of one worker holds.
use Rattle.std.specs.Prelude.{◌≡◌, ◌≤◌, ℕ, true, false, List, ◌++◌, map, flat_map, take, length, slice_index_or, Contains}
use Rattle.std.specs.List.{All}
use Rattle.g1_words.specs.declared.object.Object.{Object}
use Rattle.g1_words.specs.Heap.{word, slots}
use Rattle.g1_words.specs.Lists.{has}
use Rattle.g1_words.specs.Live.{Reached}
use Rattle.g1_words.specs.Survivors.{firsts, seeds, children}
use Rattle.g1_rem.specs.Slots.{slots_on}
use Rattle.g1_frontier.specs.declared.queue.Queue.{Queue}
use Rattle.g1_frontier.specs.declared.scope.Scope.{Scope}
use Rattle.g1_frontier.specs.Numbers.{BeginsIn}
use Rattle.g1_frontier.specs.Scope.{inside, names_in, place_in, place_count}

-- what the slots on a card reference in the window, by slot
abbrev pub card_names : Scope → ℕ → List ℕ
card_names s c = flat_map (λ p. names_in s (word s.heap.now p)) (slots_on s.heap.now c)

-- a slot with its word, if that references an object in the window
abbrev pub leads_of : Scope → ℕ → ℕ → List (ℕ × ℕ)
leads_of s p x = map (λ a. (p, x)) (names_in s x)

-- those of the slots on a card, by slot
abbrev pub card_leads : Scope → ℕ → List (ℕ × ℕ)
card_leads s c = flat_map (λ p. leads_of s p (word s.heap.now p)) (slots_on s.heap.now c)

-- what the slots of an object reference in the window, by slot
abbrev pub object_names : Scope → Object → List ℕ
object_names s o = flat_map (λ p. names_in s (word s.heap.now p)) (slots o)

-- there is a mark for each place, and the mark at the place of an object is set exactly if the object was found; what was found lies in the window, each object once
pub record HasFound (s : Scope) (q : Queue) : Type 0 where
  pub places : place_count s ≤ length q.marks
  pub marked : (a : ℕ) → BeginsIn s.heap.now s.window.now a → slice_index_or q.marks (place_in s a) false ≡ has q.found.items a
  pub once : q.found.items ≡ firsts q.found.items
  pub within : All (λ a. inside s a ≡ true) q.found.items

-- more addresses were noted behind those before: what is found are the first occurrences of both
pub record HasNoted (s : Scope) (more : List ℕ) (before after : Queue) : Type 0 where
  pub queue : HasFound s after
  pub found : after.found.items ≡ firsts (before.found.items ++ more)

-- the first ones of what was found are searched: what was found are the seeds and their children, in order, and is reached
pub record IsUnderWay (s : Scope) (n : ℕ) (q : Queue) : Type 0 where
  pub queue : HasFound s q
  pub from : n ≤ length q.found.items
  pub in_order : q.found.items ≡ firsts (seeds s.heap.now s.window.now ++ flat_map (children s.heap.now s.window.now) (take n q.found.items))
  pub reached : (a : ℕ) → Contains q.found.items a → Reached (seeds s.heap.now s.window.now) (children s.heap.now s.window.now) a
