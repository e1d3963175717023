-- What items name, slot by slot.
use Rattle.std.proofs.Common.{◌≤◌, ◌<◌, ℕ, ◌+◌, ◌%◌, ◌^◌, length, get_or, Contains}
use Rattle.std.proofs.Common.{arith}
use Rattle.g1_words.specs.Heap.{Heap, word, objects, object_at, slots}
use Rattle.g1_words.specs.Valid.{IsValid, IsReference}
use Rattle.g1_words.specs.declared.object.Object.{Object}
use Rattle.g1_words.proofs.Bounds.{object_within}
use Rattle.g1_words.proofs.Computed.{contains_has, range_above, range_below}
use Rattle.g1_words.proofs.Members.{filter_member, flat_map_cases}
use Rattle.g1_words.proofs.Sound.{sound}
use Rattle.g1_rem.specs.Slots.{all_slots, slots_on}

module _ (h : Heap) (valid : IsValid h) where
  -- an object's slots are among the words
  pub slots_in_words : (o : Object) → Contains (objects h) o → o.at + 1 + o.refs ≤ length h.words
  slots_in_words o c =
      let fit = (sound h valid).slots_fit o c in
      let end = object_within h valid o (contains_has h o valid.shaped c) in
      omega (arith, fit, end, valid.word_count)

  -- its size fits 32 bits
  pub size_small : (o : Object) → Contains (objects h) o → o.size < 2 ^ 32
  size_small o c = let end = object_within h valid o (contains_has h o valid.shaped c) in omega (arith, end, valid.limits.words_most)

  -- so is its header
  pub object_in_words : (a : ℕ) → Contains (objects h) (object_at h a) → (a < length h.words) × (a + 1 + word h a % 2 ^ 32 ≤ length h.words)
  object_in_words a c = let k = slots_in_words (object_at h a) c in (omega (arith, k), k)

  -- and a slot on a card
  pub slot_in_words : (c p : ℕ) → Contains (slots_on h c) p → p < length h.words
  slot_in_words c p i =
      let q = flat_map_cases slots (objects h) p (filter_member (λ p. Rattle.std.proofs.Common.eqb (Rattle.g1_words.specs.Heap.card_of h p) c) (all_slots h) p i).0 in
      let k = slots_in_words q.0 q.1 in
      omega (arith, range_below (q.0.at + 1) q.0.refs p q.2, k)

  -- a root is a reference
  pub root_reference : (i : ℕ) → i < length h.roots → IsReference h (get_or h.roots i 0)
  root_reference i lt = valid.roots i 0 lt

  -- so is a slot of an object
  pub slot_reference : (o : Object) (p : ℕ) → Contains (objects h) o → Contains (slots o) p → IsReference h (word h p)
  slot_reference o p i j =
      valid.slots o p (contains_has h o valid.shaped i) (omega (arith, range_above (o.at + 1) o.refs p j), omega (arith, range_below (o.at + 1) o.refs p j))

  -- and a slot on a card
  pub card_reference : (c p : ℕ) → Contains (slots_on h c) p → IsReference h (word h p)
  card_reference c p i =
      let q = flat_map_cases slots (objects h) p (filter_member (λ p. Rattle.std.proofs.Common.eqb (Rattle.g1_words.specs.Heap.card_of h p) c) (all_slots h) p i).0 in
      slot_reference q.0 p q.1 q.2
