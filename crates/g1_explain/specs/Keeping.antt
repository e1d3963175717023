-- What keeps an object: the first path that leads to it, from a root, or from a slot of another region.
use Rattle.std.specs.Prelude.{◌≡◌, ◌≢◌, ◌<◌, ◌⊎◌, ◌==◌, ◌||◌, Bool, ℕ, zero, suc, ◌+◌, true, false, List, [], ◌∷◌, ◌++◌, map, filter, length, slice_index, Contains}
use Rattle.g1_words.specs.declared.fault.Fault.{Fault}
use Rattle.g1_words.specs.declared.fault.Fault.TheVariants.{Memory, Uncovered}
use Rattle.g1_words.specs.declared.object.Object.{Object}
use Rattle.g1_words.specs.Heap.{Heap, kind, word, region_of, card_of, objects, object_at, is_first}
use Rattle.g1_words.specs.Lists.{has}
use Rattle.g1_words.specs.References.{refs}
use Rattle.g1_words.specs.Live.{Reached, Live}
use Rattle.g1_words.specs.Survivors.{seeds, children}
use Rattle.g1_words.specs.Valid.{IsSlotOf}
use Rattle.g1_words.specs.Walk.{Reaches}
use Rattle.g1_image.specs.Image.{Image, remembered_of}
use Rattle.g1_rem.specs.Slots.{all_slots}
use Rattle.g1_rem.specs.Entries.{uncovered_into}
use Rattle.g1_same.specs.Path.{LeadsTo, Before}
use Rattle.g1_explain.specs.declared.finder.Finder.{Finder}
use Rattle.g1_explain.specs.declared.finder.Finder.TheVariants.{Root, Card, Object as Slot}
use Rattle.g1_explain.specs.declared.humongous.Keeper.TheVariants.{By}
use Rattle.g1_explain.specs.declared.paths.Leg.{Leg}
use Rattle.g1_explain.specs.declared.paths.Entry.{Entry}
use Rattle.g1_explain.specs.declared.paths.Reason.{Reason}
use Rattle.g1_explain.specs.declared.paths.Reason.TheVariants as reason
use Rattle.g1_explain.specs.Finders.{Lead, slot_leads}
use Rattle.g1_explain.specs.Humongous.{run}
use Rattle.g1_explain.specs.Keepers.{first_keeper}

-- a leg: an object, and what leads to it
abbrev pub leg : Heap → Finder → ℕ → Leg
leg h f a = record { object = object_at h a; finder = f }

-- legs that lead to an object, each from the object before it, and the first one from a root or from a slot on a card
pub data AreLegs (h : Heap) : List Leg → ℕ → Type 0 where
  root : (k a : ℕ) → k < length h.roots → slice_index h.roots k ≡ suc a → AreLegs h (leg h (Root k) a ∷ []) a
  card : (p a : ℕ) → Contains (refs h) (record { slot = p; target = a }) → AreLegs h (leg h (Card (card_of h p) p) a ∷ []) a
  slot : (legs : List Leg) (m b s a : ℕ) → AreLegs h legs b → s < (object_at h b).refs → word h (b + 1 + s) ≡ suc a → AreLegs h (legs ++ leg h (Slot m b s) a ∷ []) a

-- the number that a path has of a root or of an object's slot, and the address of a slot on a card
abbrev pub number : Finder → ℕ
number (Root k) = k
number (Card c p) = p
number (Slot m a s) = s

-- the path of legs
abbrev pub path_of : List Leg → List ℕ
path_of legs = map (λ l. number l.finder) legs

-- the slots of these numbers, each of an object of region r, lead from one reference word to another
abbrev pub LeadsWithin : Heap → ℕ → List ℕ → ℕ → ℕ → Type 0
LeadsWithin h r [] x y = x ≡ y
LeadsWithin h r (s ∷ ss) zero y = ⊥
LeadsWithin h r (s ∷ ss) (suc a) y = (region_of h a ≡ r) × (s < (object_at h a).refs) × LeadsWithin h r ss (word h (a + 1 + s)) y

-- the slot at address p, outside region r, and then slots of objects in it lead to the reference word
abbrev pub LeadsInto : Heap → ℕ → List ℕ → ℕ → Type 0
LeadsInto h r [] y = ⊥
LeadsInto h r (p ∷ ss) y = Contains (all_slots h) p × (region_of h p ≢ r) × LeadsWithin h r ss (word h p) y

-- the path leads there, no shorter one does, and none of its length that is lower
pub record IsFirst (Leads : List ℕ → Type 0) (p : List ℕ) : Type 0 where
  pub leads : Leads p
  pub first : (q : List ℕ) → Leads q → Before q p → ⊥

-- the slot that the first leg has: its card, and the object that holds it
pub record IsEntry (h : Heap) (e : Entry) (legs : List Leg) : Type 0 where
  pub object : Object
  pub rest : List Leg
  pub first : legs ≡ record { object = object; finder = Card e.card e.slot } ∷ rest
  pub card : e.card ≡ card_of h e.slot
  pub holder : Contains (objects h) e.holder
  pub holds : IsSlotOf e.holder e.slot

-- the region remembers the card, or it is dirty
abbrev pub is_known : Image → ℕ → ℕ → Bool
is_known i r c = has (remembered_of i r) c || has i.log c

-- the roots do not reach the object, and each slot that leads into its region from another one is covered
pub record IsUnrooted (i : Image) (a : ℕ) : Type 0 where
  pub dead : Live i.heap a → ⊥
  pub covered : uncovered_into i (region_of i.heap a) ≡ []

-- the object lies in a region that is not the first one of a humongous object
abbrev pub IsPlain : Heap → ℕ → Type 0
IsPlain h a = is_first (kind h (region_of h a)) ≡ false

-- it lies in the first one of a humongous object
abbrev pub IsLarge : Heap → ℕ → Type 0
IsLarge h a = is_first (kind h (region_of h a)) ≡ true

-- the survivors of the region of the object
abbrev pub SurvivesAlone : Heap → ℕ → Type 0
SurvivesAlone h a = Reached (seeds h (region_of h a ∷ [])) (children h (region_of h a ∷ [])) a

-- the references to a humongous object from slots outside its regions, by slot
abbrev pub outside_leads : Heap → ℕ → List Lead
outside_leads h a = filter (λ l. l.target == a) (slot_leads h (run h (region_of h a)))

-- the entry has the first of them, and the path is the one leg from there
pub record IsFirstOutside (h : Heap) (a : ℕ) (e : Entry) (legs : List Leg) : Type 0 where
  pub keeper : first_keeper (outside_leads h a) ≡ By (Card e.card e.slot)
  pub one_leg : legs ≡ leg h (Card e.card e.slot) a ∷ []

-- WHAT KEEPS THE OBJECT at an address: a path from a root; or, in a pause of its region alone, one from a slot of another region; or nothing.
-- A humongous object is kept by the first slot outside it that references it, if there is one
abbrev pub IsReason : Image → ℕ → Reason → Type 0
IsReason i a (reason.Live legs) = AreLegs i.heap legs.items a × IsFirst (λ p. LeadsTo i.heap p (suc a)) (path_of legs.items)
IsReason i a (reason.Kept entry legs) =
    IsUnrooted i a × AreLegs i.heap legs.items a × IsEntry i.heap entry legs.items × (is_known i (region_of i.heap a) entry.card ≡ true)
    × (IsPlain i.heap a → IsFirst (λ p. LeadsInto i.heap (region_of i.heap a) p (suc a)) (path_of legs.items))
    × (IsLarge i.heap a → IsFirstOutside i.heap a entry legs.items)
IsReason i a reason.Garbage = IsUnrooted i a × (IsPlain i.heap a → SurvivesAlone i.heap a → ⊥) × (IsLarge i.heap a → outside_leads i.heap a ≡ [])

-- why nothing is told: memory ran out; or no root leads to the object, and a slot that leads into its region isn't covered: the lowest one
abbrev pub IsReasonFault : Image → ℕ → Fault → Type 0
IsReasonFault i a fault =
    (fault ≡ Memory) ⊎ ((Live i.heap a → ⊥) × (p : ℕ) × (rest : List ℕ) × (uncovered_into i (region_of i.heap a) ≡ p ∷ rest) × (fault ≡ Uncovered p))

-- ---- how the entry is found

-- the slot references an object
abbrev pub IsReferring : Heap → ℕ → Type 0
IsReferring h p = (a : ℕ) × Contains (refs h) (record { slot = p; target = a })

-- the first leg leads from a slot that does, on its card
pub record StartsAtSlot (h : Heap) (legs : List Leg) : Type 0 where
  pub slot : ℕ
  pub target : ℕ
  pub rest : List Leg
  pub first : legs ≡ leg h (Card (card_of h slot) slot) target ∷ rest
  pub there : IsReferring h slot

-- objects stand end to end from an address up to the one that holds a slot
pub record ReachesHolder (h : Heap) (at slot : ℕ) : Type 0 where
  pub holder : Object
  pub there : Contains (objects h) holder
  pub holds : IsSlotOf holder slot
  pub row : Reaches h.words at holder.at
