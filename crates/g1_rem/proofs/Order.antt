-- The objects of a heap come one after another.
use Rattle.std.proofs.Common.{◌≤◌, ◌<◌, ℕ, ◌+◌, ◌*◌, List, [], ◌∷◌, ◌++◌, flat_map, Contains, arith, sym, ap, subst, zero, suc}
use Rattle.g1_words.specs.declared.object.Object.{Object}
use Rattle.g1_words.specs.Heap.{Heap, objects, slots}
use Rattle.g1_words.specs.Valid.{Tiles, IsValid}
use Rattle.g1_words.proofs.Members.{Contains-first, Contains-later}
use Rattle.g1_words.proofs.Ordered.{Ordered, Ordered-from_pairs}
use Rattle.g1_words.proofs.Rising.{IsBefore, objects_apart}
use Rattle.g1_words.proofs.Bounds.{object_within}
use Rattle.g1_words.proofs.Computed.{contains_has, range_above, range_below}
use Rattle.g1_words.proofs.Sound.{sound}
use Rattle.g1_rem.specs.Marks.{Chain}
use Rattle.g1_rem.proofs.Rising.{Rises, Rises-weaken, Rises-append, Rises-range}

-- a chain from an address on is one from an earlier address on
pub Chain-weaken : (lo hi : ℕ) (os : List Object) → lo ≤ hi → Chain hi os → Chain lo os
Chain-weaken lo hi [] le c = tt
Chain-weaken lo hi (o ∷ os) le c = (omega (arith, c.0), c.1, c.2)

-- an object of a chain stands no earlier than the chain
pub Chain-above : (lo : ℕ) (os : List Object) (q : Object) → Chain lo os → Contains os q → (lo ≤ q.at) × (q.refs < q.size)
Chain-above lo [] q c i = absurd (omega (arith, i.1))
Chain-above lo (o ∷ os) q c (zero, b, e) = subst (λ x. (lo ≤ x.at) × (x.refs < x.size)) e (c.0, c.1)
Chain-above lo (o ∷ os) q c (suc j, b, e) = let k = Chain-above (o.at + o.size) os q c.2 (j, omega (arith, b), e) in (omega (arith, k.0, c.0), k.1)

-- of two objects, the one with the lower address ends before the other begins
pub Chain-apart : (lo : ℕ) (os : List Object) (o q : Object) → Chain lo os → Contains os o → Contains os q → o.at < q.at → o.at + o.size ≤ q.at
Chain-apart lo [] o q c i j lt = absurd (omega (arith, i.1))
Chain-apart lo (x ∷ os) o q c (zero, b, e) (zero, less, f) lt = absurd (omega (arith, ap (λ x. x.at) e, ap (λ x. x.at) f, lt))
Chain-apart lo (x ∷ os) o q c (zero, b, e) (suc i, less, eq) lt =
    let k = Chain-above (x.at + x.size) os q c.2 (i, omega (arith, less), eq) in subst (λ z. z.at + z.size ≤ q.at) e k.0
Chain-apart lo (x ∷ os) o q c (suc j, b, e) (zero, less, f) lt =
    let k = Chain-above (x.at + x.size) os o c.2 (j, omega (arith, b), e) in absurd (omega (arith, ap (λ x. x.at) f, k.0, lt))
Chain-apart lo (x ∷ os) o q c (suc k, b, e) (suc n, less, eq) lt = Chain-apart (x.at + x.size) os o q c.2 (k, omega (arith, b), e) (n, omega (arith, less), eq) lt

-- objects end to end, and a chain after them
pub Chain-tiles : (words : List ℕ) (from : ℕ) (os : List Object) (to : ℕ) (rest : List Object) → Tiles words from os to → Chain to rest → Chain from (os ++ rest)
Chain-tiles words from [] to rest t c = Chain-weaken from to rest (omega (arith, t)) c
Chain-tiles words from (o ∷ os) to rest t c =
    (omega (arith, t.0), t.1.refs_fit, subst (λ x. Chain (x + o.size) (os ++ rest)) (sym t.0) (Chain-tiles words (from + o.size) os to rest t.2 c))

-- a slot follows its object's header
pub slot_in : (o : Object) (p : ℕ) → Contains (slots o) p → (o.at < p) × (p ≤ o.at + o.refs)
slot_in o p i = (omega (arith, range_above (o.at + 1) o.refs p i), omega (arith, range_below (o.at + 1) o.refs p i))

-- the slots of a chain rise
pub Chain-slots : (lo : ℕ) (os : List Object) → Chain lo os → Rises lo (flat_map slots os)
Chain-slots lo [] c = tt
Chain-slots lo (o ∷ os) c =
    Rises-append lo (o.at + o.size) (slots o) (flat_map slots os)
    (Rises-weaken lo (o.at + 1) (slots o) (omega (arith, c.0)) (Rises-range (o.at + 1) o.refs))
    (Chain-slots (o.at + o.size) os c.2)
    (omega (arith, c.0))
    (λ p i. let b = slot_in o p i in omega (arith, b.1, c.1))

-- objects each of which ends before all later ones begin
Chain-from_ordered : (lo : ℕ) (os : List Object) → Ordered IsBefore os → ((o : Object) → Contains os o → (lo ≤ o.at) × (o.refs < o.size)) → Chain lo os
Chain-from_ordered lo [] ordered each = tt
Chain-from_ordered lo (o ∷ os) ordered each =
    let front = each o (Contains-first o os) in
    (front.0, front.1, Chain-from_ordered (o.at + o.size) os ordered.1 (λ q i. (ordered.0 q i, (each q (Contains-later o os q i)).1)))

module _ (h : Heap) (valid : IsValid h) where
  -- the objects of a heap come one after another
  pub objects_chain : Chain 0 (objects h)
  objects_chain =
      Chain-from_ordered 0 (objects h) (Ordered-from_pairs IsBefore (objects h) (objects_apart h valid))
      (λ o i. (omega arith, (sound h valid).slots_fit o i))

  -- each ends within the words
  pub object_fits : (o : Object) → Contains (objects h) o → o.at + o.size ≤ h.geometry.n * h.geometry.w
  object_fits o c = object_within h valid o (contains_has h o valid.shaped c)
