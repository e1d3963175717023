-- What one heap has: its objects lie within its words, and its references name objects.
use Rattle.std.proofs.Common.{◌≡◌, ℕ, suc, ◌+◌, ◌<◌, ◌-◌, length, Contains, refl, sym, ap, subst, ◌∙◌, arith, slice_index, zero}
use Rattle.std.proofs.lemmas.List.{get_or_default}
use Rattle.std.proofs.lemmas.List.Elements.{Contains-get_or}
use Rattle.g1_words.specs.Heap.{Heap, word, object_at, objects, slots}
use Rattle.g1_words.specs.Valid.{IsValid, IsReference}
use Rattle.g1_words.specs.References.{named, root_targets, targets}
use Rattle.g1_words.specs.Live.{Live, seed, child}
use Rattle.g1_words.proofs.Members.{Contains-flat_map, flat_map_cases}
use Rattle.g1_words.proofs.Computed.{contains_has, Contains-range, range_below, range_above}
use Rattle.g1_words.proofs.Sound.{sound, reference_named, named_suc}

-- a reference word that isn't null names an object
pub object_named : (h : Heap) (x a : ℕ) → IsValid h → IsReference h x → x ≡ suc a → Contains (objects h) (object_at h a)
object_named h x a valid r e = reference_named h x a valid r (subst (λ z. Contains (named z) a) (sym e) (zero, omega arith, refl))

pub root_names : (h : Heap) (n : ℕ) → IsValid h → n < length h.roots → IsReference h (slice_index h.roots n)
root_names h n valid lt = valid.roots n 0 lt

pub slot_names : (h : Heap) (a n : ℕ) → IsValid h → Contains (objects h) (object_at h a) → n < (object_at h a).refs → IsReference h (word h (a + 1 + n))
slot_names h a n valid c lt = valid.slots (object_at h a) (a + 1 + n) (contains_has h (object_at h a) valid.shaped c) (omega arith, omega arith)

-- what a root or a slot references is one of the targets
pub root_target : (h : Heap) (b n : ℕ) → n < length h.roots → slice_index h.roots n ≡ suc b → Contains (root_targets h) b
root_target h b n lt e = Contains-flat_map named h.roots (slice_index h.roots n) b (Contains-get_or h.roots n 0 lt) (subst (λ z. Contains (named z) b) (sym e) (zero, omega arith, refl))

pub slot_target : (h : Heap) (a b n : ℕ) → n < (object_at h a).refs → word h (a + 1 + n) ≡ suc b → Contains (targets h a) b
slot_target h a b n lt e =
    Contains-flat_map (λ p. named (word h p)) (slots (object_at h a)) (a + 1 + n) b
    (Contains-range (a + 1) (object_at h a).refs (a + 1 + n) (omega arith) (omega arith)) (subst (λ z. Contains (named z) b) (sym e) (zero, omega arith, refl))

-- what a root or the slot of a reached object references is reached
pub root_live : (h : Heap) (b n : ℕ) → n < length h.roots → slice_index h.roots n ≡ suc b → Live h b
root_live h b n lt e = seed (root_target h b n lt e)

pub slot_live : (h : Heap) (a b n : ℕ) → Live h a → n < (object_at h a).refs → word h (a + 1 + n) ≡ suc b → Live h b
slot_live h a b n live lt e = child live (slot_target h a b n lt e)

-- a reached object is named by a root or by a slot of a reached object
pub root_of : (h : Heap) (b : ℕ) → Contains (root_targets h) b → (n : ℕ) × (n < length h.roots) × (slice_index h.roots n ≡ suc b)
root_of h b c =
    let m = flat_map_cases named h.roots b c in
    let k = m.1 in
    (k.0, k.1, get_or_default h.roots k.0 0 m.0 k.1 ∙ k.2 ∙ named_suc m.0 b m.2)

pub slot_of : (h : Heap) (a b : ℕ) → Contains (targets h a) b → (n : ℕ) × (n < (object_at h a).refs) × (word h (a + 1 + n) ≡ suc b)
slot_of h a b c =
    let m = flat_map_cases (λ p. named (word h p)) (slots (object_at h a)) b c in
    let low = range_above (a + 1) (object_at h a).refs m.0 m.1 in
    let high = range_below (a + 1) (object_at h a).refs m.0 m.1 in
    let at : a + 1 + (m.0 - (a + 1)) ≡ m.0 = omega (arith, low) in
    (m.0 - (a + 1), omega (arith, low, high), ap (word h) at ∙ named_suc (word h m.0) b m.2)

pub live_object : (h : Heap) (a : ℕ) → IsValid h → Live h a → Contains (objects h) (object_at h a)
live_object h a valid (seed c) = (sound h valid).root_named a c
live_object h b valid (child {a = a} r c) =
    let s = slot_of h a b c in
    object_named h (word h (a + 1 + s.0)) b valid (slot_names h a s.0 valid (live_object h a valid r) s.1) s.2
