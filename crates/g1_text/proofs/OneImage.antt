-- The full text of an image is that of no other.
use Rattle.std.proofs.Common.{◌≡◌, ℕ, zero, suc, ◌+◌, ◌-◌, ◌*◌, ◌/◌, ◌<◌, ◌≤◌, ◌^◌, inl, inr, List, [], ◌∷◌, length, get_or, take, drop, map, refl, sym, ◌∙◌, ap, subst, arith, Contains}
use Rattle.std.specs.Prelude.{decimal, slice_index}
use Rattle.std.proofs.lemmas.Bool.{cases_lt, cases_order}
use Rattle.std.proofs.lemmas.Fmt.{decimal_injective}
use Rattle.g1_words.specs.Heap.{Heap, kind, start, end, objects_in, objects_by}
use Rattle.g1_words.specs.Valid.{IsObject, IsFirst, HoldsBy, IsShapedBy, Tiles, IsValid}
use Rattle.g1_words.specs.declared.object.Object.{Object}
use Rattle.g1_words.specs.declared.region.Kind.{Kind}
use Rattle.g1_words.specs.declared.region.Kind.TheVariants.{Free, Ordinary, HumongousFirst, Continuation}
use Rattle.g1_words.proofs.Bounds.{object_within}
use Rattle.g1_words.proofs.Computed.{in_region_has, holds_are}
use Rattle.g1_words.proofs.Objects.{object_stands}
use Rattle.g1_words.proofs.Sound.{stands_object}
use Rattle.g1_image.specs.Image.{Image, IsImage}
use Rattle.g1_text.specs.Lines.{reference_word, slot_values, data_values, object_line}
use Rattle.g1_text.proofs.Splitting.{Small}
use Rattle.g1_text.proofs.Bounded.{object_small, slots_small, data_small}
use Rattle.g1_text.proofs.Fields.{word_at, numbers_one, references_one, fronts_one, sizes_one}
use Rattle.g1_words.proofs.Members.{cons_cases, Contains-first, Contains-later}
use Rattle.g1_words.proofs.Members.{none_contains}

length_slice : (xs : List ℕ) (from count : ℕ) → from + count ≤ length xs → length (take count (drop from xs)) ≡ count
length_slice xs zero zero le = refl
length_slice [] zero (suc count) le = absurd (omega (arith, le))
length_slice (x ∷ xs) zero (suc count) le = let r = length_slice xs zero count (omega (arith, le)) in omega (arith, r)
length_slice [] (suc from) count le = absurd (omega (arith, le))
length_slice (x ∷ xs) (suc from) count le = length_slice xs from count (omega (arith, le))

at_slice : (xs : List ℕ) (from count k : ℕ) → k < count → slice_index (take count (drop from xs)) k ≡ slice_index xs (from + k)
at_slice [] zero (suc count) k lt = refl
at_slice [] (suc from) zero k lt = absurd (omega (arith, lt))
at_slice [] (suc from) (suc count) k lt = refl
at_slice xs zero zero k lt = absurd (omega (arith, lt))
at_slice (x ∷ xs) zero (suc count) zero lt = refl
at_slice (x ∷ xs) zero (suc count) (suc k) lt = let z : 0 + suc k ≡ suc (0 + k) = omega arith in at_slice xs zero count k (omega (arith, lt)) ∙ ap (slice_index (x ∷ xs)) (sym z)
at_slice (x ∷ xs) (suc from) count k lt = let z : suc from + k ≡ suc (from + k) = omega arith in at_slice xs from count k lt ∙ ap (slice_index (x ∷ xs)) (sym z)

-- an object in two lists of words: its slots and its data are the same
pub record SameWords (ws vs : List ℕ) (o : Object) : Type 0 where
  pub slots : slot_values ws o ≡ slot_values vs o
  pub data_words : data_values ws o ≡ data_values vs o

-- an object that lies in its words, with small numbers
pub record IsPlain (ws : List ℕ) (o : Object) : Type 0 where
  pub at : o.at < 2 ^ 64
  pub size : o.size < 2 ^ 64
  pub refs : o.refs < 2 ^ 64
  pub object : IsObject ws o
  pub within : o.at + o.size ≤ length ws
  pub slots : Small (slot_values ws o)
  pub data_words : Small (data_values ws o)

slots_count : (ws : List ℕ) (o : Object) → IsPlain ws o → length (slot_values ws o) ≡ o.refs
slots_count ws o p =
    let e : o.at + 1 + o.refs - (o.at + 1) ≡ o.refs = omega arith in
    ap (λ n. length (take n (drop (o.at + 1) ws))) e ∙ length_slice ws (o.at + 1) o.refs (let r = p.object.refs_fit in let w = p.within in omega (arith, r, w))

-- one line of an object tells the object, and its words
pub object_one : (ws vs : List ℕ) (o p : Object) → IsPlain ws o → IsPlain vs p → object_line ws o ≡ object_line vs p → (o ≡ p) × SameWords ws vs o
object_one ws vs o p a b e =
    let at : o.at ≡ p.at = decimal_injective o.at p.at a.at b.at (ap (word_at 1) e) in
    let sizes = sizes_one o.size o.refs p.size p.refs a.size a.refs b.size b.refs (ap (word_at 2) e) in
    let same : o ≡ p = (λ t. record { at = at t; size = sizes.0 t; refs = sizes.1 t }) in
    let lengths : length (map reference_word (slot_values ws o)) ≡ length (map reference_word (slot_values vs p)) =
    length_map (slot_values ws o) ∙ slots_count ws o a ∙ sizes.1 ∙ sym (slots_count vs p b) ∙ sym (length_map (slot_values vs p)) in
    let parts = fronts_one (map reference_word (slot_values ws o)) (map reference_word (slot_values vs p)) (map decimal (data_values ws o))
    (map decimal (data_values vs p)) lengths (ap (drop 3) e) in (
      same,
      record {
        slots = references_one (slot_values ws o) (slot_values vs p) a.slots b.slots parts.0 ∙ ap (slot_values vs) (sym same);
        data_words = numbers_one (data_values ws o) (data_values vs p) a.data_words b.data_words parts.1 ∙ ap (data_values vs) (sym same);
      },
    )
  where
    length_map : (xs : List ℕ) → length (map reference_word xs) ≡ length xs
    length_map [] = refl
    length_map (x ∷ xs) = let r = length_map xs in omega (arith, r)

pub objects_one : (ws vs : List ℕ) (os ps : List Object) → ((o : Object) → Contains os o → IsPlain ws o) → ((o : Object) → Contains ps o → IsPlain vs o) → map (object_line ws) os ≡ map (object_line vs) ps
    → (os ≡ ps) × ((o : Object) → Contains os o → SameWords ws vs o)
objects_one ws vs [] [] a b e = (refl, λ o m. absurd (none_contains o m))
objects_one ws vs [] (p ∷ ps) a b e = let l = ap length e in absurd (omega (arith, l))
objects_one ws vs (o ∷ os) [] a b e = let l = ap length e in absurd (omega (arith, l))
objects_one ws vs (o ∷ os) (p ∷ ps) a b e =
    let first = object_one ws vs o p (a o (zero, omega arith, refl)) (b p (zero, omega arith, refl)) (ap (λ (ls : List (List (List ℕ))). get_or ls 0 []) e) in
    let rest = objects_one ws vs os ps (λ q m. a q (suc m.0, omega (arith, m.1), m.2)) (λ q m. b q (suc m.0, omega (arith, m.1), m.2)) (ap (drop 1) e) in
    ((λ t. first.0 t ∷ rest.0 t), (λ q m. elim (cons_cases o os q m) [ inl s ↦ subst (SameWords ws vs) s first.1 | inr k ↦ rest.1 q k ]))

-- the words of an object that two lists of words both hold
pub word_one : (ws vs : List ℕ) (o : Object) (a : ℕ) → IsObject ws o → IsObject vs o → SameWords ws vs o → o.at ≤ a → a < o.at + o.size → slice_index ws a ≡ slice_index vs a
word_one ws vs o a p q s low high = elim (cases_order a o.at) [
  | inl e ↦ ap (slice_index ws) e ∙ p.header ∙ sym q.header ∙ ap (slice_index vs) (sym e)
  | inr c ↦ elim c [
    | inl lt ↦ absurd (omega (arith, lt, low))
    | inr gt ↦ elim (cases_lt a (o.at + 1 + o.refs)) [
      | inl lt ↦
          let k : ℕ = a - (o.at + 1) in
          let here : o.at + 1 + k ≡ a = omega (arith, gt) in
          let small : k < o.at + 1 + o.refs - (o.at + 1) = omega (arith, lt, gt) in
          ap (slice_index ws) (sym here) ∙ sym (at_slice ws (o.at + 1) (o.at + 1 + o.refs - (o.at + 1)) k small) ∙ ap (λ xs. slice_index xs k) s.slots
          ∙ at_slice vs (o.at + 1) (o.at + 1 + o.refs - (o.at + 1)) k small ∙ ap (slice_index vs) here
      | inr ge ↦
          let k : ℕ = a - (o.at + 1 + o.refs) in
          let here : o.at + 1 + o.refs + k ≡ a = omega (arith, ge) in
          let small : k < o.at + o.size - (o.at + 1 + o.refs) = omega (arith, high, ge) in
          ap (slice_index ws) (sym here) ∙ sym (at_slice ws (o.at + 1 + o.refs) (o.at + o.size - (o.at + 1 + o.refs)) k small) ∙ ap (λ xs. slice_index xs k) s.data_words
          ∙ at_slice vs (o.at + 1 + o.refs) (o.at + o.size - (o.at + 1 + o.refs)) k small ∙ ap (slice_index vs) here
    ]
  ]
]

-- an address among objects end to end lies in one of them
tile_at : (words : List ℕ) (from : ℕ) (os : List Object) (to a : ℕ) → Tiles words from os to → from ≤ a → a < to → (o : Object) × Contains os o × (o.at ≤ a) × (a < o.at + o.size)
tile_at words from [] to a t low high = absurd (omega (arith, t, low, high))
tile_at words from (o ∷ os) to a t low high = elim (cases_lt a (from + o.size)) [
  | inl lt ↦ (o, Contains-first o os, omega (arith, t.0, low), omega (arith, t.0, lt))
  | inr ge ↦ (let r = tile_at words (from + o.size) os to a t.2 ge high in (r.0, Contains-later o os r.0 r.1, r.2, r.3))
]

-- an address is that of a word of an object
pub record IsHeld (h : Heap) (a : ℕ) : Type 0 where
  pub home : ℕ
  pub object : Object
  pub in_heap : home < h.geometry.n
  pub member : Contains (objects_in h home) object
  pub from : object.at ≤ a
  pub to : a < object.at + object.size

first_member : (h : Heap) (r : ℕ) (o : Object) → IsFirst h r o → Contains (objects_in h r) o
first_member h r o first =
    let are : o ∷ [] ≡ objects_by HumongousFirst h r = holds_are HumongousFirst h r (o ∷ []) (o, first, refl) in
    let at_kind : objects_by HumongousFirst h r ≡ objects_in h r = ap (λ k. objects_by k h r) (sym first.kind) in
    subst (λ os. Contains os o) (are ∙ at_kind) (zero, omega arith, refl)

products : (m f w r : ℕ) → m + f ≡ r → m * w + f * w ≡ r * w
products m f w r e = let parts : (m + f) * w ≡ m * w + f * w = omega arith in sym parts ∙ ap (λ x. x * w) e

held_by : (k : Kind) (h : Heap) (r a : ℕ) → kind h r ≡ k → r < h.geometry.n → IsShapedBy k h r → start h r ≤ a → a < end h r → IsHeld h a
held_by Free h r a is lt s low high = absurd (omega (arith, s, low, high))
held_by Ordinary h r a is lt s low high =
    let tiles : Tiles h.words (start h r) s.2 (end h r) = subst (λ k. HoldsBy k h r s.2) is s.3 in
    let t = tile_at h.words (start h r) s.2 (end h r) a tiles low high in
    let are : s.2 ≡ objects_in h r = holds_are Ordinary h r s.2 tiles ∙ ap (λ k. objects_by k h r) (sym is) in
    record { home = r; object = t.0; in_heap = lt; member = subst (λ os. Contains os t.0) are t.1; from = t.2; to = t.3 }
held_by HumongousFirst h r a is lt s low high =
    record { home = r; object = s.0; in_heap = lt; member = first_member h r s.0 s.1; from = omega (arith, s.1.at, low); to = omega (arith, s.1.at, s.3, high) }
held_by Continuation h r a is lt s low high =
    let apart : (r - s.0) * h.geometry.w + s.0 * h.geometry.w ≡ r * h.geometry.w = products (r - s.0) s.0 h.geometry.w r (omega (arith, s.3)) in
    record {
      home = s.0;
      object = s.1;
      in_heap = omega (arith, lt, s.3);
      member = first_member h s.0 s.1 s.2;
      from = omega (arith, s.2.at, low, apart);
      to = omega (arith, s.2.at, s.4, s.5, high, apart);
    }

-- a used word is that of an object
pub held : (h : Heap) (r a : ℕ) → IsValid h → r < h.geometry.n → start h r ≤ a → a < end h r → IsHeld h a
held h r a valid lt low high = held_by (kind h r) h r a refl lt (valid.shaped r lt).by_kind low high

-- an object of an image is plain
pub plain : (i : Image) → IsImage i → (r : ℕ) (o : Object) → r < i.heap.geometry.n → Contains (objects_in i.heap r) o → IsPlain i.heap.words o
plain i good r o lt m =
    let valid = good.heap in
    let small = object_small i good r o lt m in
    let has = in_region_has i.heap r o valid.shaped lt m in
    let stands = object_stands i.heap o (o.at / i.heap.geometry.w) valid has refl in
    record {
      at = small.0;
      size = small.1;
      refs = small.2;
      object = stands_object (kind i.heap (o.at / i.heap.geometry.w)) i.heap (o.at / i.heap.geometry.w) o stands.1;
      within = (let within = object_within i.heap valid o has in omega (arith, within, valid.word_count));
      slots = slots_small i good o;
      data_words = data_small i good o;
    }
