-- The places in the remembered sets, which move on with the slots.
use Rattle.std.proofs.Common.{◌≡◌, ◌≢◌, ◌≤◌, ◌<◌, ℕ, ◌+◌, ◌/◌, inl, inr, true, false, List, [], ◌∷◌, ◌++◌, length, slice_index, get_or, arith, sym, ap, subst, ◌∙◌, get_or-set_same}
use Rattle.std.proofs.Common.{get_or-set_other, ltb, ltb-true}
use Rattle.std.proofs.Math.ListN.{set, length-set}
use Rattle.std.specs.List.{AllWithin}
use Rattle.std.specs.List.Sorted.{IsStrictlyIncreasing, IsNonDecreasingBy}
use Rattle.std.proofs.lemmas.Bool.{cases_lt}
use Rattle.std.proofs.lemmas.List.{get_or_default, get_or_push, get_or_append_left, length-append}
use Rattle.std.proofs.lemmas.List.Kept.{AllPairs-from_increasing}
use Rattle.std.proofs.lemmas.List.Sorted.{IsNonDecreasingBy-from_all_adjacent}
use Rattle.std.proofs.lemmas.Nat.{le-div}
use Rattle.std.proofs.Math.Nat.{div-mul-le_self}
use Rattle.g1_words.specs.declared.object.Object.{Object}
use Rattle.g1_words.specs.Heap.{start, card_of}
use Rattle.g1_words.specs.Lists.{has}
use Rattle.g1_words.specs.Valid.{IsValid}
use Rattle.g1_words.proofs.Members.{has_from_contains}
use Rattle.g1_words.proofs.Indices.{not_has}
use Rattle.g1_words.proofs.Sound.{k_positive}
use Rattle.g1_image.specs.Image.{Image, remembered_of}
use Rattle.g1_rem.specs.Marks.{objects_from}
use Rattle.g1_rem.specs.Places.{IsBehind, AreBehind, AreReadyFor}
use Rattle.g1_rem.proofs.Between.{from_chain}

-- a place before which all cards are below one, and its own card not, tells whether that one is in the set
pub has_here : (xs : List ℕ) (place x : ℕ) → place < length xs → x ≡ get_or xs place x → has xs x ≡ true
has_here xs place x lt e = has_from_contains xs x (place, lt, sym e)

-- and where its own card is another, the set does not have it
pub has_not : (xs : List ℕ) (place card : ℕ) → IsStrictlyIncreasing xs → IsBehind xs place card → (place < length xs → card ≤ slice_index xs place)
    → (place < length xs → slice_index xs place ≡ card → ⊥) → has xs card ≡ false
has_not xs place card rising behind next other = not_has xs card (λ c.
    let at : slice_index xs c.0 ≡ card = get_or_default xs c.0 0 card c.1 ∙ c.2 in
    elim (cases_lt c.0 place) [
      | inl before ↦ (let k = behind.below c.0 before in omega (arith, k, at))
      | inr from ↦ (
          let inside : place < length xs = omega (arith, from, c.1) in
          elim (cases_lt place c.0) [
            | inl more ↦ (let k = AllPairs-from_increasing xs rising place c.0 0 more c.1 in omega (arith, k, next inside, at))
            | inr same ↦ (let e : place ≡ c.0 = omega (arith, from, same) in other inside (ap (slice_index xs) e ∙ at))
          ])
    ])

-- places behind an address are behind each later one
pub behind_later : (i : Image) (places : List ℕ) (p q : ℕ) → IsValid i.heap → p ≤ q → AreBehind i places p → AreBehind i places q
behind_later i places p q valid le b = record {
  one_each = b.one_each;
  each = λ r lt. record {
    within = (b.each r lt).within;
    below = λ k lt'. let one = (b.each r lt).below k lt' in omega (arith, one, le-div (p / i.heap.geometry.k) q i.heap.geometry.k (k_positive i.heap valid) (omega (arith, div-mul-le_self p i.heap.geometry.k, le)));
  };
}

-- one place moved on
pub behind_set : (i : Image) (places : List ℕ) (p r place : ℕ) → r < i.heap.geometry.n → AreBehind i places p →
    IsBehind (remembered_of i r) place (card_of i.heap p) → AreBehind i (set places r place) p
behind_set i places p r place lt b here = record {
  one_each = length-set places r place ∙ b.one_each;
  each = λ q lt'. elim (cases_lt q r) [
    | inl below ↦ other q lt' (λ e. omega (arith, e, below))
    | inr from ↦ elim (cases_lt r q) [
      | inl above ↦ other q lt' (λ e. omega (arith, e, above))
      | inr to ↦ (
          let e : r ≡ q = omega (arith, from, to) in
          let inside : r < length places = omega (arith, lt, b.one_each) in
          let now : slice_index (set places r place) r ≡ place = get_or-set_same places r place 0 inside in
          subst (λ z. IsBehind (remembered_of i z) (slice_index (set places r place) z) (card_of i.heap p)) e (subst (λ z. IsBehind (remembered_of i r) z (card_of i.heap p)) (sym now) here))
    ]
  ];
} where
  other : (q : ℕ) → q < i.heap.geometry.n → q ≢ r → IsBehind (remembered_of i q) (slice_index (set places r place) q) (card_of i.heap p)
  other q lt' ne = subst (λ z. IsBehind (remembered_of i q) z (card_of i.heap p)) (sym (get_or-set_other places r q place 0 ne)) (b.each q lt')

-- before the first slot of the regions from one on
pub ready_from : (i : Image) (places : List ℕ) (r : ℕ) → IsValid i.heap → r ≤ i.heap.geometry.n → AreBehind i places (start i.heap r) → AreReadyFor i places (objects_from i.heap r)
ready_from i places r valid le b = record { from = start i.heap r; behind = b; ahead = from_chain i.heap valid r le }

-- an object's slots are passed
pub ready_next : (i : Image) (places later : List ℕ) (o : Object) (os : List Object) (p : ℕ) → IsValid i.heap → (r : AreReadyFor i places (o ∷ os)) →
    p ≤ o.at + o.size → AreBehind i later p → AreReadyFor i later os
ready_next i places later o os p valid r le b = record {
  from = o.at + o.size;
  behind = behind_later i later p (o.at + o.size) valid le b;
  ahead = r.ahead.2;
}

-- the places are behind the next object's first slot
pub ready_at : (i : Image) (places : List ℕ) (o : Object) (os : List Object) → IsValid i.heap → AreReadyFor i places (o ∷ os) → AreBehind i places (o.at + 1)
ready_at i places o os valid r = behind_later i places r.from (o.at + 1) valid (omega (arith, r.ahead.0)) r.behind

-- in the first remembered sets, all cards before a place are below one
pub record ArePlaced (i : Image) (card count : ℕ) (places : List ℕ) : Type 0 where
  pub one_each : length places ≡ count
  pub each : (r : ℕ) → r < count → IsBehind (remembered_of i r) (slice_index places r) card

-- none yet
pub placed_none : (i : Image) (card : ℕ) (places : List ℕ) → places ≡ [] → ArePlaced i card 0 places
placed_none i card places none = record { one_each = ap length none; each = λ r lt. absurd (omega (arith, lt)) }

-- one set more
pub placed_more : (i : Image) (card count : ℕ) (places more : List ℕ) (place : ℕ) → ArePlaced i card count places → more ≡ places ++ place ∷ [] →
    IsBehind (remembered_of i count) place card → ArePlaced i card (count + 1) more
placed_more i card count places more place p e here = record {
  one_each = ap length e ∙ length-append places (place ∷ []) ∙ ap (λ x. x + 1) p.one_each;
  each = λ r lt. elim (cases_lt r count) [
    | inl less ↦ (
        let old : slice_index more r ≡ slice_index places r = ap (λ l. slice_index l r) e ∙ get_or_append_left places (place ∷ []) 0 r (omega (arith, less, p.one_each)) in
        subst (λ x. IsBehind (remembered_of i r) x card) (sym old) (p.each r less))
    | inr more_than ↦ (
        let same : count ≡ r = omega (arith, more_than, lt) in
        let new : slice_index more r ≡ place = ap (λ l. slice_index l r) e ∙ get_or_push places place 0 r (omega (arith, same, p.one_each)) in
        subst (λ x. IsBehind (remembered_of i r) x card) (sym new) (subst (λ q. IsBehind (remembered_of i q) place card) same here))
  ];
}

-- all sets, before the first slot of the regions from one on
pub placed_all : (i : Image) (r card count : ℕ) (places : List ℕ) → IsValid i.heap → r ≤ i.heap.geometry.n → card ≡ card_of i.heap (start i.heap r) →
    count ≡ i.heap.geometry.n → ArePlaced i card count places → AreReadyFor i places (objects_from i.heap r)
placed_all i r card count places valid le e all p =
    ready_from i places r valid le (record {
      one_each = p.one_each ∙ all;
      each = λ q lt. subst (IsBehind (remembered_of i q) (slice_index places q)) e (p.each q (omega (arith, lt, all)));
    })

-- a rising list's numbers do not fall
pub rising_pairs : (xs : List ℕ) → IsStrictlyIncreasing xs → IsNonDecreasingBy (λ (x : ℕ). x) xs
rising_pairs xs rising = IsNonDecreasingBy-from_all_adjacent (λ (x : ℕ). x) xs (λ k d lt.
    let one = get_or_default xs k d 0 (omega (arith, lt)) in
    let next = get_or_default xs (k + 1) d 0 lt in
    let r = rising k (omega (arith, lt)) in
    omega (arith, r, one, next))

-- those below a card are before the place of the first that isn't
pub behind_point : (xs : List ℕ) (card place : ℕ) → place ≤ length xs → AllWithin (λ (x : ℕ). ltb x card ≡ true) xs 0 place → IsBehind xs place card
behind_point xs card place within below = record {
  within = within;
  below = λ k lt. ltb-true (slice_index xs k) card (below k 0 (omega arith) lt);
}
