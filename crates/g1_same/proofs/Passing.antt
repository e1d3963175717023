-- No stale word between two ways: none yet, one place more, all of a row, and those of a walk that has grown.
use Rattle.std.proofs.Common.{◌≡◌, ℕ, zero, suc, ◌+◌, ◌-◌, ◌<◌, ◌≤◌, inl, inr, true, false, List, length, Contains, sym, ap, subst, ◌∙◌, arith, ltb, ltb-true, lt-ltb, get_or, slice_index}
use Rattle.std.specs.Prelude.{AllPairs}
use Rattle.std.specs.List.{AllWithin}
use Rattle.std.specs.List.Sorted.{IsNonDecreasingBy}
use Rattle.std.proofs.lemmas.Bool.{cases_lt, false≢true}
use Rattle.std.proofs.lemmas.List.{get_or_default}
use Rattle.g1_words.specs.Heap.{Heap}
use Rattle.g1_image.specs.Stale.{HasLowerPlace}
use Rattle.g1_same.specs.declared.walk.Walk.{Walk}
use Rattle.g1_same.specs.declared.stale.StaleWords.{StaleWords}
use Rattle.g1_same.specs.Walk.{IsWay, IsEarlier, HasGrown}
use Rattle.g1_same.specs.Behind.{IsStaleAt, AreByPlace, HasNoneAt, PassesNoStale}
use Rattle.g1_same.proofs.First.{none_between, way_cases}
use Rattle.g1_same.proofs.Between.{way_one, way_less, earlier_not, upto, upto_row}

-- no stale word is at a way whose word after is this one
abbrev pub IsPlain : StaleWords → Walk → ℕ → ℕ → ℕ → Type 0
IsPlain s w k n y = AreByPlace s → y ≡ 0 → (z : ℕ) → IsStaleAt s w k n z → ⊥

pub passes_none : (g h : Heap) (s : StaleWords) (w : Walk) (f m : ℕ) → PassesNoStale g h s w f m f m
passes_none g h s w f m rising i j x z from to way c = absurd (from to)

-- one place more
pub passes_step : (g h : Heap) (s : StaleWords) (w : Walk) (f m k n x y : ℕ) → PassesNoStale g h s w f m k n → IsWay g h w.before.items w.after.items k n x y
    → IsPlain s w k n y → PassesNoStale g h s w f m k (n + 1)
passes_step g h s w f m k n x y passes here plain rising i j u z from to way c = elim (way_cases i j k n) [
  | inl e ↦ passes rising i j u z from e way c
  | inr d ↦ elim d [
    | inl e ↦
        let there : IsWay g h w.before.items w.after.items k n u 0 =
        subst (λ q. IsWay g h w.before.items w.after.items q n u 0) e.0 (subst (λ q. IsWay g h w.before.items w.after.items i q u 0) e.1 way) in
        let one = way_one g h w.before.items w.after.items k n x y u 0 here there in
        plain rising one.1 z (subst (λ q. IsStaleAt s w q n z) e.0 (subst (λ q. IsStaleAt s w i q z) e.1 c))
    | inr e ↦ absurd (none_between i j k n e to)
  ]
]

-- the row is at its end
pub passes_row : (g h : Heap) (s : StaleWords) (w : Walk) (f m k n : ℕ) → PassesNoStale g h s w f m k n
    → ((j x y : ℕ) → IsWay g h w.before.items w.after.items k j x y → j < n) → PassesNoStale g h s w f m (k + 1) 0
passes_row g h s w f m k n passes end rising i j x z from (inr e) way c = absurd (omega (arith, e.1))
passes_row g h s w f m k n passes end rising i j x z from (inl e) way c = elim (cases_lt i k) [
  | inl lt ↦ passes rising i j x z from (inl lt) way c
  | inr ge ↦
      let same : i ≡ k = omega (arith, e, ge) in
      passes rising i j x z from (inr (same, end j x 0 (subst (λ q. IsWay g h w.before.items w.after.items q j x 0) same way))) way c
]

stale_less : (s : StaleWords) (w v : Walk) → HasGrown w v → (i j z : ℕ) → i ≤ length w.before.items → IsStaleAt s v i j z → IsStaleAt s w i j z
stale_less s w v grown zero j z le c = c
stale_less s w v grown (suc i) j z le c = subst (λ q. Contains s.slots.now (q + 1 + j, z)) (grown.news i (omega (arith, le))) c

passes_kept_by : (g h : Heap) (s : StaleWords) (w v : Walk) (f m k n : ℕ) → HasGrown w v → ((i j : ℕ) → IsEarlier i j k n → i ≤ length w.before.items)
    → PassesNoStale g h s w f m k n → PassesNoStale g h s v f m k n
passes_kept_by g h s w v f m k n grown within passes rising i j x z from to way c =
    let le = within i j to in
    passes rising i j x z from to (way_less g h w v grown i j x 0 le way) (stale_less s w v grown i j z le c)

pub passes_kept : (g h : Heap) (s : StaleWords) (w v : Walk) (f m k n : ℕ) → HasGrown w v → k ≤ length w.before.items → PassesNoStale g h s w f m k n → PassesNoStale g h s v f m k n
passes_kept g h s w v f m k n grown le passes = passes_kept_by g h s w v f m k n grown (λ i j e. upto k n (length w.before.items) i j le e) passes

-- at the head of a row
pub passes_kept_row : (g h : Heap) (s : StaleWords) (w v : Walk) (f m k : ℕ) → HasGrown w v → k ≤ length w.before.items + 1 → PassesNoStale g h s w f m k 0 → PassesNoStale g h s v f m k 0
passes_kept_row g h s w v f m k grown le passes = passes_kept_by g h s w v f m k 0 grown (λ i j e. upto_row k (length w.before.items) i j le e) passes

pub passes_trans : (g h : Heap) (s : StaleWords) (w : Walk) (f m k n r t : ℕ) → PassesNoStale g h s w f m k n → PassesNoStale g h s w k n r t → PassesNoStale g h s w f m r t
passes_trans g h s w f m k n r t a b rising i j x z from to way c = elim (way_cases i j k n) [
  | inl e ↦ a rising i j x z from e way c
  | inr d ↦ b rising i j x z (λ q. elim d [
    | inl e ↦ elim q [ inl l ↦ omega (arith, l, e.0) | inr l ↦ omega (arith, l.1, e.1) ]
    | inr e ↦ earlier_not i j k n q e
  ]) to way c
]

pub passes_less : (g h : Heap) (s : StaleWords) (w : Walk) (f m k n r t : ℕ) → PassesNoStale g h s w f m k n
    → ((i j : ℕ) → IsEarlier i j r t → IsEarlier i j k n) → PassesNoStale g h s w f m r t
passes_less g h s w f m k n r t passes within rising i j x z from to way c = passes rising i j x z from (within i j to) way c

-- ---- what is at a place

-- a root that the list has not
pub plain_root : (s : StaleWords) (w : Walk) (n y : ℕ) → HasNoneAt s.roots.now n y → IsPlain s w 0 n y
plain_root s w n y none rising null z c = none rising.roots null z c

slot_stale : (s : StaleWords) (w : Walk) (f n b z : ℕ) → 0 < f → slice_index w.after.items (f - 1) ≡ b → IsStaleAt s w f n z → Contains s.slots.now (b + 1 + n, z)
slot_stale s w zero n b z some is c = absurd (omega (arith, some))
slot_stale s w (suc j) n b z some is c =
    let e : suc j - 1 ≡ j = omega arith in
    subst (λ q. Contains s.slots.now (q + 1 + n, z)) (subst (λ k. slice_index w.after.items k ≡ b) e is) c

-- a slot that the list has not
pub plain_slot : (s : StaleWords) (w : Walk) (f n b y : ℕ) → 0 < f → slice_index w.after.items (f - 1) ≡ b → HasNoneAt s.slots.now (b + 1 + n) y → IsPlain s w f n y
plain_slot s w f n b y some is none rising null z c = none rising.slots null z (slot_stale s w f n b z some is c)

-- ---- a list that rises by place

-- what the entry behind those below a place says of the list
pub record IsPoint (l : List (ℕ × ℕ)) (place n : ℕ) : Type 0 where
  pub within : n ≤ length l
  pub below : (k : ℕ) (d : ℕ × ℕ) → k < n → (get_or l k d).0 < place
  pub behind : (k : ℕ) (d : ℕ × ℕ) → n ≤ k → k < length l → place ≤ (get_or l k d).0

pub point_of : (l : List (ℕ × ℕ)) (place n : ℕ) → n ≤ length l → AllWithin (λ (x : ℕ × ℕ). ltb x.0 place ≡ true) l 0 n → AllWithin (λ (x : ℕ × ℕ). ltb x.0 place ≡ false) l n (length l)
    → IsPoint l place n
point_of l place n within below above = record {
  within = within;
  below = λ k d lt. ltb-true (get_or l k d).0 place (below k d (omega arith) lt);
  behind = λ k d le lt. elim (cases_lt (get_or l k d).0 place) [
    | inl less ↦ absurd (false≢true (sym (above k d le lt) ∙ lt-ltb (get_or l k d).0 place less))
    | inr ge ↦ ge
  ];
}

pub places_rise : (l : List (ℕ × ℕ)) → AllPairs HasLowerPlace l → IsNonDecreasingBy (λ (x : ℕ × ℕ). x.0) l
places_rise l rising i j d le lt = elim (cases_lt i j) [
  | inl less ↦ let k = rising i j d less lt in omega (arith, k)
  | inr ge ↦
      let e : i ≡ j = omega (arith, le, ge) in
      let same : (get_or l i d).0 ≡ (get_or l j d).0 = ap (λ k. (get_or l k d).0) e in
      omega (arith, same)
]

module _ (l : List (ℕ × ℕ)) (place n z : ℕ) (rising : AllPairs HasLowerPlace l) (point : IsPoint l place n) (c : Contains l (place, z)) where
  at_place : (get_or l c.0 (place, z)).0 ≡ place
  at_place = ap (λ (e : ℕ × ℕ). e.0) c.2

  -- the place's own entry is the one behind those below it
  pub point_is : c.0 ≡ n
  point_is = elim (cases_lt c.0 n) [
    | inl less ↦ absurd (let k = point.below c.0 (place, z) less in omega (arith, k, at_place))
    | inr ge ↦ elim (cases_lt n c.0) [
      | inl more ↦
          let a = rising n c.0 (place, z) more c.1 in
          let b = point.behind n (place, z) (omega arith) (omega (arith, more, c.1)) in
          absurd (omega (arith, a, b, at_place))
      | inr le ↦ omega (arith, ge, le)
    ]
  ]

  pub point_within : n < length l
  point_within = omega (arith, point_is, c.1)

  pub point_place : (d : ℕ × ℕ) → (get_or l n d).0 ≡ place
  point_place d =
      let e : get_or l n d ≡ get_or l n (place, z) = get_or_default l n d (place, z) point_within in
      ap (λ (x : ℕ × ℕ). x.0) e ∙ ap (λ k. (get_or l k (place, z)).0) (sym point_is) ∙ at_place
