-- The table of fates that is made for a plan.
use Rattle.std.proofs.Common.{◌≡◌, ◌≢◌, ℕ, ◌+◌, ◌<◌, inl, inr, Bool, true, false, cond, ◌||◌, List, ◌++◌, All, AllPairs, Some, None, length, get_or, set, replicate, Contains}
use Rattle.std.proofs.Common.{position, refl, sym, ◌∙◌, ap, subst, arith, eqb}
use Rattle.std.proofs.lemmas.Bool.{cases_Bool, cases_lt, cases_order, false≢true}
use Rattle.std.proofs.lemmas.List.{get_or_default, get_or-replicate, get_or-set_other, get_or-set_same, length-replicate, length-set}
use Rattle.std.proofs.lemmas.List.Elements.{Contains-get_or}
use Rattle.g1_layout.proofs.Conditions.{set_in_heap}
use Rattle.g1_layout.specs.Plan.{Plan}
use Rattle.g1_words.proofs.Firsts.{Distinct}
use Rattle.g1_words.proofs.Indices.{is_free_region, taken_in}
use Rattle.g1_words.proofs.Lists.{has_both}
use Rattle.g1_words.proofs.Members.{has_from_contains, Contains-from_has}
use Rattle.g1_words.proofs.NextFit.{distinct_places, free_distinct}
use Rattle.g1_words.proofs.Sound.{w_positive}
use Rattle.g1_words.specs.Heap.{Heap}
use Rattle.g1_words.specs.Layout.{free_regions, need, to_space}
use Rattle.g1_words.specs.Lists.{has}
use Rattle.g1_words.specs.Valid.{IsValid}
use Rattle.g1_copy.specs.Fates.{AreFates, AreReplaced, fate_at, fate_of, filled_or_kept}
use Rattle.g1_copy.specs.Plans.{IsPauseOf}
use Rattle.g1_copy.specs.declared.fates.Fate.{Fate}
use Rattle.g1_copy.specs.declared.fates.Fate.TheVariants.{Freed, Filled, Kept}
use Rattle.g1_copy.proofs.InPlaceSlices.{Distinct-take, is_position, no_position}

-- numbers and lists

place_of : (xs : List ℕ) (x : ℕ) → Contains xs x → (t : ℕ) × (t < length xs) × (get_or xs t 0 ≡ x)
place_of xs x c = (c.0, c.1, get_or_default xs c.0 0 x c.1 ∙ c.2)

-- the three fates

-- a region is of the set, or the t-th of to-space, or neither
pub data HasFate (set to : List ℕ) (r : ℕ) : Type 0 where
  is_freed : has set r ≡ true → fate_of set to r ≡ Freed → HasFate set to r
  is_filled : (t : ℕ) → t < length to → get_or to t 0 ≡ r → has set r ≡ false → has to r ≡ true → fate_of set to r ≡ Filled t → HasFate set to r
  is_kept : has set r ≡ false → has to r ≡ false → fate_of set to r ≡ Kept → HasFate set to r

fate_at_tests : (set to : List ℕ) → Distinct to → (r : ℕ) (a b : Bool) → has set r ≡ a → has to r ≡ b → HasFate set to r
fate_at_tests set to once r true b e f = is_freed e (λ q. cond (e q) Freed (filled_or_kept (position (λ d. eqb d r) to)))
fate_at_tests set to once r false true e f =
    let k = place_of to r (Contains-from_has to r f) in
    let p : position (λ d. eqb d r) to ≡ Some k.0 = subst (λ y. position (λ d. eqb d y) to ≡ Some k.0) k.2 (is_position to k.0 once k.1) in
    is_filled k.0 k.1 k.2 e f (λ q. cond (e q) Freed (filled_or_kept (p q)))
fate_at_tests set to once r false false e f =
    let p : position (λ d. eqb d r) to ≡ None = no_position to r (λ m. false≢true (sym f ∙ has_from_contains to r m)) in
    is_kept e f (λ q. cond (e q) Freed (filled_or_kept (p q)))

pub has_fate : (set to : List ℕ) → Distinct to → (r : ℕ) → HasFate set to r
has_fate set to once r = fate_at_tests set to once r (has set r) (has to r) refl refl

-- the run of a fate
abbrev run_of : Fate → ℕ
run_of Freed = 0
run_of (Filled t) = t
run_of Kept = 0

abbrev is_run : Fate → Bool
is_run Freed = false
is_run (Filled t) = true
is_run Kept = false

-- a region that is filled by a run is of to-space
pub run_there : (set to : List ℕ) → Distinct to → (r t : ℕ) → fate_of set to r ≡ Filled t → (t < length to) × (get_or to t 0 ≡ r)
run_there set to once r t e = elim (has_fate set to once r) [
  | is_freed h f ↦ absurd (false≢true (ap is_run (sym f ∙ e)))
  | is_filled k lt at a b f ↦
      let same : k ≡ t = ap run_of (sym f ∙ e) in
      (omega (arith, lt, same), ap (λ i. get_or to i 0) (sym same) ∙ at)
  | is_kept a b f ↦ absurd (false≢true (ap is_run (sym f ∙ e)))
]

-- the table, place by place

pub Replaced-start : (place : ℕ → ℕ) (told : ℕ → Fate) (old : List Fate) → AreReplaced 0 place told old old
Replaced-start place told old = record { size = refl; replaced = λ t lt. absurd (omega arith); others = λ r f. refl }

module _ (n : ℕ) (place : ℕ → ℕ) (told : ℕ → Fate) (old cur new : List Fate) (before : AreReplaced n place told old cur)
    (there : place n < length old) (agree : (t : ℕ) → t < n → place t ≡ place n → told t ≡ told n)
    (is : new ≡ set cur (place n) (told n)) where
  replaced_here : get_or new (place n) Kept ≡ told n
  replaced_here = ap (λ xs. get_or xs (place n) Kept) is ∙ get_or-set_same cur (place n) (told n) Kept (omega (arith, there, before.size))

  replaced_off : (r : ℕ) → (r ≡ place n → ⊥) → get_or new r Kept ≡ get_or cur r Kept
  replaced_off r f = ap (λ xs. get_or xs r Kept) is ∙ get_or-set_other cur (place n) r (told n) Kept f

  replaced_each : (t : ℕ) → t < n + 1 → get_or new (place t) Kept ≡ told t
  replaced_each t lt = elim (cases_lt t n) [
    | inr ge ↦
        let e : n ≡ t = omega arith in
        subst (λ k. get_or new (place k) Kept ≡ told k) e replaced_here
    | inl less ↦ elim (cases_order (place t) (place n)) [
      | inl e ↦ ap (λ k. get_or new k Kept) e ∙ replaced_here ∙ sym (agree t less e)
      | inr (inl a) ↦ replaced_off (place t) (λ e. absurd (omega (arith, e, a))) ∙ before.replaced t less
      | inr (inr a) ↦ replaced_off (place t) (λ e. absurd (omega (arith, e, a))) ∙ before.replaced t less
    ]
  ]

  -- one place more
  pub Replaced-step : AreReplaced (n + 1) place told old new
  Replaced-step = record {
    size = ap length is ∙ length-set cur (place n) (told n) ∙ before.size;
    replaced = replaced_each;
    others = λ r f. replaced_off r (λ e. f n (omega arith) (sym e)) ∙ before.others r (λ t lt. f t (omega arith));
  }

-- regions freed beside the set

-- one of them is freed
pub fate_freed : (set freed to : List ℕ) (r : ℕ) → has freed r ≡ true → fate_of (set ++ freed) to r ≡ Freed
fate_freed set freed to r e = ap (λ b. cond b Freed (filled_or_kept (position (λ d. eqb d r) to))) (has_both set freed r ∙ ap (λ b. has set r || b) e ∙ or_true_right (has set r)) where
  or_true_right : (b : Bool) → (b || true) ≡ true
  or_true_right true = refl
  or_true_right false = refl

-- any other has the fate that it had
pub fate_beside : (set freed to : List ℕ) (r : ℕ) → has freed r ≡ false → fate_of (set ++ freed) to r ≡ fate_of set to r
fate_beside set freed to r e = ap (λ b. cond b Freed (filled_or_kept (position (λ d. eqb d r) to))) (has_both set freed r ∙ ap (λ b. has set r || b) e ∙ or_false_right (has set r)) where
  or_false_right : (b : Bool) → (b || false) ≡ b
  or_false_right true = refl
  or_false_right false = refl

-- the table with these regions freed
pub freed_beside : (h : Heap) (set freed to : List ℕ) (one two : List Fate) → AreFates h set to one →
    AreReplaced (length freed) (λ t. get_or freed t 0) (λ t. Freed) one two → AreFates h (set ++ freed) to two
freed_beside h set freed to one two are new = record {
  one_each = new.size ∙ are.one_each;
  each = λ r lt. elim (cases_Bool (has freed r)) [
    | inl t ↦ let k = place_of freed r (Contains-from_has freed r t) in ap (fate_at two) (sym k.2) ∙ new.replaced k.0 k.1 ∙ sym (fate_freed set freed to r t)
    | inr e ↦
        new.others r (λ t less g. false≢true (sym e ∙ ap (has freed) (sym g) ∙ has_from_contains freed (get_or freed t 0) (Contains-get_or freed t 0 less)))
        ∙ are.each r lt ∙ sym (fate_beside set freed to r e)
  ];
}

-- what a plan tells

module _ (h : Heap) (chosen : List ℕ) (p : Plan) (valid : IsValid h) (pause : IsPauseOf h chosen p) where
  -- the regions of the set, and those of to-space, are the heap's
  pub set_below : All (λ r. r < h.geometry.n) chosen
  set_below = subst (λ xs. All (λ r. r < h.geometry.n) xs) pause.same (set_in_heap h p.set p.survivors valid pause.made.placeable)

  pub to_space_is : p.to_space ≡ to_space h p.survivors
  to_space_is = ap (λ (q : Plan). q.to_space) pause.made.plan

  to_space_free : (r : ℕ) → Contains (to_space h p.survivors) r → r < h.geometry.n
  to_space_free r m = (is_free_region h r (taken_in (need h p.survivors) (free_regions h) r m)).1

  pub to_space_below : (to : List ℕ) → to ≡ p.to_space → All (λ r. r < h.geometry.n) to
  to_space_below to e k d lt = to_space_free (get_or to k d) (subst (λ xs. Contains xs (get_or to k d)) (e ∙ to_space_is) (Contains-get_or to k d lt))

  pub once : Distinct (to_space h p.survivors)
  once = Distinct-take (need h p.survivors) (free_regions h) (free_distinct h (w_positive h valid))

  pub to_space_distinct : (to : List ℕ) → to ≡ p.to_space → AllPairs (λ r q. r ≢ q) to
  to_space_distinct to e i j d a b same = let k = distinct_places to i j d (subst Distinct (sym (e ∙ to_space_is)) once) (omega arith) b same in omega arith

  -- the table, filled and then freed
  module _ (to : List ℕ) (same : to ≡ p.to_space) (start one two : List Fate) (kept : start ≡ replicate h.geometry.n Kept)
      (filled : AreReplaced (length to) (λ t. get_or to t 0) (λ t. Filled t) start one)
      (freed : AreReplaced (length chosen) (λ t. get_or chosen t 0) (λ t. Freed) one two) where
    off : (xs : List ℕ) (r : ℕ) → has xs r ≡ false → (t : ℕ) → t < length xs → get_or xs t 0 ≡ r → ⊥
    off xs r e t lt g = false≢true (sym e ∙ ap (has xs) (sym g) ∙ has_from_contains xs (get_or xs t 0) (Contains-get_or xs t 0 lt))

    to_is : to ≡ to_space h p.survivors
    to_is = same ∙ to_space_is

    each_fate : (r : ℕ) → r < h.geometry.n → fate_at two r ≡ fate_of chosen (to_space h p.survivors) r
    each_fate r lt = elim (has_fate chosen (to_space h p.survivors) once r) [
      | is_freed a f ↦
          let k = place_of chosen r (Contains-from_has chosen r a) in
          ap (fate_at two) (sym k.2) ∙ freed.replaced k.0 k.1 ∙ sym f
      | is_filled t less at a b f ↦
          let here : get_or to t 0 ≡ r = ap (λ xs. get_or xs t 0) to_is ∙ at in
          let less' : t < length to = subst (λ xs. t < length xs) (sym to_is) less in
          freed.others r (off chosen r a) ∙ ap (fate_at one) (sym here) ∙ filled.replaced t less' ∙ sym f
      | is_kept a b f ↦
          let b' : has to r ≡ false = ap (λ xs. has xs r) to_is ∙ b in
          freed.others r (off chosen r a) ∙ filled.others r (off to r b') ∙ ap (λ xs. fate_at xs r) kept ∙ get_or-replicate h.geometry.n r Kept Kept lt ∙ sym f
    ]

    pub fates_made : AreFates h chosen (to_space h p.survivors) two
    fates_made = record { one_each = freed.size ∙ filled.size ∙ ap length kept ∙ length-replicate h.geometry.n Kept; each = each_fate }
