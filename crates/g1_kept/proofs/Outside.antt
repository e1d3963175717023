-- The search over the objects outside the set, by address.
use Rattle.std.proofs.Common.{◌≡◌, ◌≢◌, ℕ, zero, suc, ◌+◌, ◌*◌, ◌<◌, ◌≤◌, inl, inr, List, [], ◌∷◌, length, flat_map, Contains, IsFalse, refl, sym, ap, subst, ◌∙◌, arith, slice_index, Bool}
use Rattle.std.proofs.Math.Nat.{div-mul-le_self, lt-div-mul-add, mul-le-mul_right}
use Rattle.std.proofs.lemmas.Bool.{cases_lt}
use Rattle.std.proofs.lemmas.List.Elements.{Contains-get_or}
use Rattle.g1_words.specs.declared.object.Object.{Object}
use Rattle.g1_words.specs.declared.region.Kind.TheVariants.{Free}
use Rattle.g1_words.specs.Lists.{has}
use Rattle.g1_words.specs.Heap.{Heap, kind, start, region_of, object_at, objects, objects_in, regions}
use Rattle.g1_words.specs.Valid.{IsValid}
use Rattle.g1_words.proofs.Computed.{Contains-range, in_region_has, has_contains}
use Rattle.g1_words.proofs.Lists.{Ordered-append_left, Ordered-append_right}
use Rattle.g1_words.proofs.Members.{Contains-map, flat_map_cases, map_cases}
use Rattle.g1_words.proofs.Objects.{div_between}
use Rattle.g1_words.proofs.Ordered.{Ordered, Ordered-from_pairs}
use Rattle.g1_words.proofs.Rising.{IsBefore, objects_apart}
use Rattle.g1_words.proofs.Sound.{sound, object_in}
use Rattle.g1_same.proofs.Tables.{place_of}
use Rattle.g1_kept.specs.declared.pairs.Pairs.{Pairs}
use Rattle.g1_kept.specs.Keeps.{IsOutside, KeepsTable}
use Rattle.g1_kept.specs.Walk.{Searches, HasTurn}
use Rattle.g1_kept.proofs.Regions.{starts_of, start_outside}
use Rattle.g1_kept.proofs.Search.{skip_to, turn_outside}

-- ---- the objects of a region rise

ordered_part : {A B : Type 0} (R : B → B → Type 0) (f : A → List B) (xs : List A) (x : A) → Contains xs x → Ordered R (flat_map f xs) → Ordered R (f x)
ordered_part R f [] x i o = absurd (omega (arith, i.1))
ordered_part R f (y ∷ xs) x (zero, b, e) o = subst (λ z. Ordered R (f z)) e (Ordered-append_left R (f y) (flat_map f xs) o)
ordered_part R f (y ∷ xs) x (suc k, b, e) o = ordered_part R f xs x (k, omega (arith, b), e) (Ordered-append_right R (f y) (flat_map f xs) o)

rise_of : (os : List Object) → Ordered IsBefore os → ((o : Object) → Contains os o → 0 < o.size) → (i j : ℕ) → i < j → j < length (starts_of os)
    → slice_index (starts_of os) i < slice_index (starts_of os) j
rise_of [] ordered some i j less lt = absurd (omega (arith, lt))
rise_of (o ∷ os) ordered some i zero less lt = absurd (omega (arith, less))
rise_of (o ∷ os) ordered some zero (suc j) less lt =
    let there : Contains (starts_of os) (slice_index (starts_of os) j) = Contains-get_or (starts_of os) j 0 (omega (arith, lt)) in
    let m = map_cases (λ (q : Object). q.at) os (slice_index (starts_of os) j) there in
    let before : o.at + o.size ≤ m.0.at = ordered.0 m.0 m.1 in
    let size : 0 < o.size = some o (zero, omega arith, refl) in
    let is : m.0.at ≡ slice_index (starts_of os) j = m.2 in
    omega (arith, before, size, is)
rise_of (o ∷ os) ordered some (suc i) (suc j) less lt = rise_of os ordered.1 (λ q k. some q (suc k.0, omega (arith, k.1), k.2)) i j (omega (arith, less)) (omega (arith, lt))

-- The walk has looked at the first objects of a region, and at nothing that comes after them.
pub record IsAlong (fill : Bool) (set : List ℕ) (g h : Heap) (w : Pairs) (starts : List ℕ) (r i : ℕ) : Type 0 where
  pub reached : ℕ
  pub from_start : start g r ≤ reached
  pub to_end : reached ≤ start g (r + 1)
  pub before_next : (j : ℕ) → i ≤ j → j < length starts → reached ≤ slice_index starts j
  pub none_left : (j : ℕ) → j < length starts → reached ≤ slice_index starts j → i ≤ j
  pub search : Searches fill set g h w (suc reached) 0

module _ (fill : Bool) (set : List ℕ) (g h : Heap) (left : IsValid g) (right : IsValid h) where
  some_words : 0 < g.geometry.w
  some_words = omega (arith, left.limits.w_least)

  region_from : (a r : ℕ) → region_of g a ≡ r → start g r ≤ a
  region_from a r e = subst (λ z. z * g.geometry.w ≤ a) e (div-mul-le_self a g.geometry.w)

  region_to : (a r : ℕ) → region_of g a ≡ r → a < start g (r + 1)
  region_to a r e =
      let k : a < r * g.geometry.w + g.geometry.w = subst (λ z. a < z * g.geometry.w + g.geometry.w) e (lt-div-mul-add {a = a} {b = g.geometry.w} some_words) in
      omega (arith, k)

  region_is : (a r : ℕ) → start g r ≤ a → a < start g (r + 1) → region_of g a ≡ r
  region_is a r from to = div_between a g.geometry.w r from (omega (arith, to))

  -- the regions' starts are within the heap
  start_within : (r : ℕ) → r < g.geometry.n → start g (r + 1) ≤ length g.words
  start_within r lt =
      let le : r + 1 ≤ g.geometry.n = omega (arith, lt) in
      let k : (r + 1) * g.geometry.w ≤ g.geometry.n * g.geometry.w = mul-le-mul_right g.geometry.w le in
      omega (arith, k, left.word_count)

  -- an object outside the set is one of its region's
  object_here : (t r : ℕ) → IsOutside set g h t → region_of g t ≡ r → Contains (objects_in g r) (object_at g t)
  object_here t r o e =
      let m = flat_map_cases (objects_in g) (regions g) (object_at g t) o.object in
      let c = m.2 in
      let there : region_of g t ≡ m.0 = (sound g left).in_region m.0 (object_at g t) c in
      subst (λ z. Contains (objects_in g z) (object_at g t)) (sym there ∙ e) c

  -- over a region of which nothing is looked at
  pub region_skipped : (w : Pairs) (r : ℕ) → r < g.geometry.n → (IsFalse (has set r) → kind g r ≢ Free → kind h r ≢ Free → ⊥)
      → Searches fill set g h w (suc (start g r)) 0 → Searches fill set g h w (suc (start g (r + 1))) 0
  region_skipped w r lt none search = skip_to fill set g h w.before.items w.after.items (start g r) (start g (r + 1)) (omega arith) search
      (λ t a b from to turn.
      let fits = start_within r lt in
      let o = turn_outside fill set g h w.before.items w.after.items t a b (omega (arith, fits, to)) turn in
      let here = region_is t r from to in
      none (ap (has set) (sym here) ∙ o.0.outside) (λ e. (sound g left).in_used (object_at g t) o.0.object (ap (kind g) here ∙ e)) (λ e. o.0.in_use (ap (kind h) here ∙ e)))

  module _ (table : KeepsTable fill set g h) (r : ℕ) (lt : r < g.geometry.n) (out : IsFalse (has set r)) (used : kind g r ≢ Free) (in_use : kind h r ≢ Free)
      (starts : List ℕ) (is : starts ≡ starts_of (objects_in g r)) where
    at_region : (i : ℕ) → i < length starts → region_of g (slice_index starts i) ≡ r
    at_region i p =
        let m = map_cases (λ (o : Object). o.at) (objects_in g r) (slice_index starts i) (subst (λ l. Contains l (slice_index starts i)) is (Contains-get_or starts i 0 p)) in
        let here : region_of g m.0.at ≡ r = (sound g left).in_region r m.0 m.1 in
        subst (λ z. region_of g z ≡ r) m.2 here

    rise : (i j : ℕ) → i < j → j < length starts → slice_index starts i < slice_index starts j
    rise = subst (λ l. (i j : ℕ) → i < j → j < length l → slice_index l i < slice_index l j) (sym is) (rise_of (objects_in g r) ordered some)
      where
        place : Contains (regions g) r
        place = Contains-range 0 g.geometry.n r (omega arith) (omega (arith, lt))

        ordered : Ordered IsBefore (objects_in g r)
        ordered = ordered_part IsBefore (objects_in g) (regions g) r place (Ordered-from_pairs IsBefore (objects g) (objects_apart g left))

        some : (o : Object) → Contains (objects_in g r) o → 0 < o.size
        some o i =
            let c : Contains (objects g) o = has_contains g o (in_region_has g r o left.shaped lt i) in
            let k = (sound g left).slots_fit o c in
            omega (arith, k)

    -- each object outside the set that is in the region is one of these
    one_of_starts : (t : ℕ) → IsOutside set g h t → start g r ≤ t → t < start g (r + 1) → (j : ℕ) × (j < length starts) × (slice_index starts j ≡ t)
    one_of_starts t o from to =
        let c = object_here t r o (region_is t r from to) in
        place_of starts t (subst (λ l. Contains l t) (sym is) (Contains-map (λ (q : Object). q.at) (objects_in g r) (object_at g t) c))

    pub along_start : (w : Pairs) → Searches fill set g h w (suc (start g r)) 0 → IsAlong fill set g h w starts r 0
    along_start w search = record {
      reached = start g r;
      from_start = omega arith;
      to_end = omega arith;
      before_next = λ j le p. region_from (slice_index starts j) r (at_region j p);
      none_left = λ j p le. omega arith;
      search = search;
    }

    -- the turn of an object of the region
    pub start_turn : (w : Pairs) (i : ℕ) → i < length starts → (a : ℕ) → a ≡ slice_index starts i → HasTurn set g h w a a a
    start_turn w i p a e =
        let o = start_outside fill set g h left right table r lt out used in_use starts is i p in
        let k = object_in g (slice_index starts i) left o.object in
        let within : a < length g.words = omega (arith, k.0, k.1, e) in
        inl (within, subst (IsOutside set g h) (sym e) o, refl, refl)

    module _ (w : Pairs) (i : ℕ) (along : IsAlong fill set g h w starts r i) where
      no_turn : (q : ℕ) → q ≤ start g (r + 1) → ((j : ℕ) → i ≤ j → j < length starts → slice_index starts j < q → ⊥)
          → (t a b : ℕ) → along.reached ≤ t → t < q → HasTurn set g h w t a b → ⊥
      no_turn q le none t a b from to turn =
          let fits = start_within r lt in
          let o = turn_outside fill set g h w.before.items w.after.items t a b (omega (arith, fits, to, le)) turn in
          let j = one_of_starts t o.0 (omega (arith, along.from_start, from)) (omega (arith, to, le)) in
          none j.0 (along.none_left j.0 j.1 (omega (arith, from, j.2))) j.1 (omega (arith, j.2, to))

      -- to the next object
      pub along_to : i < length starts → Searches fill set g h w (suc (slice_index starts i)) 0
      along_to p =
          let to = region_to (slice_index starts i) r (at_region i p) in
          skip_to fill set g h w.before.items w.after.items along.reached (slice_index starts i) (along.before_next i (omega arith) p) along.search
          (no_turn (slice_index starts i) (omega (arith, to)) (λ j le lt' less. elim (cases_lt i j) [
            | inl below ↦ let k = rise i j below lt' in omega (arith, k, less)
            | inr ge ↦ let e : j ≡ i = omega (arith, le, ge) in let k = ap (slice_index starts) e in omega (arith, k, less)
          ]))

      pub at_start : i < length starts → (a : ℕ) → a ≡ slice_index starts i → Searches fill set g h w (suc a) 0
      at_start p a e = subst (λ z. Searches fill set g h w (suc z) 0) (sym e) (along_to p)

      -- to the next region
      pub along_end : length starts ≤ i → Searches fill set g h w (suc (start g (r + 1))) 0
      along_end le = skip_to fill set g h w.before.items w.after.items along.reached (start g (r + 1)) along.to_end along.search
          (no_turn (start g (r + 1)) (omega arith) (λ j ge p less. omega (arith, le, ge, p)))

      -- past an object
      pub along_next : (v : Pairs) → i < length starts → Searches fill set g h v (suc (suc (slice_index starts i))) 0 → IsAlong fill set g h v starts r (i + 1)
      along_next v p search =
          let first = along.before_next i (omega arith) p in
          let last = region_to (slice_index starts i) r (at_region i p) in
          record {
            reached = suc (slice_index starts i);
            from_start = omega (arith, first, along.from_start);
            to_end = omega (arith, last);
            before_next = λ j le q. let k = rise i j (omega (arith, le)) q in omega (arith, k);
            none_left = λ j q le. elim (cases_lt i j) [
              | inl below ↦ omega (arith, below)
              | inr ge ↦ elim (cases_lt j i) [
                | inl less ↦ let k = rise j i less p in absurd (omega (arith, k, le))
                | inr same ↦ let e : j ≡ i = omega (arith, ge, same) in let k = ap (slice_index starts) e in absurd (omega (arith, k, le))
              ]
            ];
            search = search;
          }
