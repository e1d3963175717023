-- The first references to objects: which they are, and that a search meets them.
use Rattle.std.proofs.Common.{◌≡◌, ℕ, ◌<◌, Bool, true, false, cond, not, ◌&&◌, ◌||◌, List, [], ◌∷◌, ◌++◌, length, map, filter, slice_index, Contains, zero, suc}
use Rattle.std.proofs.Common.{refl, sym, ◌∙◌, ap, subst, arith, append_assoc, append-nil, eqb, eqb-true, eq-eqb, lt-ltb, ltb-true, nat_lt}
use Rattle.std.specs.Prelude.{if◌then◌else◌}
use Rattle.std.proofs.lemmas.Bool.{false≢true, and_parts}
use Rattle.std.proofs.lemmas.List.{length-map, length-append, map-append}
use Rattle.std.proofs.lemmas.List.Elements.{filter-append, Contains-get_or}
use Rattle.g1_words.specs.Lists.{has}
use Rattle.g1_words.specs.Survivors.{firsts}
use Rattle.g1_words.proofs.Members.{Contains-filter, filter_member, Contains-from_has, Contains-later}
use Rattle.g1_words.proofs.Firsts.{Distinct, Distinct-firsts, Distinct-apart, Contains-firsts}
use Rattle.g1_words.proofs.Logic.{eqb_sym}
use Rattle.g1_explain.specs.declared.finder.Finder.{Finder}
use Rattle.g1_explain.specs.Finders.{Lead, first_leads}
use Rattle.g1_explain.specs.Searched.{is_next, met}

abbrev pub targets_of : List Lead → List ℕ
targets_of ls = map (λ l. l.target) ls

abbrev pub finders_of : List Lead → List Finder
finders_of ls = map (λ l. l.finder) ls

pub map_filter : (p : ℕ → Bool) (ls : List Lead) → targets_of (filter (λ l. p l.target) ls) ≡ filter p (targets_of ls)
map_filter p [] = refl
map_filter p (x ∷ xs) =
    elim (p x.target) as (λ b. targets_of (cond b (x ∷ filter (λ l. p l.target) xs) (filter (λ l. p l.target) xs)) ≡ cond b (x.target ∷ filter p (targets_of xs)) (filter p (targets_of xs))) [
      | true ↦ ap (λ l. x.target ∷ l) (map_filter p xs)
      | false ↦ map_filter p xs
    ]

pub first_targets : (ls : List Lead) → targets_of (first_leads ls) ≡ firsts (targets_of ls)
first_targets [] = refl
first_targets (x ∷ xs) =
    ap (λ l. x.target ∷ l) (map_filter (λ y. not (eqb x.target y)) (first_leads xs) ∙ ap (filter (λ y. not (eqb x.target y))) (first_targets xs))

pub first_member : (ls : List Lead) (l : Lead) → Contains (first_leads ls) l → Contains ls l
first_member [] l k = absurd (omega (arith, k.1))
first_member (x ∷ xs) l (zero, b, e) = (zero, omega arith, e)
first_member (x ∷ xs) l (suc j, b, e) = let m = first_member xs l (filter_member (λ y. not (eqb x.target y.target)) (first_leads xs) l (j, omega (arith, b), e)).0 in (suc m.0, omega (arith, m.1), m.2)

-- each reference has a first one to its object
pub some_first : (ls : List Lead) (l : Lead) → Contains ls l → (f : Lead) × Contains (first_leads ls) f × (f.target ≡ l.target)
some_first [] l k = absurd (omega (arith, k.1))
some_first (x ∷ xs) l (zero, b, e) = (x, (zero, omega arith, refl), ap (λ (y : Lead). y.target) e)
some_first (x ∷ xs) l (suc j, b, e) = by (eqb x.target l.target) refl (some_first xs l (j, omega (arith, b), e))
  where
    by : (b : Bool) → eqb x.target l.target ≡ b → (f : Lead) × Contains (first_leads xs) f × (f.target ≡ l.target) → (f : Lead) × Contains (first_leads (x ∷ xs)) f × (f.target ≡ l.target)
    by true e r = (x, (zero, omega arith, refl), eqb-true x.target l.target e)
    by false e r =
        let apart : not (eqb x.target r.0.target) ≡ true = ap (λ t. not (eqb x.target t)) r.2 ∙ ap not e in
        (r.0, Contains-later x (filter (λ y. not (eqb x.target y.target)) (first_leads xs)) r.0 (Contains-filter (λ y. not (eqb x.target y.target)) (first_leads xs) r.0 r.1 apart), r.2)

-- one reference more
pub first_snoc : (ls : List Lead) (l : Lead) → first_leads (ls ++ l ∷ []) ≡ first_leads ls ++ cond (has (targets_of ls) l.target) [] (l ∷ [])
first_snoc [] l = refl
first_snoc (x ∷ xs) l =
    ap (λ ys. x ∷ filter (λ y. not (eqb x.target y.target)) ys) (first_snoc xs l)
    ∙ ap (λ ys. x ∷ ys) (filter-append (λ (y : Lead). not (eqb x.target y.target)) (first_leads xs) (cond (has (targets_of xs) l.target) [] (l ∷ [])))
    ∙ ap (λ ys. x ∷ (filter (λ y. not (eqb x.target y.target)) (first_leads xs) ++ ys))
    (last (eqb x.target l.target) (has (targets_of xs) l.target) refl ∙ ap (λ b. cond (b || has (targets_of xs) l.target) [] (l ∷ [])) (eqb_sym x.target l.target))
  where
    last : (c d : Bool) → eqb x.target l.target ≡ c → filter (λ (y : Lead). not (eqb x.target y.target)) (cond d [] (l ∷ [])) ≡ cond (eqb x.target l.target || d) [] (l ∷ [])
    last true true e = ap (λ b. cond (b || true) [] (l ∷ [])) (sym e)
    last false true e = ap (λ b. cond (b || true) [] (l ∷ [])) (sym e)
    last true false e = ap (λ b. cond (not b) (l ∷ []) []) e ∙ ap (λ b. cond (b || false) [] (l ∷ [])) (sym e)
    last false false e = ap (λ b. cond (not b) (l ∷ []) []) e ∙ ap (λ b. cond (b || false) [] (l ∷ [])) (sym e)

-- the first ones of a front are a front of the first ones
pub prefix : (xs ys : List Lead) → (tail : List Lead) × (first_leads (xs ++ ys) ≡ first_leads xs ++ tail)
prefix xs [] = ([], ap first_leads (append-nil xs) ∙ sym (append-nil (first_leads xs)))
prefix xs (y ∷ ys) =
    let r = prefix (xs ++ y ∷ []) ys in
    let here : List Lead = cond (has (targets_of xs) y.target) [] (y ∷ []) in
    (here ++ r.0, ap first_leads (sym (append_assoc xs (y ∷ []) ys)) ∙ r.1 ∙ ap (λ l. l ++ r.0) (first_snoc xs y) ∙ append_assoc (first_leads xs) here r.0)

-- ---- the next object

pub next_true : (found : List ℕ) (n a : ℕ) → n < length found → slice_index found n ≡ a → is_next found n a ≡ true
next_true found n a lt e = ap (λ b. b && eqb (slice_index found n) a) (lt-ltb n (length found) lt) ∙ eq-eqb (slice_index found n) a e

pub next_only : (found : List ℕ) (n a : ℕ) → is_next found n a ≡ true → (n < length found) × (slice_index found n ≡ a)
next_only found n a e = let p = and_parts (nat_lt n (length found)) (eqb (slice_index found n) a) e in (ltb-true n (length found) p.0, eqb-true (slice_index found n) a p.1)

pub next_false : (found : List ℕ) (n a : ℕ) → (n < length found → slice_index found n ≡ a → ⊥) → is_next found n a ≡ false
next_false found n a none = by (is_next found n a) refl
  where
    by : (b : Bool) → is_next found n a ≡ b → is_next found n a ≡ false
    by false e = e
    by true e = let p = next_only found n a e in absurd (none p.0 p.1)

pub at_end : (xs : List ℕ) (y : ℕ) (ys : List ℕ) → slice_index (xs ++ y ∷ ys) (length xs) ≡ y
at_end [] y ys = refl
at_end (x ∷ xs) y ys = at_end xs y ys

-- what is behind a front without repeats is not in it
behind : (xs ys : List ℕ) (a : ℕ) → Distinct (xs ++ ys) → Contains xs a → length xs < length (xs ++ ys) → slice_index (xs ++ ys) (length xs) ≡ a → ⊥
behind xs [] a d k lt e = absurd (omega (arith, lt, ap length (append-nil xs)))
behind xs (y ∷ ys) a d k lt e = Distinct-apart xs y ys d (subst (Contains xs) (sym e ∙ at_end xs y ys) k)

module _ (found : List ℕ) where
  -- a reference is met, where it leads to an object that no earlier one leads to
  one : (past : List Lead) (l : Lead) (rest : List Lead) → found ≡ targets_of (first_leads (past ++ l ∷ rest))
      → (if is_next found (length (finders_of (first_leads past))) l.target then finders_of (first_leads past) ++ l.finder ∷ [] else finders_of (first_leads past)) ≡ finders_of (first_leads (past ++ l ∷ []))
  one past l rest e = by (has (targets_of past) l.target) refl
    where
      count : length (finders_of (first_leads past)) ≡ length (targets_of (first_leads past))
      count = length-map (first_leads past) (λ (l : Lead). l.finder) ∙ sym (length-map (first_leads past) (λ (l : Lead). l.target))

      by : (b : Bool) → has (targets_of past) l.target ≡ b
          → (if is_next found (length (finders_of (first_leads past))) l.target then finders_of (first_leads past) ++ l.finder ∷ [] else finders_of (first_leads past)) ≡ finders_of (first_leads (past ++ l ∷ []))
      by true h =
          let p = prefix past (l ∷ rest) in
          let whole : found ≡ targets_of (first_leads past) ++ targets_of p.0 = e ∙ ap targets_of p.1 ∙ map-append (λ (l : Lead). l.target) (first_leads past) p.0 in
          let once : Distinct (targets_of (first_leads past) ++ targets_of p.0) =
          subst Distinct (sym (first_targets (past ++ l ∷ rest)) ∙ sym e ∙ whole) (Distinct-firsts (targets_of (past ++ l ∷ rest))) in
          let there : Contains (targets_of (first_leads past)) l.target =
          subst (λ xs. Contains xs l.target) (sym (first_targets past)) (Contains-firsts (targets_of past) l.target (Contains-from_has (targets_of past) l.target h)) in
          let not_next : is_next found (length (finders_of (first_leads past))) l.target ≡ false =
          next_false found (length (finders_of (first_leads past))) l.target
          (λ lt at. behind (targets_of (first_leads past)) (targets_of p.0) l.target once there
          (omega (arith, lt, count, ap length whole))
          (sym (ap (slice_index (targets_of (first_leads past) ++ targets_of p.0)) count) ∙ sym (ap (λ xs. slice_index xs (length (finders_of (first_leads past)))) whole) ∙ at)) in
          ap (λ b. if b then finders_of (first_leads past) ++ l.finder ∷ [] else finders_of (first_leads past)) not_next
          ∙ sym (ap finders_of (first_snoc past l ∙ ap (λ b. first_leads past ++ cond b [] (l ∷ [])) h ∙ append-nil (first_leads past)))
      by false h =
          let p = prefix (past ++ l ∷ []) rest in
          let snoc : first_leads (past ++ l ∷ []) ≡ first_leads past ++ l ∷ [] = first_snoc past l ∙ ap (λ b. first_leads past ++ cond b [] (l ∷ [])) h in
          let whole : found ≡ targets_of (first_leads past) ++ l.target ∷ targets_of p.0 =
          e ∙ ap (λ xs. targets_of (first_leads xs)) (sym (append_assoc past (l ∷ []) rest)) ∙ ap targets_of (p.1 ∙ ap (λ xs. xs ++ p.0) snoc ∙ append_assoc (first_leads past) (l ∷ []) p.0)
          ∙ map-append (λ (l : Lead). l.target) (first_leads past) (l ∷ p.0) in
          let more : length (targets_of (first_leads past)) < length found =
          omega (arith, ap length whole, length-append (targets_of (first_leads past)) (l.target ∷ targets_of p.0)) in
          let at : slice_index found (length (finders_of (first_leads past))) ≡ l.target =
          ap (slice_index found) count ∙ ap (λ xs. slice_index xs (length (targets_of (first_leads past)))) whole ∙ at_end (targets_of (first_leads past)) l.target (targets_of p.0) in
          let next : is_next found (length (finders_of (first_leads past))) l.target ≡ true = next_true found (length (finders_of (first_leads past))) l.target (omega (arith, more, count)) at in
          ap (λ b. if b then finders_of (first_leads past) ++ l.finder ∷ [] else finders_of (first_leads past)) next
          ∙ sym (ap finders_of snoc ∙ map-append (λ (l : Lead). l.finder) (first_leads past) (l ∷ []))

  -- what a search meets are the first ones
  pub met_is : (past rest : List Lead) → found ≡ targets_of (first_leads (past ++ rest)) → met found (finders_of (first_leads past)) rest ≡ finders_of (first_leads (past ++ rest))
  met_is past [] e = ap (λ xs. finders_of (first_leads xs)) (sym (append-nil past))
  met_is past (l ∷ rest) e =
      let assoc : (past ++ l ∷ []) ++ rest ≡ past ++ l ∷ rest = append_assoc past (l ∷ []) rest in
      ap (λ fs. met found fs rest) (one past l rest e) ∙ met_is (past ++ l ∷ []) rest (e ∙ ap (λ xs. targets_of (first_leads xs)) (sym assoc)) ∙ ap (λ xs. finders_of (first_leads xs)) assoc

  -- references that lead elsewhere count for nothing
  pub met_inner : (into : ℕ → Bool) → ((a : ℕ) → Contains found a → into a ≡ true) → (fs : List Finder) (xs : List Lead) → met found fs xs ≡ met found fs (filter (λ l. into l.target) xs)
  met_inner into inside fs [] = refl
  met_inner into inside fs (x ∷ xs) = by (into x.target) refl (λ gs. met_inner into inside gs xs)
    where
      by : (b : Bool) → into x.target ≡ b → ((gs : List Finder) → met found gs xs ≡ met found gs (filter (λ l. into l.target) xs)) → met found fs (x ∷ xs) ≡ met found fs (cond (into x.target) (x ∷ filter (λ l. into l.target) xs) (filter (λ l. into l.target) xs))
      by true e rest =
          rest (if is_next found (length fs) x.target then fs ++ x.finder ∷ [] else fs)
          ∙ ap (λ b. met found fs (cond b (x ∷ filter (λ l. into l.target) xs) (filter (λ l. into l.target) xs))) (sym e)
      by false e rest =
          let other : is_next found (length fs) x.target ≡ false = next_false found (length fs) x.target
          (λ lt at. false≢true (sym e ∙ inside x.target (subst (Contains found) at (Contains-get_or found (length fs) 0 lt)))) in
          ap (λ b. met found (if b then fs ++ x.finder ∷ [] else fs) xs) other ∙ rest fs
          ∙ ap (λ b. met found fs (cond b (x ∷ filter (λ l. into l.target) xs) (filter (λ l. into l.target) xs))) (sym e)
