-- Humongous objects that are kept by one reference after the other.
use Rattle.std.proofs.Common.{◌≡◌, ◌≢◌, ℕ, zero, suc, ◌+◌, ◌<◌, ◌≤◌, inl, inr, Bool, true, false, cond, List, [], ◌∷◌, ◌++◌, length, get_or, set, filter, flat_map, refl, sym, ◌∙◌, ap, arith, take, drop, ◌-◌, ◌&&◌, leb, ltb, leb-true, ltb-true, le-leb, lt-ltb, eqb, eqb-true, eq-eqb, append-nil, length-set}
use Rattle.std.specs.Prelude.{Option, None, Some}
use Rattle.std.specs.Option.{SomeIff, option_eq}
use Rattle.std.specs.List.{range_with_len, list_any}
use Rattle.std.proofs.lemmas.Bool.{cases_eq, cases_lt, false≢true, le-ltb, false_from_ne_true, and_parts}
use Rattle.std.proofs.lemmas.List.{get_or-set_same, get_or-set_other, take-append-drop, take_more, drop_more}
use Rattle.std.proofs.lemmas.Grind.{flat_map-append}
use Rattle.std.proofs.lemmas.List.Elements.{filter-append}
use Rattle.g1_words.specs.Heap.{Heap, region_of, start, word}
use Rattle.g1_words.specs.Lists.{has}
use Rattle.g1_words.proofs.Computed.{Contains-range}
use Rattle.g1_words.proofs.Indices.{range_bounds}
use Rattle.g1_words.proofs.Members.{has_from_contains, Contains-from_has}
use Rattle.g1_words.proofs.Logic.{same_test}
use Rattle.g1_words.proofs.Lists.{flat_of_filter}
use Rattle.g1_rem.specs.Slots.{slots_on}
use Rattle.g1_frontier.proofs.Seeds.{filter_flat}
use Rattle.g1_explain.specs.declared.finder.Finder.{Finder}
use Rattle.g1_explain.specs.declared.finder.Finder.TheVariants.{Card}
use Rattle.g1_explain.specs.declared.humongous.Keeper.{Keeper}
use Rattle.g1_explain.specs.declared.humongous.Keeper.TheVariants.{NoObject, Nothing, By}
use Rattle.g1_explain.specs.Finders.{Lead, lead}
use Rattle.g1_explain.proofs.Meets.{flat_more}
use Rattle.g1_explain.specs.Keepers.{first_keeper, is_nothing, keeper_at, or_first, leads_in, leads_at, leads_on, is_apart, AreKept}

pub or_none : (k : Keeper) → or_first k [] ≡ k
or_none NoObject = refl
or_none Nothing = refl
or_none (By f) = refl

pub or_then : (k : Keeper) (xs ys : List Lead) → or_first (or_first k xs) ys ≡ or_first k (xs ++ ys)
or_then NoObject xs ys = refl
or_then (By f) xs ys = refl
or_then Nothing [] ys = refl
or_then Nothing (x ∷ xs) ys = refl

-- what is kept stays
pub or_kept : (k : Keeper) (ls : List Lead) → (k ≡ Nothing → ⊥) → k ≡ or_first k ls
or_kept NoObject ls n = refl
or_kept Nothing ls n = absurd (n refl)
or_kept (By f) ls n = refl

-- nothing changes where there are no references
pub kept_none : (leads : ℕ → List Lead) (ks : List Keeper) → ((r : ℕ) → leads r ≡ []) → AreKept leads ks ks
kept_none leads ks none = record { one_each = refl; each = λ r. sym (or_none (keeper_at ks r)) ∙ ap (or_first (keeper_at ks r)) (sym (none r)) }

-- some references and then others
pub kept_then : (f g : ℕ → List Lead) (a b c : List Keeper) → AreKept f a b → AreKept g b c → AreKept (λ r. f r ++ g r) a c
kept_then f g a b c p q = record {
  one_each = q.one_each ∙ p.one_each;
  each = λ r. q.each r ∙ ap (λ k. or_first k (g r)) (p.each r) ∙ or_then (keeper_at a r) (f r) (g r);
}

-- nothing changes where all are kept
pub kept_whole : (leads : ℕ → List Lead) (ks : List Keeper) → list_any is_nothing ks ≡ false → AreKept leads ks ks
kept_whole leads ks none = record { one_each = refl; each = λ r. or_kept (keeper_at ks r) (leads r) (all ks r none) }
  where
    all : (ks : List Keeper) (r : ℕ) → list_any is_nothing ks ≡ false → keeper_at ks r ≡ Nothing → ⊥
    all [] r none e = false≢true (ap is_nothing e)
    all (NoObject ∷ ks) zero none e = false≢true (ap is_nothing e)
    all (Nothing ∷ ks) zero none e = false≢true (sym none)
    all (By f ∷ ks) zero none e = false≢true (ap is_nothing e)
    all (NoObject ∷ ks) (suc r) none e = all ks r none e
    all (Nothing ∷ ks) (suc r) none e = false≢true (sym none)
    all (By f ∷ ks) (suc r) none e = all ks r none e

-- the same references
pub kept_as : (f g : ℕ → List Lead) (a b : List Keeper) → ((r : ℕ) → f r ≡ g r) → AreKept f a b → AreKept g a b
kept_as f g a b same p = record { one_each = p.one_each; each = λ r. p.each r ∙ ap (or_first (keeper_at a r)) (same r) }

pub past : (ks : List Keeper) (r : ℕ) → length ks ≤ r → keeper_at ks r ≡ NoObject
past [] r le = refl
past (k ∷ ks) zero le = absurd (omega (arith, le))
past (k ∷ ks) (suc r) le = past ks r (omega (arith, le))

-- no object begins past the last region
pub beyond : (ks : List Keeper) (r : ℕ) → length ks ≤ r → keeper_at ks r ≡ Nothing → ⊥
beyond ks r le e = false≢true (ap is_nothing (sym (past ks r le) ∙ e))

-- one reference is in its region alone
module _ (h : Heap) (ks : List Keeper) (f : Finder) (x t r : ℕ) (e : x ≡ suc t) (home : r ≡ region_of h t) where
  here : (q : ℕ) → q ≡ r → leads_in h (lead f x) q ≡ record { finder = f; target = t } ∷ []
  here q same = ap (λ z. leads_in h (lead f z) q) e ∙ ap (λ b. cond b (record { finder = f; target = t } ∷ []) []) (eq-eqb (region_of h t) q (sym home ∙ sym same))

  elsewhere : (q : ℕ) → q ≢ r → leads_in h (lead f x) q ≡ []
  elsewhere q other =
      ap (λ z. leads_in h (lead f z) q) e
      ∙ ap (λ b. cond b (record { finder = f; target = t } ∷ []) []) (false_from_ne_true (eqb (region_of h t) q) (λ y. other (sym (eqb-true (region_of h t) q y) ∙ sym home)))

  stays : (q : ℕ) → q ≢ r → keeper_at ks q ≡ or_first (keeper_at ks q) (leads_in h (lead f x) q)
  stays q other = sym (or_none (keeper_at ks q)) ∙ ap (or_first (keeper_at ks q)) (sym (elsewhere q other))

  -- it keeps an object that nothing kept yet
  pub kept_one : r < length ks → keeper_at ks r ≡ Nothing → AreKept (leads_in h (lead f x)) ks (set ks r (By f))
  kept_one lt none = record {
    one_each = length-set ks r (By f);
    each = λ q. elim (cases_eq q r) [
      | inl same ↦
          ap (keeper_at (set ks r (By f))) same ∙ get_or-set_same ks r (By f) NoObject lt
          ∙ sym (ap (λ k. or_first k (leads_in h (lead f x) q)) (ap (keeper_at ks) same ∙ none) ∙ ap (or_first Nothing) (here q same))
      | inr other ↦ get_or-set_other ks r q (By f) NoObject other ∙ stays q other
    ];
  }

  -- it changes nothing where one is kept, or none begins
  pub kept_not : (keeper_at ks r ≡ Nothing → ⊥) → AreKept (leads_in h (lead f x)) ks ks
  kept_not some = record {
    one_each = refl;
    each = λ q. elim (cases_eq q r) [
      | inl same ↦ or_kept (keeper_at ks q) (leads_in h (lead f x) q) (λ k. some (ap (keeper_at ks) (sym same) ∙ k))
      | inr other ↦ stays q other
    ];
  }

-- ---- many references

pub leads_append : (h : Heap) (xs ys : List Lead) (r : ℕ) → leads_in h (xs ++ ys) r ≡ leads_in h xs r ++ leads_in h ys r
leads_append h xs ys r = filter-append (λ l. eqb (region_of h l.target) r) xs ys

-- those of one number more
pub kept_number_more : (h : Heap) (f : ℕ → List Lead) (old now after : List Keeper) (n : ℕ) → AreKept (leads_in h (flat_map f (range_with_len 0 n))) old now
    → AreKept (leads_in h (f n)) now after → AreKept (leads_in h (flat_map f (range_with_len 0 (n + 1)))) old after
kept_number_more h f old now after n p q =
    kept_as (λ r. leads_in h (flat_map f (range_with_len 0 n)) r ++ leads_in h (f n) r) (leads_in h (flat_map f (range_with_len 0 (n + 1)))) old after
    (λ r. sym (leads_append h (flat_map f (range_with_len 0 n)) (f n) r) ∙ ap (λ ls. leads_in h ls r) (sym (flat_more f n)))
    (kept_then (leads_in h (flat_map f (range_with_len 0 n))) (leads_in h (f n)) old now after p q)

-- ---- the first reference

pub not_by : (f : Finder) → Nothing ≡ By f → ⊥
not_by f e = false≢true (ap is_by e)
  where
    is_by : Keeper → Bool
    is_by NoObject = false
    is_by Nothing = false
    is_by (By f) = true

-- further references do not count
pub first_stays : (ls ms : List Lead) (f : Finder) → first_keeper ls ≡ By f → first_keeper (ls ++ ms) ≡ By f
first_stays [] ms f e = absurd (not_by f e)
first_stays (l ∷ ls) ms f e = e

-- the first one comes from the first item that has any
pub first_hit : {X : Type 0} (f : X → List Lead) (xs : List X) (i : ℕ) (d : X) (g : Finder) → i < length xs → flat_map f (take i xs) ≡ [] → first_keeper (f (get_or xs i d)) ≡ By g → first_keeper (flat_map f xs) ≡ By g
first_hit f xs i d g lt none e =
    let behind : List Lead = flat_map f (drop (i + 1) xs) in
    ap (λ ys. first_keeper (flat_map f ys)) (sym (take-append-drop i xs) ∙ ap (λ ys. take i xs ++ ys) (drop_more xs i d lt))
    ∙ ap first_keeper (flat_map-append f (take i xs) (get_or xs i d ∷ drop (i + 1) xs) ∙ ap (λ ys. ys ++ (f (get_or xs i d) ++ behind)) none)
    ∙ first_stays (f (get_or xs i d)) behind g e

pub none_first : (ls : List Lead) → Nothing ≡ first_keeper ls → ls ≡ []
none_first [] e = refl
none_first (l ∷ ls) e = absurd (not_by l.finder e)

pub none_more : {X : Type 0} (f : X → List Lead) (xs : List X) (i : ℕ) (d : X) → i < length xs → flat_map f (take i xs) ≡ [] → f (get_or xs i d) ≡ [] → flat_map f (take (i + 1) xs) ≡ []
none_more f xs i d lt none e =
    ap (flat_map f) (take_more xs i d lt) ∙ flat_map-append f (take i xs) (get_or xs i d ∷ []) ∙ (λ t. none t ++ (e t ++ []))

-- ---- the regions of an object

pub own_is : (a e x : ℕ) → (leb a x && ltb x e) ≡ has (range_with_len a (e - a)) x
own_is a e x = same_test (leb a x && ltb x e) (has (range_with_len a (e - a)) x)
    (λ t. let b = and_parts (leb a x) (ltb x e) t in
    let low = leb-true a x b.0 in
    let high = ltb-true x e b.1 in
    has_from_contains (range_with_len a (e - a)) x (Contains-range a (e - a) x (omega (arith, low)) (omega (arith, low, high))))
    (λ t. let b = range_bounds a (e - a) x (Contains-from_has (range_with_len a (e - a)) x t) in
    (λ i. le-leb a x (omega (arith, b.0)) i && lt-ltb x e (omega (arith, b.0, b.1)) i))

-- ---- a slot that references an object

-- the test that a word is one more than an address
pub points : (o : Option ℕ) (x a : ℕ) (b : Bool) → SomeIff o (1 ≤ x) (x - 1) → b ≡ option_eq eqb o (Some a) → b ≡ true → x ≡ suc a
points None x a b s e t = absurd (false≢true (sym e ∙ t))
points (Some y) x a b s e t = let q : y ≡ a = eqb-true y a (sym e ∙ t) in omega (arith, s, q)

pub points_not : (o : Option ℕ) (x a : ℕ) (b : Bool) → SomeIff o (1 ≤ x) (x - 1) → b ≡ option_eq eqb o (Some a) → b ≡ false → x ≢ suc a
points_not None x a b s e t q = s (omega (arith, q))
points_not (Some y) x a b s e t q = let z : y ≡ a = omega (arith, s, q) in false≢true (sym t ∙ e ∙ eq-eqb y a z)

pub lead_there : (h : Heap) (r x a : ℕ) (f : Finder) → a ≡ start h r → x ≡ suc a → leads_at h (lead f x) r ≡ record { finder = f; target = a } ∷ []
lead_there h r x a f at e = ap (λ z. leads_at h (lead f z) r) e ∙ ap (λ b. cond b (record { finder = f; target = a } ∷ []) []) (eq-eqb a (start h r) at)

pub lead_elsewhere : (h : Heap) (r x a : ℕ) (f : Finder) → a ≡ start h r → x ≢ suc a → leads_at h (lead f x) r ≡ []
lead_elsewhere h r zero a f at d = refl
lead_elsewhere h r (suc b) a f at d =
    ap (λ c. cond c (record { finder = f; target = b } ∷ []) []) (false_from_ne_true (eqb b (start h r)) (λ t. d (ap suc (eqb-true b (start h r) t ∙ sym at))))

-- the references to the object, slot by slot
pub at_slots : (h : Heap) (r c : ℕ) (slots : List ℕ) → leads_at h (flat_map (λ p. lead (Card c p) (word h p)) slots) r ≡ flat_map (λ p. leads_at h (lead (Card c p) (word h p)) r) slots
at_slots h r c slots = filter_flat (λ l. eqb l.target (start h r)) (λ p. lead (Card c p) (word h p)) slots

-- ---- the cards of a set

module _ (h : Heap) (marks : List Bool) (r : ℕ) where
  -- the references to the object from the slots on a card
  abbrev pub on_card : ℕ → List Lead
  on_card c = cond (is_apart h marks r c) (leads_at h (flat_map (λ p. lead (Card c p) (word h p)) (slots_on h c)) r) []

  pub leads_on_are : (cards : List ℕ) → leads_on h marks r cards ≡ flat_map on_card cards
  leads_on_are cards =
      filter_flat (λ l. eqb l.target (start h r)) (λ c. flat_map (λ p. lead (Card c p) (word h p)) (slots_on h c)) (filter (is_apart h marks r) cards)
      ∙ flat_of_filter (λ c. leads_at h (flat_map (λ p. lead (Card c p) (word h p)) (slots_on h c)) r) (is_apart h marks r) cards

  -- one of them keeps it, and none before does
  pub card_hits : (cards : List ℕ) (i : ℕ) (g : Heap) (slots : List ℕ) (f : Finder) → i < length cards → flat_map on_card (take i cards) ≡ [] → g ≡ h → slots ≡ slots_on h (get_or cards i 0)
      → is_apart h marks r (get_or cards i 0) ≡ true → first_keeper (leads_at g (flat_map (λ p. lead (Card (get_or cards i 0) p) (word g p)) slots) r) ≡ By f → first_keeper (leads_on h marks r cards) ≡ By f
  card_hits cards i g slots f lt none same on apart first =
      let c : ℕ = get_or cards i 0 in
      ap first_keeper (leads_on_are cards)
      ∙ first_hit on_card cards i 0 f lt none
      ((λ t. first_keeper (cond (apart t) (leads_at (sym same t) (flat_map (λ p. lead (Card c p) (word (sym same t) p)) (sym on t)) r) [])) ∙ first)

-- ---- one region after the other

-- the references of a region alone keep its object
pub kept_at : (ks : List Keeper) (r : ℕ) (ls : List Lead) (f : Finder) → r < length ks → keeper_at ks r ≡ Nothing → first_keeper ls ≡ By f → AreKept (λ q. cond (eqb q r) ls []) ks (set ks r (By f))
kept_at ks r ls f lt none first = record {
  one_each = length-set ks r (By f);
  each = λ q. elim (cases_eq q r) [
    | inl same ↦
        ap (keeper_at (set ks r (By f))) same ∙ get_or-set_same ks r (By f) NoObject lt
        ∙ sym (ap (λ k. or_first k (cond (eqb q r) ls [])) (ap (keeper_at ks) same ∙ none) ∙ ap (λ b. first_keeper (cond b ls [])) (eq-eqb q r same) ∙ first)
    | inr other ↦
        get_or-set_other ks r q (By f) NoObject other ∙ sym (or_none (keeper_at ks q))
        ∙ ap (λ b. or_first (keeper_at ks q) (cond b ls [])) (sym (false_from_ne_true (eqb q r) (λ t. other (eqb-true q r t))))
  ];
}

-- or none is there, or one was kept before
pub kept_at_none : (ks : List Keeper) (r : ℕ) (ls : List Lead) → (keeper_at ks r ≡ Nothing → ls ≡ []) → AreKept (λ q. cond (eqb q r) ls []) ks ks
kept_at_none ks r ls none = record {
  one_each = refl;
  each = λ q. elim (cases_eq q r) [
    | inl same ↦ ap (keeper_at ks) same ∙ by (keeper_at ks r) refl
        ∙ sym ((λ i. or_first (keeper_at ks (same i)) (cond (eq-eqb q r same i) ls [])))
    | inr other ↦ sym (or_none (keeper_at ks q)) ∙ ap (λ b. or_first (keeper_at ks q) (cond b ls [])) (sym (false_from_ne_true (eqb q r) (λ t. other (eqb-true q r t))))
  ];
}
  where
    by : (k : Keeper) → keeper_at ks r ≡ k → k ≡ or_first k ls
    by NoObject e = refl
    by (By f) e = refl
    by Nothing e = sym (ap (or_first Nothing) (none e))

-- those of no region yet
pub kept_below_none : (f : ℕ → List Lead) (ks : List Keeper) → AreKept (λ r. cond (ltb r 0) (f r) []) ks ks
kept_below_none f ks = kept_none (λ r. cond (ltb r 0) (f r) []) ks (λ r. ap (λ b. cond b (f r) []) (le-ltb r 0 (omega arith)))

-- those of the first regions, and of one more
pub kept_below_more : (f : ℕ → List Lead) (a b c : List Keeper) (n : ℕ) → AreKept (λ r. cond (ltb r n) (f r) []) a b → AreKept (λ r. cond (eqb r n) (f n) []) b c → AreKept (λ r. cond (ltb r (n + 1)) (f r) []) a c
kept_below_more f a b c n p q =
    kept_as (λ r. cond (ltb r n) (f r) [] ++ cond (eqb r n) (f n) []) (λ r. cond (ltb r (n + 1)) (f r) []) a c one
    (kept_then (λ r. cond (ltb r n) (f r) []) (λ r. cond (eqb r n) (f n) []) a b c p q)
  where
    one : (r : ℕ) → cond (ltb r n) (f r) [] ++ cond (eqb r n) (f n) [] ≡ cond (ltb r (n + 1)) (f r) []
    one r = elim (cases_lt r n) [
      | inl lt ↦
          (λ i. cond (lt-ltb r n lt i) (f r) [] ++ cond (false_from_ne_true (eqb r n) (λ t. let e : r ≡ n = eqb-true r n t in omega (arith, lt, e)) i) (f n) [])
          ∙ append-nil (f r) ∙ ap (λ b. cond b (f r) []) (sym (lt-ltb r (n + 1) (omega (arith, lt))))
      | inr ge ↦ elim (cases_eq r n) [
        | inl same ↦
            (λ i. cond (le-ltb r n ge i) (f r) [] ++ cond (eq-eqb r n same i) (f n) [])
            ∙ ap f (sym same) ∙ ap (λ b. cond b (f r) []) (sym (lt-ltb r (n + 1) (omega (arith, same))))
        | inr other ↦
            (λ i. cond (le-ltb r n ge i) (f r) [] ++ cond (false_from_ne_true (eqb r n) (λ t. other (eqb-true r n t)) i) (f n) [])
            ∙ ap (λ b. cond b (f r) []) (sym (le-ltb r (n + 1) (above r n ge other)))
      ]
    ]
      where
        above : (r n : ℕ) → n ≤ r → r ≢ n → n + 1 ≤ r
        above r n ge other = elim (cases_lt n r) [ inl lt ↦ omega (arith, lt) | inr le ↦ absurd (other (omega (arith, ge, le))) ]
