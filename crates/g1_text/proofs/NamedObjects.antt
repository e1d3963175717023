-- The objects of a graph by name in a heap that carries it: which object stands at which address, and which ones are reached.
use Rattle.std.proofs.Common.{◌≡◌, ◌≢◌, ◌⊎◌, inl, inr, ℕ, suc, ◌+◌, ◌/◌, Bool, true, false, cond, eqb, eqb-true, eq-eqb, List, [], ◌∷◌, slice_index, map, flat_map, refl, sym, ◌∙◌, ap, subst, arith, zero}
use Rattle.std.specs.Prelude.{Option, Some, None, unwrap_or, Contains}
use Rattle.std.specs.List.{AllZip, zip, position_from}
use Rattle.std.specs.Option.{option_map}
use Rattle.std.specs.Str.{bytes_eq}
use Rattle.std.proofs.lemmas.Bool.{false≢true}
use Rattle.std.proofs.lemmas.List.Elements.{All-contains}
use Rattle.std.proofs.lemmas.Slice.Eq.{bytes_eq-Decides}
use Rattle.std.proofs.lemmas.List.Folds.{flat_map-map}
use Rattle.g1_words.specs.Heap.{Heap, kind, word, object_at, slots}
use Rattle.g1_words.specs.References.{named, targets}
use Rattle.g1_words.specs.Live.{Live, seed, child}
use Rattle.g1_words.specs.Valid.{IsObject, HasObject, IsValid}
use Rattle.g1_words.specs.declared.object.Object.{Object}
use Rattle.g1_words.proofs.Members.{Contains-map, map_cases, Contains-flat_map, flat_map_cases, Contains-later, cons_cases, none_contains}
use Rattle.g1_words.proofs.Objects.{object_stands}
use Rattle.g1_words.proofs.OneToOne.{zip_second}
use Rattle.g1_words.proofs.Ordered.{Ordered, Ordered-from_pairs, pairs_from_ordered}
use Rattle.g1_words.proofs.Rising.{Ordered-append}
use Rattle.g1_words.proofs.Sound.{has_is, named_is, stands_object}
use Rattle.g1_text.specs.Graphs.{NamedObject, NamedGraph, SayNamed}
use Rattle.g1_text.specs.Carried.{word_for, root_value, StandsAt, Carries}
use Rattle.g1_text.specs.Renamed.{HasOwnNames, LeadsTo, LeadsNowhere, IsReached, by_root, by_slot}
use Rattle.g1_text.specs.Laws.{TextsGiveOwnNames}
use Rattle.g1_text.proofs.Carrying.{heap_object}
use Rattle.g1_text.proofs.Lookups.{some_some, none_some}

-- PAIRS of two lists
zip_first : {A B : Type 0} (xs : List A) (ys : List B) (p : A × B) → Contains (zip xs ys) p → Contains xs p.0
zip_first [] ys p i = absurd (omega (arith, i.1))
zip_first (x ∷ xs) [] p i = absurd (omega (arith, i.1))
zip_first {A} {B} (x ∷ xs) (y ∷ ys) p (zero, b, e) = (zero, omega arith, ap (λ (q : A × B). q.0) e)
zip_first (x ∷ xs) (y ∷ ys) p (suc k, b, e) = let m = zip_first xs ys p (k, omega (arith, b), e) in (suc m.0, omega (arith, m.1), m.2)

order_first : {A B : Type 0} (R : A → A → Type 0) (xs : List A) (ys : List B) → Ordered R xs → Ordered (λ (p q : A × B). R p.0 q.0) (zip xs ys)
order_first R [] ys o = tt
order_first R (x ∷ xs) [] o = tt
order_first R (x ∷ xs) (y ∷ ys) o = ((λ q i. o.0 q.0 (zip_first xs ys q i)), order_first R xs ys o.1)

order_second : {A B : Type 0} (R : B → B → Type 0) (xs : List A) (ys : List B) → Ordered R ys → Ordered (λ (p q : A × B). R p.1 q.1) (zip xs ys)
order_second R [] ys o = tt
order_second R (x ∷ xs) [] o = tt
order_second R (x ∷ xs) (y ∷ ys) o = ((λ q i. o.0 q.1 (zip_second xs ys q.0 q.1 i)), order_second R xs ys o.1)

zip_holds : {A B : Type 0} (R : A → B → Type 0) (xs : List A) (ys : List B) (p : A × B) → AllZip R xs ys → Contains (zip xs ys) p → R p.0 p.1
zip_holds R [] ys p all i = absurd (omega (arith, i.1))
zip_holds R (x ∷ xs) [] p all i = absurd (omega (arith, i.1))
zip_holds {A} {B} R (x ∷ xs) (y ∷ ys) p all (zero, b, e) = subst (λ (q : A × B). R q.0 q.1) e all.0
zip_holds R (x ∷ xs) (y ∷ ys) p all (suc k, b, e) = zip_holds R xs ys p all.1 (k, omega (arith, b), e)

in_first : {A B : Type 0} (R : A → B → Type 0) (xs : List A) (ys : List B) (x : A) → AllZip R xs ys → Contains xs x → (y : B) × Contains (zip xs ys) (x, y)
in_first R [] ys x all i = absurd (omega (arith, i.1))
in_first R (a ∷ xs) [] x all i = elim all [ ]
in_first R (a ∷ xs) (b ∷ ys) x all (zero, lt, e) = (b, (zero, omega arith, ap (λ z. (z, b)) e))
in_first R (a ∷ xs) (b ∷ ys) x all (suc k, lt, e) = let r = in_first R xs ys x all.1 (k, omega (arith, lt), e) in (r.0, Contains-later (a, b) (zip xs ys) (x, r.0) r.1)

in_second : {A B : Type 0} (R : A → B → Type 0) (xs : List A) (ys : List B) (y : B) → AllZip R xs ys → Contains ys y → (x : A) × Contains (zip xs ys) (x, y)
in_second R xs [] y all i = absurd (omega (arith, i.1))
in_second R [] (b ∷ ys) y all i = elim all [ ]
in_second R (a ∷ xs) (b ∷ ys) y all (zero, lt, e) = (a, (zero, omega arith, ap (λ z. (a, z)) e))
in_second R (a ∷ xs) (b ∷ ys) y all (suc k, lt, e) = let r = in_second R xs ys y all.1 (k, omega (arith, lt), e) in (r.0, Contains-later (a, b) (zip xs ys) (r.0, y) r.1)

-- two members with one mark are one, where no two have the same
one_marked : {A B : Type 0} (f : A → B) (xs : List A) (x y : A) → Ordered (λ p q. f p ≢ f q) xs → Contains xs x → Contains xs y → f x ≡ f y → x ≡ y
one_marked f [] x y o i j e = absurd (omega (arith, i.1))
one_marked f (z ∷ xs) x y o (zero, b, p) (zero, lt, q) e = sym p ∙ q
one_marked f (z ∷ xs) x y o (zero, b, p) (suc k, lt, eq) e = absurd (o.0 y (k, omega (arith, lt), eq) (ap f p ∙ e))
one_marked f (z ∷ xs) x y o (suc k, b, eq) (zero, lt, q) e = absurd (o.0 x (k, omega (arith, b), eq) (ap f q ∙ sym e))
one_marked f (z ∷ xs) x y o (suc k, b, eq) (suc n, lt, same) e = one_marked f xs x y o.1 (k, omega (arith, b), eq) (n, omega (arith, lt), same) e

-- the first member that passes a test
first_of : {A : Type 0} → (A → Bool) → List A → A → A
first_of p [] d = d
first_of p (x ∷ xs) d = cond (p x) x (first_of p xs d)

chosen : {A : Type 0} (p : A → Bool) (z x rest : A) (b : Bool) → p z ≡ b → (p z ≡ true → z ≡ x) → (p z ≡ false → rest ≡ x) → cond b z rest ≡ x
chosen p z x rest true e f k = f e
chosen p z x rest false e f k = k e

first_is : {A : Type 0} (p : A → Bool) (xs : List A) (d x : A) → Contains xs x → p x ≡ true → ((y : A) → Contains xs y → p y ≡ true → y ≡ x) → first_of p xs d ≡ x
unfolding first_of
first_is p [] d x i t one = absurd (omega (arith, i.1))
first_is p (z ∷ xs) d x (zero, b, e) t one = chosen p z x (first_of p xs d) (p z) refl (λ u. e) (λ u. absurd (false≢true (sym u ∙ ap p e ∙ t)))
first_is p (z ∷ xs) d x (suc k, b, e) t one = chosen p z x (first_of p xs d) (p z) refl (λ u. one z (zero, omega arith, refl) u) (λ u. first_is p xs d x (k, omega (arith, b), e) t (λ y j v. one y (suc j.0, omega (arith, j.1), j.2) v))

-- WHERE A NAME LEADS: to no place, or to that of an object
abbrev Finds : List ℕ → ℕ → List NamedObject → List ℕ → Option ℕ → Type 0
Finds name n objects ats place =
    ((place ≡ None) × ((o : NamedObject) → Contains objects o → name ≢ o.name))
    ⊎ ((k : ℕ) × (o : NamedObject) × (place ≡ Some (n + k)) × Contains (zip objects ats) (o, slice_index ats k) × (name ≡ o.name))

finds_at : (name : List ℕ) (n : ℕ) (x : NamedObject) (objects : List NamedObject) (a : ℕ) (ats : List ℕ) (rest : Option ℕ) (b : Bool) → bytes_eq name x.name ≡ b
    → Finds name (n + 1) objects ats rest → Finds name n (x ∷ objects) (a ∷ ats) (cond b (Some n) rest)
finds_at name n x objects a ats rest true e r = let z : n ≡ n + 0 = omega arith in inr (0, x, ap Some z, (zero, omega arith, refl), (bytes_eq-Decides name x.name).0 e)
finds_at name n x objects a ats rest false e (inl r) = inl (
  r.0,
  λ o i same. elim (cons_cases x objects o i) [
    | inl p ↦ absurd (false≢true (sym e ∙ (bytes_eq-Decides name x.name).1 (same ∙ ap (λ (q : NamedObject). q.name) (sym p))))
    | inr j ↦ r.1 o j same
  ],
)
finds_at name n x objects a ats rest false e (inr r) =
    let next : n + 1 + r.0 ≡ n + suc r.0 = omega arith in
    inr (suc r.0, r.1, r.2 ∙ ap Some next, (suc r.3.0, omega (arith, r.3.1), r.3.2), r.4)

finds : (R : NamedObject → ℕ → Type 0) (name : List ℕ) (n : ℕ) (objects : List NamedObject) (ats : List ℕ) → AllZip R objects ats
    → Finds name n objects ats (position_from (λ o. bytes_eq name o.name) n objects)
finds R name n [] ats all = inl (refl, λ o i. absurd (none_contains o i))
finds R name n (x ∷ objects) [] all = elim all [ ]
finds R name n (x ∷ objects) (a ∷ ats) all = finds_at name n x objects a ats (position_from (λ o. bytes_eq name o.name) (n + 1) objects) (bytes_eq name x.name) refl (finds R name (n + 1) objects ats all.1)

-- what is reached is an object of the graph
pub reached_among : (g : NamedGraph) (o : NamedObject) → IsReached g o → Contains g.objects o
reached_among g o (by_root r c l) = l.0
reached_among g o (by_slot target r c l) = l.0

-- A HEAP THAT CARRIES A GRAPH
module _ (g : NamedGraph) (ats : List ℕ) (h : Heap) (own : HasOwnNames g) (valid : IsValid h) (carries : Carries g ats h) where
  -- the object stands at the address
  abbrev pub Stands : NamedObject → ℕ → Type 0
  Stands o a = Contains (zip g.objects ats) (o, a)

  pub stands_at : (o : NamedObject) (a : ℕ) → Stands o a → StandsAt g ats h o a
  stands_at o a i = zip_holds (StandsAt g ats h) g.objects ats (o, a) carries.objects i

  pub is_among : (o : NamedObject) (a : ℕ) → Stands o a → Contains g.objects o
  is_among o a i = zip_first g.objects ats (o, a) i

  pub its_address : (o : NamedObject) → Contains g.objects o → (a : ℕ) × Stands o a
  its_address o c = in_first (StandsAt g ats h) g.objects ats o carries.objects c

  -- a name and an address are those of one object
  pub one_by_name : (o p : NamedObject) (a b : ℕ) → Stands o a → Stands p b → o.name ≡ p.name → a ≡ b
  one_by_name o p a b i j e =
      ap (λ (q : NamedObject × ℕ). q.1) (one_marked (λ (q : NamedObject × ℕ). q.0.name) (zip g.objects ats) (o, a) (p, b)
      (order_first (λ o p. o.name ≢ p.name) g.objects ats (Ordered-from_pairs (λ o p. o.name ≢ p.name) g.objects own)) i j e)

  pub one_by_address : (o p : NamedObject) (a b : ℕ) → Stands o a → Stands p b → a ≡ b → o.name ≡ p.name
  one_by_address o p a b i j e =
      ap (λ (q : NamedObject × ℕ). q.0.name) (one_marked (λ (q : NamedObject × ℕ). q.1) (zip g.objects ats) (o, a) (p, b)
      (order_second (λ a b. a ≢ b) g.objects ats (Ordered-from_pairs (λ a b. a ≢ b) ats carries.apart)) i j e)

  abbrev none : NamedObject × ℕ
  none = (record { name = []; slots = []; written = [] }, 0)

  -- the address of the object with a name, and the name of the object at an address
  pub address_of : List ℕ → ℕ
  address_of name = (first_of (λ (q : NamedObject × ℕ). bytes_eq name q.0.name) (zip g.objects ats) none).1

  pub name_at : ℕ → List ℕ
  name_at a = (first_of (λ (q : NamedObject × ℕ). eqb a q.1) (zip g.objects ats) none).0.name

  pub address_is : (o : NamedObject) (a : ℕ) → Stands o a → address_of o.name ≡ a
  unfolding address_of
  address_is o a i =
      ap (λ (q : NamedObject × ℕ). q.1) (first_is (λ (q : NamedObject × ℕ). bytes_eq o.name q.0.name) (zip g.objects ats) none (o, a) i ((bytes_eq-Decides o.name o.name).1 refl)
      (λ q j t. one_marked (λ (q : NamedObject × ℕ). q.0.name) (zip g.objects ats) q (o, a)
      (order_first (λ o p. o.name ≢ p.name) g.objects ats (Ordered-from_pairs (λ o p. o.name ≢ p.name) g.objects own)) j i (sym ((bytes_eq-Decides o.name q.0.name).0 t))))

  pub name_is : (o : NamedObject) (a : ℕ) → Stands o a → name_at a ≡ o.name
  unfolding name_at
  name_is o a i =
      ap (λ (q : NamedObject × ℕ). q.0.name) (first_is (λ (q : NamedObject × ℕ). eqb a q.1) (zip g.objects ats) none (o, a) i (eq-eqb a a refl)
      (λ q j t. one_marked (λ (q : NamedObject × ℕ). q.1) (zip g.objects ats) q (o, a)
      (order_second (λ a b. a ≢ b) g.objects ats (Ordered-from_pairs (λ a b. a ≢ b) ats carries.apart)) j i (sym (eqb-true a q.1 t))))

  -- the object of the heap
  pub is_at : (o : NamedObject) (a : ℕ) → Stands o a → heap_object (o, a) ≡ object_at h a
  is_at o a i = has_is h (heap_object (o, a)) valid (stands_at o a i).object

  pub header_at : (o : NamedObject) (a : ℕ) → Stands o a → IsObject h.words (heap_object (o, a))
  header_at o a i =
      let s = object_stands h (heap_object (o, a)) (a / h.geometry.w) valid (stands_at o a i).object refl in
      stands_object (kind h (a / h.geometry.w)) h (a / h.geometry.w) (heap_object (o, a)) s.1

  pub no_other : (o : Object) → HasObject h o → (p : NamedObject) × Stands p o.at
  no_other o has = in_second (StandsAt g ats h) g.objects ats o.at carries.objects (carries.no_other o has)

  -- what the word for a slot or a root is
  pub target_cases : (target : Option (List ℕ)) → (LeadsNowhere g target × (word_for g ats target ≡ 0)) ⊎ ((o : NamedObject) × (a : ℕ) × Stands o a × LeadsTo g target o × (word_for g ats target ≡ suc a))
  target_cases None = inl ((λ o l. none_some l.1), refl)
  target_cases (Some name) = elim (finds (StandsAt g ats h) name 0 g.objects ats carries.objects) [
    | inl r ↦ inl ((λ o l. r.1 o l.0 (some_some l.1)), ap (λ place. unwrap_or (option_map (λ k. slice_index ats k + 1) place) 0) r.0)
    | inr r ↦
        let here : slice_index ats (0 + r.0) + 1 ≡ suc (slice_index ats r.0) = (let z : 0 + r.0 ≡ r.0 = omega arith in let one : slice_index ats r.0 + 1 ≡ suc (slice_index ats r.0) = omega arith in ap (λ k. slice_index ats k + 1) z ∙ one) in
        inr (r.1, slice_index ats r.0, r.3, (is_among r.1 (slice_index ats r.0) r.3, ap Some r.4), ap (λ place. unwrap_or (option_map (λ k. slice_index ats k + 1) place) 0) r.2 ∙ here)
  ]

  pub word_of : (target : Option (List ℕ)) (o : NamedObject) (a : ℕ) → LeadsTo g target o → Stands o a → word_for g ats target ≡ suc a
  word_of target o a l i = elim (target_cases target) [
    | inl c ↦ absurd (c.0 o l)
    | inr c ↦ c.4 ∙ ap suc (one_by_name c.0 o c.1 a c.2 i (some_some (sym c.3.1 ∙ l.1)))
  ]

  pub no_word : (target : Option (List ℕ)) → LeadsNowhere g target → word_for g ats target ≡ 0
  no_word target never = elim (target_cases target) [ inl c ↦ c.1 | inr c ↦ absurd (never c.0 c.3) ]

  named_object : (target : Option (List ℕ)) (a : ℕ) → Contains (named (word_for g ats target)) a → (o : NamedObject) × Stands o a × LeadsTo g target o
  named_object target a i =
      let e = named_is (word_for g ats target) a i in
      elim (target_cases target) [
        | inl c ↦ (let z = c.1 in absurd (omega (arith, e, z)))
        | inr c ↦ (let w = c.4 in let same : c.1 ≡ a = omega (arith, e, w) in (c.0, subst (Stands c.0) same c.2, c.3))
      ]

  is_named : (target : Option (List ℕ)) (o : NamedObject) (a : ℕ) → LeadsTo g target o → Stands o a → Contains (named (word_for g ats target)) a
  is_named target o a l i = subst (λ w. Contains (named w) a) (sym (word_of target o a l i)) (zero, omega arith, refl)

  -- WHAT THE ROOTS REACH
  slot_targets : (o : NamedObject) (a : ℕ) → Stands o a → targets h a ≡ flat_map named (map (word_for g ats) o.slots)
  slot_targets o a i =
      ap (λ q. flat_map (λ p. named (word h p)) (slots q)) (sym (is_at o a i))
      ∙ sym (flat_map-map named (word h) (slots (heap_object (o, a))))
      ∙ ap (flat_map named) (stands_at o a i).slots

  pub reached : (a : ℕ) → Live h a → (o : NamedObject) × Stands o a × IsReached g o
  reached a (seed c) =
      let w = flat_map_cases named h.roots a c in
      let r = map_cases (root_value g ats) g.roots w.0 (subst (λ ws. Contains ws w.0) carries.roots w.1) in
      let o = named_object r.0.target a (subst (λ z. Contains (named z) a) (sym r.2) w.2) in
      (o.0, o.1, by_root r.0 r.1 o.2)
  reached b (child {a = a} l c) =
      let o = reached a l in
      let w = flat_map_cases named (map (word_for g ats) o.0.slots) b (subst (λ ts. Contains ts b) (slot_targets o.0 a o.1) c) in
      let s = map_cases (word_for g ats) o.0.slots w.0 w.1 in
      let p = named_object s.0 b (subst (λ z. Contains (named z) b) (sym s.2) w.2) in
      (p.0, p.1, by_slot s.0 o.2 s.1 p.2)

  is_live : (o : NamedObject) (a : ℕ) → IsReached g o → Stands o a → Live h a
  is_live o a (by_root r c l) i =
      let root : Contains h.roots (root_value g ats r) = subst (λ ws. Contains ws (root_value g ats r)) (sym carries.roots) (Contains-map (root_value g ats) g.roots r c) in
      seed (Contains-flat_map named h.roots (root_value g ats r) a root (is_named r.target o a l i))
  is_live p b (by_slot {o = o} target r c l) i =
      let at = its_address o (reached_among g o r) in
      let slot = Contains-map (word_for g ats) o.slots target c in
      child (is_live o at.0 r at.1) (subst (λ ts. Contains ts b) (sym (slot_targets o at.0 at.1))
      (Contains-flat_map named (map (word_for g ats) o.slots) (word_for g ats target) b slot (is_named target p b l i)))

  pub reached_live : (o : NamedObject) → IsReached g o → (a : ℕ) × Stands o a × Live h a
  reached_live o r = let at = its_address o (reached_among g o r) in (at.0, at.1, is_live o at.0 r at.1)

-- NAMES of a graph that a text says
abbrev Apart : List NamedObject → Type 0
Apart objects = Ordered (λ o p. o.name ≢ p.name) objects

still_apart : (f : NamedGraph) (lines : List (List (List ℕ))) (g : NamedGraph) → Apart f.objects → SayNamed (Some f) lines (Some g) → Apart g.objects
still_apart f [] g a s = subst (λ (k : NamedGraph). Apart k.objects) (some_some s) a
still_apart f (line ∷ lines) g a (k, inl root, s) = still_apart k lines g (subst (λ (k : NamedGraph). Apart k.objects) (sym root.3) a) s
still_apart f (line ∷ lines) g a (k, inr object, s) =
    still_apart k lines g (subst (λ (k : NamedGraph). Apart k.objects) (sym object.3)
    (Ordered-append (λ o p. o.name ≢ p.name) f.objects (object.0 ∷ []) a ((λ p i. absurd (none_contains p i)), tt)
    (λ o p i j. elim (cons_cases object.0 [] p j) [
      | inl e ↦ subst (λ (q : NamedObject). o.name ≢ q.name) e (All-contains (λ q. q.name ≢ object.0.name) f.objects o object.2 i)
      | inr k ↦ absurd (none_contains p k)
    ]))) s

pub texts_give_own_names : TextsGiveOwnNames
texts_give_own_names text g s = pairs_from_ordered (λ o p. o.name ≢ p.name) g.objects (from s.lines s.says)
  where
    from : (lines : List (List (List ℕ))) → SayNamed None lines (Some g) → Apart g.objects
    from [] e = absurd (none_some e)
    from (line ∷ lines) (f, begins, says) = still_apart f lines g (subst (λ (k : NamedGraph). Apart k.objects) (sym begins.2) tt) says
