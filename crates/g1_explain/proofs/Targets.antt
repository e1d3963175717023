-- The references of a search lead to what the search finds.
use Rattle.std.proofs.Common.{◌≡◌, ℕ, zero, suc, ◌+◌, ◌<◌, Bool, true, false, not, ◌&&◌, List, [], ◌∷◌, ◌++◌, length, map, filter, flat_map, slice_index, refl, sym, ◌∙◌, ap, arith}
use Rattle.std.specs.List.{range_with_len}
use Rattle.std.proofs.lemmas.List.Elements.{filter-append}
use Rattle.std.proofs.lemmas.List.{map-append}
use Rattle.g1_words.specs.Heap.{Heap, word, object_at, card_of}
use Rattle.g1_words.specs.References.{Ref, named, refs, root_targets, targets}
use Rattle.g1_words.specs.Survivors.{in_set, seeds, children, firsts, Survivors}
use Rattle.g1_words.proofs.Firsts.{filter_twice, filter-same}
use Rattle.g1_frontier.proofs.Seeds.{filter_flat, map_flat, flat_same}
use Rattle.g1_explain.specs.declared.finder.Finder.{Finder}
use Rattle.g1_explain.specs.declared.finder.Finder.TheVariants.{Root, Card, Object as Slot}
use Rattle.g1_explain.specs.Finders.{Lead, lead, root_leads, slot_leads, object_leads, found_leads, leads, first_leads}
use Rattle.g1_explain.proofs.FirstLeads.{targets_of, map_filter, first_targets}

pub lead_targets : (f : Finder) (x : ℕ) → targets_of (lead f x) ≡ named x
lead_targets f zero = refl
lead_targets f (suc a) = refl

-- what a function makes of each place of a list
pub flat_places : {A B : Type 0} (g : ℕ → List B) (f : A → List B) (at : List A → ℕ → A) (a : ℕ) (xs : List A)
    → ((i : ℕ) → i < length xs → g (a + i) ≡ f (at xs i)) → ((x : A) (ys : List A) (i : ℕ) → at (x ∷ ys) (suc i) ≡ at ys i) → ((x : A) (ys : List A) → at (x ∷ ys) 0 ≡ x)
    → flat_map g (range_with_len a (length xs)) ≡ flat_map f xs
flat_places g f at a [] h next first = refl
flat_places {A} {B} g f at a (x ∷ xs) h next first =
    let e : a + 0 ≡ a = omega arith in
    let here : g a ≡ f x = ap g (sym e) ∙ h 0 (omega arith) ∙ ap f (first x xs) in
    let rest : flat_map g (range_with_len (a + 1) (length xs)) ≡ flat_map f xs = flat_places g f at (a + 1) xs
    (λ i lt. ap g (let z : a + 1 + i ≡ a + suc i = omega arith in z) ∙ h (suc i) (omega (arith, lt)) ∙ ap f (next x xs i)) next first in
    λ i. here i ++ rest i

pub flat_indices : {B : Type 0} (f : ℕ → List B) (xs : List ℕ) → flat_map (λ k. f (slice_index xs k)) (range_with_len 0 (length xs)) ≡ flat_map f xs
flat_indices f xs = flat_places (λ k. f (slice_index xs k)) f slice_index 0 xs (λ i lt. ap (λ k. f (slice_index xs k)) (let z : 0 + i ≡ i = omega arith in z)) (λ x ys i. refl) (λ x ys. refl)

-- a range that starts further up
pub range_up : {B : Type 0} (g : ℕ → List B) (b a n : ℕ) → flat_map (λ s. g (b + s)) (range_with_len a n) ≡ flat_map g (range_with_len (b + a) n)
range_up g b a zero = refl
range_up g b a (suc n) =
    let e : b + (a + 1) ≡ b + a + 1 = omega arith in
    ap (λ l. g (b + a) ++ l) (range_up g b (a + 1) n ∙ ap (λ x. flat_map g (range_with_len x n)) e)

and_turned : (a b : Bool) → (a && b) ≡ (b && a)
and_turned true true = refl
and_turned true false = refl
and_turned false true = refl
and_turned false false = refl

map_twice : (k : Ref → ℕ) (es : List Ref) → targets_of (map (λ e. record { finder = Card (k e) e.slot; target = e.target }) es) ≡ map (λ (e : Ref). e.target) es
map_twice k [] = refl
map_twice k (e ∷ es) = ap (λ l. e.target ∷ l) (map_twice k es)

map_targets_filter : (p : ℕ → Bool) (es : List Ref) → filter p (map (λ (e : Ref). e.target) es) ≡ map (λ (e : Ref). e.target) (filter (λ (e : Ref). p e.target) es)
map_targets_filter p [] = refl
map_targets_filter p (e ∷ es) =
    elim (p e.target) as (λ b. Rattle.std.proofs.Common.cond b (e.target ∷ filter p (map (λ (e : Ref). e.target) es)) (filter p (map (λ (e : Ref). e.target) es))
    ≡ map (λ (e : Ref). e.target) (Rattle.std.proofs.Common.cond b (e ∷ filter (λ (e : Ref). p e.target) es) (filter (λ (e : Ref). p e.target) es))) [
      | true ↦ ap (λ l. e.target ∷ l) (map_targets_filter p es)
      | false ↦ map_targets_filter p es
    ]

module _ (h : Heap) (set : List ℕ) where
  abbrev into : ℕ → Bool
  into a = in_set h set a

  pub root_part : targets_of (root_leads h) ≡ root_targets h
  root_part =
      map_flat (λ (l : Lead). l.target) (λ k. lead (Root k) (slice_index h.roots k)) (range_with_len 0 (length h.roots))
      ∙ flat_same (λ k. targets_of (lead (Root k) (slice_index h.roots k))) (λ k. named (slice_index h.roots k)) (range_with_len 0 (length h.roots)) (λ k i. lead_targets (Root k) (slice_index h.roots k))
      ∙ flat_indices named h.roots

  slot_part : filter into (targets_of (slot_leads h set)) ≡ map (λ (e : Ref). e.target) (filter (λ (e : Ref). in_set h set e.target && not (in_set h set e.slot)) (refs h))
  slot_part =
      ap (filter into) (map_twice (λ e. card_of h e.slot) (filter (λ (e : Ref). not (in_set h set e.slot)) (refs h)))
      ∙ map_targets_filter into (filter (λ (e : Ref). not (in_set h set e.slot)) (refs h))
      ∙ ap (map (λ (e : Ref). e.target)) (filter_twice (λ (e : Ref). into e.target) (λ (e : Ref). not (in_set h set e.slot)) (refs h)
      ∙ filter-same (λ (e : Ref). not (in_set h set e.slot) && into e.target) (λ (e : Ref). in_set h set e.target && not (in_set h set e.slot)) (refs h)
      (λ e. and_turned (not (in_set h set e.slot)) (into e.target)))

  pub object_part : (m a : ℕ) → targets_of (object_leads h m a) ≡ targets h a
  object_part m a =
      map_flat (λ (l : Lead). l.target) (λ s. lead (Slot m a s) (word h (a + 1 + s))) (range_with_len 0 (object_at h a).refs)
      ∙ flat_same (λ s. targets_of (lead (Slot m a s) (word h (a + 1 + s)))) (λ s. named (word h (a + 1 + s))) (range_with_len 0 (object_at h a).refs) (λ s i. lead_targets (Slot m a s) (word h (a + 1 + s)))
      ∙ range_up (λ p. named (word h p)) (a + 1) 0 (object_at h a).refs
      ∙ ap (λ x. flat_map (λ p. named (word h p)) (range_with_len x (object_at h a).refs)) (let z : a + 1 + 0 ≡ a + 1 = omega arith in z)

  pub found_targets : (found : List ℕ) → targets_of (found_leads h found (length found)) ≡ flat_map (targets h) found
  found_targets found =
      map_flat (λ (l : Lead). l.target) (λ m. object_leads h m (slice_index found m)) (range_with_len 0 (length found))
      ∙ flat_same (λ m. targets_of (object_leads h m (slice_index found m))) (λ m. targets h (slice_index found m)) (range_with_len 0 (length found)) (λ m i. object_part m (slice_index found m))
      ∙ flat_indices (targets h) found

  found_part : (found : List ℕ) → filter into (targets_of (found_leads h found (length found))) ≡ flat_map (children h set) found
  found_part found = ap (filter into) (found_targets found) ∙ filter_flat into (targets h) found

  pub lead_seeds : (found : List ℕ) → targets_of (leads h set found) ≡ seeds h set ++ flat_map (children h set) found
  lead_seeds found =
      let rs : List Lead = root_leads h in
      let ss : List Lead = slot_leads h set in
      let os : List Lead = found_leads h found (length found) in
      map_filter into (rs ++ (ss ++ os))
      ∙ ap (filter into) (map-append (λ (l : Lead). l.target) rs (ss ++ os) ∙ ap (λ l. targets_of rs ++ l) (map-append (λ (l : Lead). l.target) ss os))
      ∙ filter-append into (targets_of rs) (targets_of ss ++ targets_of os)
      ∙ ap (λ l. filter into (targets_of rs) ++ l) (filter-append into (targets_of ss) (targets_of os))
      ∙ sym (Rattle.std.proofs.Common.append_assoc (filter into (targets_of rs)) (filter into (targets_of ss)) (filter into (targets_of os)))
      ∙ (λ i. (ap (filter into) root_part i ++ slot_part i) ++ found_part found i)

  -- THE OBJECTS FOUND are those that the first references lead to
  pub searched : (found : List ℕ) → Survivors h set found → found ≡ targets_of (first_leads (leads h set found))
  searched found s = s.in_order ∙ ap firsts (sym (lead_seeds found)) ∙ sym (first_targets (leads h set found))
