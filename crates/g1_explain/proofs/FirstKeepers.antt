-- What keeps a humongous object is the first of the references that count for it.
use Rattle.std.proofs.Common.{◌≡◌, ℕ, zero, suc, ◌+◌, ◌*◌, ◌<◌, ◌≤◌, inl, inr, Bool, true, false, not, cond, ◌&&◌, ◌||◌, List, [], ◌∷◌, ◌++◌, length, get_or, take, drop, append-nil, map, filter, slice_index, Contains, refl, sym, ◌∙◌, ap, subst, arith, eqb, eqb-true, eq-eqb, lt-ltb}
use Rattle.std.specs.Prelude.{if◌then◌else◌}
use Rattle.std.specs.Int.{div_ceil}
use Rattle.std.specs.List.{range_with_len}
use Rattle.std.proofs.lemmas.Bool.{cases_lt, false≢true, le-leb, not-true, false_from_ne_true}
use Rattle.std.proofs.lemmas.Grind.{div_ceil_times}
use Rattle.std.proofs.lemmas.List.{ext_get_or, length-map, take_all, drop_all}
use Rattle.std.proofs.lemmas.List.Folds.{list_any-append}
use Rattle.std.proofs.lemmas.List.FromFn.{get_or-map-range_with_len, length-range_with_len}
use Rattle.std.proofs.lemmas.Nat.{div-mul-add}
use Rattle.std.proofs.lemmas.List.Elements.{filter-append, Contains-get_or}
use Rattle.g1_words.specs.declared.object.Object.{Object}
use Rattle.g1_words.specs.declared.region.Region.{Region}
use Rattle.g1_words.specs.declared.region.Kind.TheVariants.{HumongousFirst}
use Rattle.g1_words.specs.Heap.{Heap, kind, start, region_of, card_of, regions, free_region, objects, objects_in, objects_by, object_at, is_first}
use Rattle.g1_words.specs.Lists.{has}
use Rattle.g1_words.specs.References.{Ref, refs, named, root_targets}
use Rattle.g1_words.specs.Survivors.{in_set}
use Rattle.g1_words.specs.Valid.{IsValid}
use Rattle.g1_words.proofs.Computed.{Contains-range, contains_has}
use Rattle.g1_words.proofs.Members.{Contains-flat_map, Contains-filter, filter_member, flat_map_cases}
use Rattle.g1_words.proofs.Rising.{told_ref}
use Rattle.g1_words.proofs.Sound.{sound, object_in}
use Rattle.g1_words.proofs.Lists.{filter_same_in, all_in, all_from_in}
use Rattle.g1_words.proofs.Logic.{same_test}
use Rattle.g1_image.specs.Image.{Image, card_in, region_of_card}
use Rattle.g1_image.specs.Cards.{refined, is_refined, cards_where, IsTracked}
use Rattle.g1_image.proofs.Covers.{card_region}
use Rattle.g1_rem.specs.Starts.{card_count}
use Rattle.g1_rem.proofs.Rising.{Rises-filter, Rises-range, Rises-increasing}
use Rattle.g1_frontier.specs.Window.{AreCards, AreOutside, LeadIn}
use Rattle.g1_frontier.proofs.Leading.{refined_leads_in}
use Rattle.g1_frontier.proofs.Marks.{has_one, one_member, only_one}
use Rattle.g1_copy.proofs.UnnamedFirsts.{first_by_test}
use Rattle.g1_explain.specs.declared.humongous.Keeper.{Keeper}
use Rattle.g1_explain.specs.declared.humongous.Keeper.TheVariants.{NoObject, Nothing}
use Rattle.g1_explain.specs.Finders.{Lead, root_leads, slot_leads, found_leads}
use Rattle.g1_explain.specs.Humongous.{run, run_end}
use Rattle.g1_explain.specs.Keepers.{AreKept, leads_in, leads_at, leads_on, leads_by_cards, all_leads, leads_to, first_keeper, keeper_at, keeper_of, keepers_of, or_first, is_apart}
use Rattle.g1_explain.specs.Searched.{AreObjects}
use Rattle.g1_explain.proofs.CardLeads.{by_cards}
use Rattle.g1_explain.proofs.Keepers.{kept_then, own_is}
use Rattle.g1_explain.proofs.LeadOrder.{root_tells, found_tells}

turned : (a b : Bool) → (not a && not b) ≡ not (b || a)
turned true true = refl
turned true false = refl
turned false true = refl
turned false false = refl

pub or_true : (b : Bool) → (b || true) ≡ true
or_true true = refl
or_true false = refl

-- ---- the object that begins in a region

module _ (h : Heap) (valid : IsValid h) (r : ℕ) (first : is_first (kind h r) ≡ true) where
  two : kind h r ≡ HumongousFirst
  two = first_by_test (kind h r) first

  -- an object that stands in the region stands at its start
  pub at_start : (a : ℕ) → Contains (objects h) (object_at h a) → region_of h a ≡ r → a ≡ start h r
  at_start a c e =
      let o : Object = object_at h a in
      let m = flat_map_cases (objects_in h) (regions h) o c in
      let home : region_of h a ≡ m.0 = (sound h valid).in_region m.0 o m.2 in
      let here : Contains (objects_by HumongousFirst h r) o = subst (λ k. Contains (objects_by k h r) o) two (subst (λ q. Contains (objects_in h q) o) (sym home ∙ e) m.2) in
      sym (ap (λ (x : Object). x.at) (one_member (object_at h (start h r)) o here))

  pub start_there : region_of h (start h r) ≡ r
  start_there = let z : r * h.geometry.w ≡ r * h.geometry.w + 0 = omega arith in ap (region_of h) z ∙ div-mul-add r h.geometry.w 0 (omega (arith, valid.limits.w_least))

  same_place : (a : ℕ) → Contains (objects h) (object_at h a) → eqb (region_of h a) r ≡ eqb a (start h r)
  same_place a c =
      same_test (eqb (region_of h a) r) (eqb a (start h r)) (λ t. eq-eqb a (start h r) (at_start a c (eqb-true (region_of h a) r t)))
      (λ t. eq-eqb (region_of h a) r (ap (region_of h) (eqb-true a (start h r) t) ∙ start_there))

  -- references to objects lead into the region exactly if they lead to its start
  pub in_or_at : (ls : List Lead) → ((l : Lead) → Contains ls l → Contains (objects h) (object_at h l.target)) → leads_in h ls r ≡ leads_at h ls r
  in_or_at ls there = filter_same_in (λ l. eqb (region_of h l.target) r) (λ l. eqb l.target (start h r)) ls (λ l k. same_place l.target (there l k))

  -- one stands there
  pub stands : r < h.geometry.n → Contains (objects h) (object_at h (start h r))
  stands lt =
      let here : Contains (objects_in h r) (object_at h (start h r)) = subst (λ k. Contains (objects_by k h r) (object_at h (start h r))) (sym two) (zero, omega arith, refl) in
      Contains-flat_map (objects_in h) (regions h) r (object_at h (start h r)) (Contains-range 0 h.geometry.n r (omega arith) (omega (arith, lt))) here

  -- its first region is one of its own
  pub own_first : r < h.geometry.n → has (run h r) r ≡ true
  own_first lt =
      let size : ℕ = (object_at h (start h r)).size in
      let many : ℕ = div_ceil size h.geometry.w in
      let fits = (object_in h (start h r) valid (stands lt)).0 in
      let times = (div_ceil_times size h.geometry.w (omega (arith, valid.limits.w_least))).0 in
      let some : 0 < many = elim (cases_lt 0 many) [
        | inl less ↦ less
        | inr ge ↦ let z : many ≡ 0 = omega (arith, ge) in let none : size ≤ 0 * h.geometry.w = subst (λ q. size ≤ q * h.geometry.w) z times in absurd (omega (arith, fits, none))
      ] in
      let above : r < run_end h r = omega (arith, some, lt, valid.limits.n_most) in
      sym (own_is r (run_end h r) r) ∙ (λ i. le-leb r r (omega arith) i && lt-ltb r (run_end h r) above i)

-- ---- what the references lead to

pub root_objects : (h : Heap) → IsValid h → (l : Lead) → Contains (root_leads h) l → Contains (objects h) (object_at h l.target)
root_objects h valid l k =
    let t = root_tells h [] l k in
    let there : Contains (root_targets h) l.target =
    Contains-flat_map named h.roots (slice_index h.roots t.number) l.target
    (Contains-get_or h.roots t.number 0 t.below) (subst (λ x. Contains (named x) l.target) (sym t.reads) (zero, omega arith, refl)) in
    (sound h valid).root_named l.target there

pub found_there : (h : Heap) → IsValid h → (found : List ℕ) → AreObjects h found → (l : Lead) → Contains (found_leads h found (length found)) l → Contains (objects h) (object_at h l.target)
found_there h valid found are l k =
    let t = found_tells h [] found (length found) l k in
    let a : ℕ = slice_index found t.place in
    let o : Object = object_at h a in
    let c : Contains (objects h) o = are t.place 0 t.below in
    let e : Ref = record { slot = a + 1 + t.number; target = l.target } in
    let ref : Contains (refs h) e = told_ref h valid e o (contains_has h o valid.shaped c) (omega arith, omega (arith, t.fits)) (omega (arith, t.reads)) in
    (sound h valid).slot_named e ref

-- ---- the cards of a set that lead into the region

module _ (h : Heap) (valid : IsValid h) (set : List ℕ) (marks : List Bool) (are : (r : ℕ) → get_or marks r false ≡ has set r) (r : ℕ) (lt : r < h.geometry.n)
    (first : is_first (kind h r) ≡ true) (test : ℕ → Bool) (lead : AreCards h (cards_where h test) × AreOutside h (r ∷ []) (cards_where h test) × LeadIn h (r ∷ []) (cards_where h test)) where
  abbrev window : List ℕ
  window = set ++ run h r

  abbrev looked : List ℕ
  looked = filter (is_apart h marks r) (cards_where h test)

  outside_both : (q : ℕ) → has window q ≡ (has set q || has (run h r) q)
  outside_both q = list_any-append (λ y. eqb q y) set (run h r)

  apart_is : (c : ℕ) → is_apart h marks r c ≡ not (has window (region_of_card h c))
  apart_is c =
      let q : ℕ = region_of_card h c in
      ap (λ b. not (has (run h r) q) && not b) (are q) ∙ turned (has (run h r) q) (has set q) ∙ ap not (sym (outside_both q))

  rising : AreCards h looked
  rising = record {
    rise = Rises-increasing 0 looked (Rises-filter (is_apart h marks r) 0 (cards_where h test) (Rises-filter test 0 (range_with_len 0 (card_count h)) (Rises-range 0 (card_count h))));
    below = all_from_in (λ c. c < card_count h) looked (λ c k. all_in (λ x. x < card_count h) (cards_where h test) c lead.0.below (filter_member (is_apart h marks r) (cards_where h test) c k).0);
  }

  outside : AreOutside h window looked
  outside c k = not-true (card_in h window c) (sym (apart_is c) ∙ (filter_member (is_apart h marks r) (cards_where h test) c k).1)

  there : (e : Ref) → Contains (refs h) e → eqb e.target (start h r) ≡ true → in_set h window e.slot ≡ false → Contains looked (card_of h e.slot)
  there e c t out =
      let q : ℕ = region_of h e.slot in
      let card : ℕ = card_of h e.slot in
      let to : region_of h e.target ≡ r = ap (region_of h) (eqb-true e.target (start h r) t) ∙ start_there h valid r first in
      let into : in_set h (r ∷ []) e.target ≡ true = has_one r (region_of h e.target) to in
      let off : in_set h (r ∷ []) e.slot ≡ false = false_from_ne_true (has (r ∷ []) q) (λ y.
      let home : q ≡ r = only_one r q y in
      let own : (has set q || has (run h r) q) ≡ true = (λ j. has set q || (ap (has (run h r)) home ∙ own_first h valid r first lt) j) ∙ or_true (has set q) in
      false≢true (sym out ∙ outside_both q ∙ own)) in
      let on : Contains (cards_where h test) card = lead.2 e c into off in
      let home : region_of_card h card ≡ q = card_region h valid e.slot in
      let apart : is_apart h marks r card ≡ true = apart_is card ∙ ap (λ x. not (has window x)) home ∙ ap not out in
      Contains-filter (is_apart h marks r) (cards_where h test) card on apart

  -- the references of the slots on these cards are those of all slots outside
  pub on_these_cards : leads_on h marks r (cards_where h test) ≡ leads_at h (slot_leads h window) r
  on_these_cards = by_cards h window looked (λ a. eqb a (start h r)) valid rising outside there

-- ---- all regions

none_yet : (qs : List Region) (r : ℕ) → keeper_at (map (λ q. if is_first q.kind then Nothing else NoObject) qs) r ≡ (if is_first (get_or qs r free_region).kind then Nothing else NoObject)
none_yet [] r = refl
none_yet (q ∷ qs) zero = refl
none_yet (q ∷ qs) (suc r) = none_yet qs r

module _ (i : Image) (tracked : IsTracked i) (set survivors : List ℕ) (marks : List Bool) (sets : List (List ℕ)) (refined_sets : sets ≡ map (refined i) (regions i.heap))
    (are : (r : ℕ) → get_or marks r false ≡ has set r) (objects_there : AreObjects i.heap survivors) where
  abbrev h : Heap
  h = i.heap

  abbrev counted : ℕ → List Lead
  counted = all_leads h marks sets survivors

  all_are : (r : ℕ) → r < h.geometry.n → is_first (kind h r) ≡ true → counted r ≡ leads_to h set survivors r
  all_are r lt first =
      let valid : IsValid h = tracked.image.heap in
      let z : 0 + r ≡ r = omega arith in
      let own : get_or sets r [] ≡ refined i r = ap (λ (l : List (List ℕ)). get_or l r []) refined_sets ∙ get_or-map-range_with_len (refined i) 0 h.geometry.n r r [] lt z in
      let roots : leads_in h (root_leads h) r ≡ leads_at h (root_leads h) r = in_or_at h valid r first (root_leads h) (root_objects h valid) in
      let slots : leads_by_cards h marks sets r ≡ leads_at h (slot_leads h (set ++ run h r)) r =
      (λ j. cond (lt-ltb r h.geometry.n lt j) (leads_on h marks r (own j)) []) ∙ on_these_cards h valid set marks are r lt first (is_refined i r) (refined_leads_in i r tracked.image tracked.covered lt) in
      let founds : leads_in h (found_leads h survivors (length survivors)) r ≡ leads_at h (found_leads h survivors (length survivors)) r =
      in_or_at h valid r first (found_leads h survivors (length survivors)) (found_there h valid survivors objects_there) in
      let p : Lead → Bool = λ l. eqb l.target (start h r) in
      (λ j. roots j ++ (slots j ++ founds j))
      ∙ sym (filter-append p (root_leads h) (slot_leads h (set ++ run h r) ++ found_leads h survivors (length survivors))
      ∙ ap (λ l. filter p (root_leads h) ++ l) (filter-append p (slot_leads h (set ++ run h r)) (found_leads h survivors (length survivors))))

  one_keeper : (r : ℕ) (b : Bool) → r < h.geometry.n → is_first (kind h r) ≡ b → or_first (if b then Nothing else NoObject) (counted r) ≡ (if b then first_keeper (leads_to h set survivors r) else NoObject)
  one_keeper r true lt e = ap first_keeper (all_are r lt e)
  one_keeper r false lt e = refl

  -- WHAT KEEPS EACH, after all references
  pub keepers_end : (a d : List Keeper) → a ≡ map (λ q. if is_first q.kind then Nothing else NoObject) h.regions → AreKept counted a d → d ≡ keepers_of h set survivors
  keepers_end a d none all =
      let many : length d ≡ h.geometry.n = all.one_each ∙ ap length none ∙ length-map h.regions (λ q. if is_first q.kind then Nothing else NoObject) ∙ tracked.image.heap.region_count in
      let as_many : length (keepers_of h set survivors) ≡ h.geometry.n = length-map (regions h) (keeper_of h set survivors) ∙ length-range_with_len 0 h.geometry.n in
      ext_get_or NoObject d (keepers_of h set survivors) (many ∙ sym as_many) (λ r less.
      let lt : r < h.geometry.n = omega (arith, less, many) in
      let z : 0 + r ≡ r = omega arith in
      all.each r ∙ ap (λ k. or_first k (counted r)) (ap (λ ks. keeper_at ks r) none ∙ none_yet h.regions r) ∙ one_keeper r (is_first (kind h r)) lt refl
      ∙ sym (get_or-map-range_with_len (keeper_of h set survivors) 0 h.geometry.n r r NoObject lt z))

-- each object is kept by the first reference, with those of the survivors or without
pub each_end : (g h : Heap) (marks : List Bool) (sets : List (List ℕ)) (survivors : List ℕ) (a b c d : List Keeper) → g ≡ h → AreKept (leads_in g (root_leads g)) a b → AreKept (leads_by_cards h marks sets) b c
    → (AreObjects g survivors → AreKept (leads_in g (found_leads g survivors (length survivors))) c d) → AreObjects h survivors → AreKept (all_leads h marks sets survivors) a d
each_end g h marks sets survivors a b c d same p q s are =
    let founds : ℕ → List Lead = leads_in h (found_leads h survivors (length survivors)) in
    let roots : AreKept (leads_in h (root_leads h)) a b = subst (λ (x : Heap). AreKept (leads_in x (root_leads x)) a b) same p in
    let last : AreKept founds c d = subst (λ (x : Heap). AreObjects x survivors → AreKept (leads_in x (found_leads x survivors (length survivors))) c d) same s are in
    kept_then (leads_in h (root_leads h)) (λ r. leads_by_cards h marks sets r ++ founds r) a b d roots (kept_then (leads_by_cards h marks sets) founds b c d q last)

-- a list of which a part was written back
pub written_back : {A : Type 0} (n : ℕ) (old new : List A) → length new ≡ length old → length old ≡ n → take n (new ++ drop (length new) old) ≡ new
written_back n old new e f =
    ap (λ l. take n (new ++ l)) (drop_all (length new) old (omega (arith, e))) ∙ ap (take n) (append-nil new) ∙ take_all n new (omega (arith, e, f))
