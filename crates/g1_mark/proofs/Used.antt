-- Every object and every slot lies in a used region.
use Rattle.std.proofs.Common.{◌≡◌, ◌≢◌, ◌<◌, ℕ, ◌+◌, ◌-◌, Bool, true, cond, not, List, [], ◌∷◌, ◌++◌, filter, flat_map, Contains, arith, refl, sym, ap, subst, ◌∙◌}
use Rattle.std.specs.List.{range_with_len}
use Rattle.std.proofs.lemmas.List.Elements.{filter-append}
use Rattle.std.proofs.lemmas.List.Kept.{IsStrictlyIncreasing-filter}
use Rattle.g1_words.specs.declared.object.Object.{Object}
use Rattle.g1_words.specs.declared.region.Kind.{Kind}
use Rattle.g1_words.specs.declared.region.Kind.TheVariants.{Free, Ordinary, HumongousFirst, Continuation}
use Rattle.g1_words.specs.Heap.{Heap, kind, regions, region_of, objects, slots, is_free}
use Rattle.g1_words.specs.Lists.{has}
use Rattle.g1_words.specs.References.{Ref, refs, refs_at, named}
use Rattle.g1_words.specs.Survivors.{in_set}
use Rattle.g1_words.specs.Valid.{IsValid}
use Rattle.g1_words.proofs.Computed.{Contains-range, range_below, range_above}
use Rattle.g1_words.proofs.Members.{Contains-filter, filter_member, flat_map_cases, map_cases, has_from_contains}
use Rattle.g1_words.proofs.Shapes.{built}
use Rattle.g1_words.proofs.Sound.{sound}
use Rattle.g1_words.proofs.Standing.{home, word_used}
use Rattle.g1_words.proofs.Lists.{all_from_in, range_until}
use Rattle.g1_rem.proofs.Rising.{Rises-range, Rises-increasing}
use Rattle.g1_frontier.specs.Window.{AreRegions}
use Rattle.g1_mark.specs.Marked.{used}

is_used : (k : Kind) → k ≢ Free → not (is_free k) ≡ true
is_used Free d = absurd (d refl)
is_used Ordinary d = refl
is_used HumongousFirst d = refl
is_used Continuation d = refl

-- one region more
pub used_more : (p : ℕ → Bool) (r : ℕ) (front more : List ℕ) (b : Bool) → front ≡ filter p (range_with_len 0 r) → p r ≡ b
    → more ≡ front ++ cond b (r ∷ []) [] → more ≡ filter p (range_with_len 0 (r + 1))
used_more p r front more b e t f =
    f ∙ (λ i. e i ++ cond (sym t i) (r ∷ []) []) ∙ sym (filter-append p (range_with_len 0 r) (r ∷ [])) ∙ ap (filter p) grown
  where
    grown : range_with_len 0 r ++ r ∷ [] ≡ range_with_len 0 (r + 1)
    grown =
        let before : r - 0 ≡ r = omega arith in
        let after : r + 1 - 0 ≡ r + 1 = omega arith in
        ap (λ n. range_with_len 0 n ++ r ∷ []) (sym before) ∙ range_until 0 r (omega arith) ∙ ap (range_with_len 0) after

module _ (h : Heap) where
  -- the used regions are regions, rising
  pub used_are_regions : AreRegions h (used h)
  used_are_regions = record {
    rise = IsStrictlyIncreasing-filter (λ r. not (is_free (kind h r))) (regions h) (Rises-increasing 0 (regions h) (Rises-range 0 h.geometry.n));
    below = all_from_in (λ r. r < h.geometry.n) (used h) (λ r i. omega (arith, range_below 0 h.geometry.n r (filter_member (λ r. not (is_free (kind h r))) (regions h) r i).0));
  }

  has_used : (r : ℕ) → r < h.geometry.n → kind h r ≢ Free → has (used h) r ≡ true
  has_used r lt d =
      has_from_contains (used h) r (Contains-filter (λ r. not (is_free (kind h r))) (regions h) r (Contains-range 0 h.geometry.n r (omega arith) (omega (arith, lt))) (is_used (kind h r) d))

  module _ (valid : IsValid h) where
    word_in_used : (o : Object) (m : ℕ) → Contains (objects h) o → m < o.size → in_set h (used h) (o.at + m) ≡ true
    word_in_used o m c lt =
        let s = home h (built h valid) o c in
        let u = word_used h (built h valid) s.0 o m s.2 lt in
        has_used (region_of h (o.at + m)) u.0 u.1

    pub object_used : (o : Object) → Contains (objects h) o → in_set h (used h) o.at ≡ true
    object_used o c =
        let fit = (sound h valid).slots_fit o c in
        let e : o.at + 0 ≡ o.at = omega arith in
        subst (λ a. in_set h (used h) a ≡ true) e (word_in_used o 0 c (omega (arith, fit)))

    -- the slot of a reference
    pub slot_used : (e : Ref) → Contains (refs h) e → in_set h (used h) e.slot ≡ true
    slot_used e i =
        let m = flat_map_cases (λ o. flat_map (refs_at h) (slots o)) (objects h) e i in
        let o : Object = m.0 in
        let p = flat_map_cases (refs_at h) (slots o) e m.2 in
        let q = map_cases (λ a. record { slot = p.0; target = a }) (named (Rattle.g1_words.specs.Heap.word h p.0)) e p.2 in
        let at : p.0 ≡ e.slot = ap (λ (x : Ref). x.slot) q.2 in
        let low = range_above (o.at + 1) o.refs p.0 p.1 in
        let high = range_below (o.at + 1) o.refs p.0 p.1 in
        let fit = (sound h valid).slots_fit o m.1 in
        let far : o.at + (p.0 - o.at) ≡ p.0 = omega (arith, low) in
        subst (λ a. in_set h (used h) a ≡ true) (far ∙ at) (word_in_used o (p.0 - o.at) m.1 (omega (arith, low, high, fit)))
