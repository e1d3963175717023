-- The slots between two addresses, object by object.
use Rattle.std.proofs.Common.{◌≡◌, ◌≤◌, ◌<◌, ℕ, ◌+◌, ◌-◌, ◌/◌, ◌%◌, ◌^◌, ◌⊎◌, inl, inr, true, List, [], ◌∷◌, ◌++◌, length, slice_index, filter, flat_map, max, min, arith, refl, Contains}
use Rattle.std.proofs.Common.{sym, ap, subst, ◌∙◌, append-nil}
use Rattle.std.specs.Prelude.{nat_le, nat_lt}
use Rattle.std.specs.List.{range_with_len}
use Rattle.std.proofs.lemmas.Bool.{leb-true, le-leb, ltb-true, lt-ltb, and_parts}
use Rattle.std.proofs.lemmas.List.{length-append}
use Rattle.std.proofs.lemmas.List.Elements.{filter-append}
use Rattle.std.proofs.lemmas.List.FromFn.{length-range_with_len}
use Rattle.std.proofs.lemmas.Grind.{flat_map-append}
use Rattle.g1_words.specs.declared.object.Object.{Object}
use Rattle.g1_words.specs.Heap.{slots}
use Rattle.g1_words.specs.Valid.{Tiles}
use Rattle.g1_words.specs.Walk.{Reaches}
use Rattle.g1_words.proofs.Members.{Contains-filter, filter_member, none_contains}
use Rattle.g1_words.proofs.Tiling.{Tiles-append, Tiles-one, Reaches-front, Front}
use Rattle.g1_words.proofs.Computed.{Contains-range, range_above, range_below, Tiles-length}
use Rattle.g1_rem.specs.Slots.{is_between}
use Rattle.g1_rem.specs.Marks.{Chain}
use Rattle.g1_rem.proofs.Rising.{Rises-range, Rises-filter, Rises-one, Rises-above}
use Rattle.g1_rem.proofs.Lists.{filter_none}
use Rattle.g1_rem.proofs.Order.{Chain-tiles, Chain-slots}
pub use Rattle.g1_words.proofs.Lists.{range_until as range_more}

-- an address between the two passes
pub between_is : (lo hi p : ℕ) → lo ≤ p → p < hi → is_between lo hi p ≡ true
between_is lo hi p le lt = rw (le-leb lo p le, lt-ltb p hi lt) refl

-- what passes lies between the two
pub is_between_there : (lo hi p : ℕ) → is_between lo hi p ≡ true → (lo ≤ p) × (p < hi)
is_between_there lo hi p e = let b = and_parts (nat_le lo p) (nat_lt p hi) e in (leb-true lo p b.0, ltb-true p hi b.1)

-- one object's slots between two addresses
pub slots_range : (at refs lo hi first last : ℕ) → first ≡ max (at + 1) lo → last ≡ min (at + 1 + refs) hi →
    range_with_len first (last - first) ≡ filter (is_between lo hi) (range_with_len (at + 1) refs)
slots_range at refs lo hi first last f l =
    Rises-one first (at + 1) (range_with_len first (last - first)) (filter (is_between lo hi) (range_with_len (at + 1) refs))
    (Rises-range first (last - first))
    (Rises-filter (is_between lo hi) (at + 1) (range_with_len (at + 1) refs) (Rises-range (at + 1) refs))
    (λ p i.
    let a = range_above first (last - first) p i in
    let b = range_below first (last - first) p i in
    Contains-filter (is_between lo hi) (range_with_len (at + 1) refs) p (Contains-range (at + 1) refs p (omega (arith, a, f)) (omega (arith, a, b, l)))
    (between_is lo hi p (omega (arith, a, f)) (omega (arith, a, b, l))))
    (λ p i.
    let m = filter_member (is_between lo hi) (range_with_len (at + 1) refs) p i in
    let a = range_above (at + 1) refs p m.0 in
    let b = range_below (at + 1) refs p m.0 in
    let t = is_between_there lo hi p m.1 in
    Contains-range first (last - first) p (omega (arith, a, t.0, f)) (omega (arith, a, b, t.0, t.1, f, l)))

-- the slots of a row lie in it
pub slots_above : (words : List ℕ) (from : ℕ) (os : List Object) (to p : ℕ) → Tiles words from os to → Contains (flat_map slots os) p → from ≤ p
slots_above words from os to p t i =
    let c : Chain from (os ++ []) = Chain-tiles words from os to [] t tt in
    let d : Chain from os = subst (λ l. Chain from l) (append-nil os) c in
    Rises-above from (flat_map slots os) p (Chain-slots from os d) i

-- how far a scan has come
pub record Scanned (words : List ℕ) (from to lo hi at : ℕ) (items : List ℕ) : Type 0 where
  pub before : List Object
  pub passed : Tiles words from before at
  pub ahead : Reaches words at to
  pub found : items ≡ filter (is_between lo hi) (flat_map slots before)
  pub few : length items ≤ at - lo

-- before the first object
pub scan_start : (words : List ℕ) (from to lo hi : ℕ) → Reaches words from to → Scanned words from to lo hi from []
scan_start words from to lo hi r = record { before = []; passed = refl; ahead = r; found = refl; few = omega arith }

module _ (words : List ℕ) (from to lo hi at : ℕ) (items : List ℕ) (s : Scanned words from to lo hi at items) (lt : at < to) (header : ℕ) (e : header ≡ slice_index words at) where
  -- the next object
  pub scan_front : Front words at to
  scan_front = Reaches-front words at to s.ahead lt

  -- its size is the header's
  pub scan_size : (Reaches-front words at to s.ahead lt).first.size ≡ header / 2 ^ 32
  scan_size =
      let f = Reaches-front words at to s.ahead lt in
      let here : slice_index words f.first.at ≡ header = ap (slice_index words) f.at ∙ sym e in
      omega (arith, f.object.header, here, f.object.refs_fit, f.object.size_fits)

  -- its number of slots is the header's
  pub scan_refs : (Reaches-front words at to s.ahead lt).first.refs ≡ header % 2 ^ 32
  scan_refs =
      let f = Reaches-front words at to s.ahead lt in
      let here : slice_index words f.first.at ≡ header = ap (slice_index words) f.at ∙ sym e in
      omega (arith, f.object.header, here, f.object.refs_fit, f.object.size_fits)

  -- it goes on, and stays within
  pub scan_fits : (0 < header / 2 ^ 32) × (header % 2 ^ 32 < header / 2 ^ 32) × (at + header / 2 ^ 32 ≤ to)
  scan_fits =
      let f = Reaches-front words at to s.ahead lt in
      (omega (arith, scan_size, f.object.refs_fit), omega (arith, scan_size, scan_refs, f.object.refs_fit), omega (arith, scan_size, f.within))

  -- its slots between the two are found
  pub scan_step : (first last : ℕ) (more : List ℕ) → at < hi → first ≡ max (at + 1) lo → last ≡ min (at + 1 + header % 2 ^ 32) hi → more ≡ items ++ range_with_len first (last - first)
      → Scanned words from to lo hi (at + header / 2 ^ 32) more
  scan_step first last more short f l pushed =
      let g = Reaches-front words at to s.ahead lt in
      let o : Object = g.first in
      let size : o.size ≡ header / 2 ^ 32 = scan_size in
      let refs : o.refs ≡ header % 2 ^ 32 = scan_refs in
      let its : range_with_len first (last - first) ≡ filter (is_between lo hi) (slots o) =
      slots_range at (header % 2 ^ 32) lo hi first last f l ∙ ap (λ x. filter (is_between lo hi) (range_with_len (x + 1) (header % 2 ^ 32)))
      (sym g.at) ∙ ap (λ x. filter (is_between lo hi) (range_with_len (o.at + 1) x)) (sym refs) in
      let len : length more ≡ length items + (last - first) = ap length pushed ∙ length-append items (range_with_len first (last - first))
      ∙ ap (λ x. length items + x) (length-range_with_len first (last - first)) in
      let one : flat_map slots (s.before ++ o ∷ []) ≡ flat_map slots s.before ++ slots o =
      flat_map-append slots s.before (o ∷ []) ∙ ap (λ l. flat_map slots s.before ++ l) (append-nil (slots o)) in
      record {
        before = s.before ++ o ∷ [];
        passed = subst (λ x. Tiles words from (s.before ++ o ∷ []) (at + x)) size (Tiles-append words from s.before at (o ∷ []) (at + o.size) s.passed (g.at, g.object, refl));
        ahead = subst (λ x. Reaches words (at + x) to) size g.rest;
        found = pushed ∙ ap (λ l. items ++ l) its ∙ ap (λ l. l ++ filter (is_between lo hi) (slots o)) s.found
            ∙ sym (filter-append (is_between lo hi) (flat_map slots s.before) (slots o)) ∙ ap (filter (is_between lo hi)) (sym one);
        few = omega (arith, len, s.few, f, l, short, scan_fits.0, scan_fits.1);
      }

-- past the last object, or past the card
pub scan_end : (words : List ℕ) (from to lo hi at : ℕ) (items : List ℕ) → Scanned words from to lo hi at items → (to ≤ at) ⊎ (hi ≤ at) →
    (os : List Object) → Tiles words from os to → items ≡ filter (is_between lo hi) (flat_map slots os)
scan_end words from to lo hi at items s over os t =
    let after : List Object = s.ahead.0 in
    let whole : os ≡ s.before ++ after = Tiles-one words from os (s.before ++ after) to t (Tiles-append words from s.before at after to s.passed s.ahead.1) in
    let none : filter (is_between lo hi) (flat_map slots after) ≡ [] = filter_none (is_between lo hi) (flat_map slots after) (λ p i b.
    let above = slots_above words at after to p s.ahead.1 i in
    let there = is_between_there lo hi p b in
    elim over [
      | inl e ↦ (let len = Tiles-length words at after to s.ahead.1 in empty after (omega (arith, e, len)) p i)
      | inr e ↦ omega (arith, above, there.1, e)
    ]) in
    s.found ∙ sym (append-nil (filter (is_between lo hi) (flat_map slots s.before))) ∙ ap (λ l. filter (is_between lo hi) (flat_map slots s.before) ++ l) (sym none)
    ∙ sym (filter-append (is_between lo hi) (flat_map slots s.before) (flat_map slots after)) ∙ ap (filter (is_between lo hi)) (sym (flat_map-append slots s.before after))
    ∙ ap (λ l. filter (is_between lo hi) (flat_map slots l)) (sym whole)
  where
    empty : (os : List Object) → length os ≤ 0 → (p : ℕ) → Contains (flat_map slots os) p → ⊥
    empty [] le p i = none_contains p i
    empty (o ∷ os) le p i = omega (arith, le)
