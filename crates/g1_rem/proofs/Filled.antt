-- A walk over the objects that start in a region, header by header.
use Rattle.std.proofs.Common.{◌≡◌, ◌≤◌, ◌<◌, ℕ, suc, ◌+◌, inl, inr, List, [], ◌∷◌, length, get_or, map, drop, arith, refl, sym, ap, subst, ◌∙◌}
use Rattle.std.proofs.Math.ListN.{drop_of_length-le}
use Rattle.std.proofs.Math.Seq.{drop-cons}
use Rattle.std.proofs.lemmas.Bool.{cases_lt}
use Rattle.std.proofs.lemmas.List.{length-map, get_or-map}
use Rattle.g1_words.specs.declared.object.Object.{Object}
use Rattle.g1_words.specs.declared.region.Kind.{Kind}
use Rattle.g1_words.specs.declared.region.Kind.TheVariants.{Free, Ordinary, HumongousFirst, Continuation}
use Rattle.g1_words.specs.Heap.{Heap, kind, start, end, objects_in, object_at}
use Rattle.g1_words.specs.Valid.{Tiles, HoldsBy, IsValid}
use Rattle.g1_words.proofs.Computed.{holds_computed, object_is, Tiles-length}
use Rattle.g1_words.proofs.Tiling.{Tiles-le}
use Rattle.g1_rem.proofs.Next.{NextOf, next_of}

-- no object fills no words
pub Tiles-none : (words : List ℕ) (from : ℕ) (os : List Object) (to : ℕ) → Tiles words from os to → to ≤ from → os ≡ []
Tiles-none words from [] to t le = refl
Tiles-none words from (o ∷ os) to t le = absurd (omega (arith, Tiles-length words from (o ∷ os) to t, le))

module _ (h : Heap) (r : ℕ) (valid : IsValid h) (lt : r < h.geometry.n) where
  -- the objects that start in a region of known kind
  held : (k : Kind) → kind h r ≡ k → HoldsBy k h r (objects_in h r)
  held k e = subst (λ k. HoldsBy k h r (objects_in h r)) e (holds_computed h r valid.shaped lt)

  -- they fill an ordinary region up to its top
  pub ordinary_fills : kind h r ≡ Ordinary → Tiles h.words (start h r) (objects_in h r) (end h r)
  ordinary_fills e = held Ordinary e

  -- a humongous object fills its own words
  pub humongous_fills : kind h r ≡ HumongousFirst → Tiles h.words (start h r) (objects_in h r) (start h r + (object_at h (start h r)).size)
  humongous_fills e =
      let s = held HumongousFirst e in
      let o : Object = s.0 in
      let whole : o ≡ object_at h (start h r) = object_is h o s.1.object ∙ ap (object_at h) s.1.at in
      let row : Tiles h.words (start h r) (o ∷ []) (start h r + o.size) = (s.1.at, s.1.object, refl) in
      subst (λ q. Tiles h.words (start h r) (objects_in h r) (start h r + q.size)) whole
      (subst (λ l. Tiles h.words (start h r) l (start h r + o.size)) (sym s.2) row)

  -- in other regions none starts
  pub free_fills : kind h r ≡ Free → Tiles h.words (start h r) (objects_in h r) (start h r)
  free_fills e = subst (λ l. Tiles h.words (start h r) l (start h r)) (sym (held Free e)) refl

  pub continuation_fills : kind h r ≡ Continuation → Tiles h.words (start h r) (objects_in h r) (start h r)
  continuation_fills e = subst (λ l. Tiles h.words (start h r) l (start h r)) (sym (held Continuation e)) refl

  -- the object that a walk has come to
  pub row_front : (j at to : ℕ) → Tiles h.words at (drop j (objects_in h r)) to → at < to → NextOf h r j at
  row_front j at to t more = elim (cases_lt j (length (objects_in h r))) [
    | inl inside ↦ (
        let os : List Object = objects_in h r in
        let d : Object = record { at = 0; size = 0; refs = 0 } in
        let row : Tiles h.words at (get_or (objects_in h r) j d ∷ drop (suc j) (objects_in h r)) to = subst (λ l. Tiles h.words at l to) (drop-cons os j d inside) t in
        let starts : List ℕ = map (λ o. o.at) os in
        next_of h r j at starts valid lt refl (omega (arith, inside, length-map os (λ o. o.at)))
        (sym row.0 ∙ sym (get_or-map (λ (o : Object). o.at) os j d 0 inside)))
    | inr past ↦ (
        let row : Tiles h.words at [] to = subst (λ l. Tiles h.words at l to) (drop_of_length-le (objects_in h r) past) t in
        absurd (omega (arith, row, more)))
  ]

-- past that object the later ones fill the rest
pub row_rest : (h : Heap) (r j at to : ℕ) (n : NextOf h r j at) → Tiles h.words at (drop j (objects_in h r)) to → Tiles h.words (at + n.object.size) (drop (j + 1) (objects_in h r)) to
row_rest h r j at to n t =
    let row : Tiles h.words at (n.object ∷ drop (j + 1) (objects_in h r)) to = subst (λ l. Tiles h.words at l to) n.splits t in
    row.2

-- it has a word at least, and ends within the row
pub row_step : (h : Heap) (r j at to : ℕ) (n : NextOf h r j at) → Tiles h.words at (drop j (objects_in h r)) to → (0 < n.object.size) × (at + n.object.size ≤ to)
row_step h r j at to n t =
    let row : Tiles h.words at (n.object ∷ drop (j + 1) (objects_in h r)) to = subst (λ l. Tiles h.words at l to) n.splits t in
    (omega (arith, row.1.refs_fit), Tiles-le h.words (at + n.object.size) (drop (j + 1) (objects_in h r)) to row.2)
