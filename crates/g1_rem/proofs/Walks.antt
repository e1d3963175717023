-- How far the walk over a region's objects has come, while their cards are written and while their slots are asked.
use Rattle.std.proofs.Common.{◌≡◌, ◌≤◌, ◌<◌, ℕ, ◌+◌, ◌-◌, ◌%◌, ◌^◌, min, List, [], ◌∷◌, ◌++◌, drop, filter, flat_map, slice_index, arith, refl, sym, ap, subst, ◌∙◌}
use Rattle.std.specs.Prelude.{Option, Some, None}
use Rattle.std.specs.List.{range_with_len}
use Rattle.g1_words.specs.Geometry.{most_words}
use Rattle.g1_words.specs.Heap.{Heap, word, start, objects_in, object_at, slots}
use Rattle.g1_words.specs.Valid.{Tiles, IsValid, IsReference}
use Rattle.g1_image.specs.Image.{Image}
use Rattle.g1_rem.specs.Marks.{IsMarkedTo, Told, objects_from}
use Rattle.g1_rem.specs.Cover.{is_bare, bare_in, IsFirstOf}
use Rattle.g1_rem.specs.Places.{AreBehind, AreReadyFor}
use Rattle.g1_rem.proofs.Next.{NextOf}
use Rattle.g1_rem.proofs.Marks.{left_start, told_next}
use Rattle.g1_rem.proofs.Bare.{refs_good, found_here, none_here}
use Rattle.g1_rem.proofs.Places.{ready_at, ready_next}
use Rattle.g1_rem.proofs.Filled.{Tiles-none, row_front, row_rest, row_step}

-- the cards of a region's objects are written up to an address
pub record Marking (h : Heap) (from until r at to : ℕ) (starts : List (Option ℕ)) : Type 0 where
  pub place : ℕ
  pub row : Tiles h.words at (drop place (objects_in h r)) to
  pub told : Told h from until (drop place (objects_in h r) ++ objects_from h (r + 1)) starts

-- before the first object
pub marking_start : (h : Heap) (from until r at to : ℕ) (starts : List (Option ℕ)) → IsValid h → r < h.geometry.n → at ≡ start h r →
    Tiles h.words (start h r) (objects_in h r) to → Told h from until (objects_from h r) starts → Marking h from until r at to starts
marking_start h from until r at to starts valid lt e t told = record {
  place = 0;
  row = subst (λ x. Tiles h.words x (objects_in h r) to) (sym e) t;
  told = subst (λ l. Told h from until l starts) (left_start h valid r lt) told;
}

-- past the last one
pub marking_end : (h : Heap) (from until r at to : ℕ) (starts : List (Option ℕ)) → Marking h from until r at to starts → to ≤ at → Told h from until (objects_from h (r + 1)) starts
marking_end h from until r at to starts m le =
    subst (λ l. Told h from until (l ++ objects_from h (r + 1)) starts) (Tiles-none h.words at (drop m.place (objects_in h r)) to m.row le) m.told

module _ (h : Heap) (from until r at to : ℕ) (old : List (Option ℕ)) (valid : IsValid h) (lt : r < h.geometry.n) (m : Marking h from until r at to old) (more : at < to) where
  -- the object whose cards are next
  pub marking_front : NextOf h r m.place at
  marking_front = row_front h r valid lt m.place at to m.row more

  -- it has a word at least
  pub marking_some : (size : ℕ) → size ≡ (object_at h at).size → 0 < size
  marking_some size e =
      let n = row_front h r valid lt m.place at to m.row more in
      let same = ap (λ o. o.size) n.whole in
      let step = row_step h r m.place at to n m.row in
      omega (arith, step.0, same, e)

  -- its cards are written
  pub marking_step : (mid new : List (Option ℕ)) (size : ℕ) → size ≡ (object_at h at).size →
      IsMarkedTo old mid from h.geometry.k (min at until) None → IsMarkedTo mid new from h.geometry.k (min (at + size) until) (Some at) → Marking h from until r (at + size) to new
  marking_step mid new size e a b =
      let n = row_front h r valid lt m.place at to m.row more in
      let same : n.object.size ≡ size = ap (λ o. o.size) n.whole ∙ sym e in
      record {
        place = m.place + 1;
        row = subst (λ x. Tiles h.words (at + x) (drop (m.place + 1) (objects_in h r)) to) same (row_rest h r m.place at to n m.row);
        told = told_next h valid from until r m.place at n old m.told mid new a (subst (λ x. IsMarkedTo mid new from h.geometry.k (min (at + x) until) (Some at)) e b);
      }

-- the slots of a region's objects are asked up to an address
pub record Asking (i : Image) (r at to : ℕ) (places : List ℕ) : Type 0 where
  pub place : ℕ
  pub row : Tiles i.heap.words at (drop place (objects_in i.heap r)) to
  pub same : bare_in i r ≡ filter (is_bare i) (flat_map slots (drop place (objects_in i.heap r)))
  pub ready : AreReadyFor i places (drop place (objects_in i.heap r) ++ objects_from i.heap (r + 1))

-- before the first object
pub asking_start : (i : Image) (r at to : ℕ) (places : List ℕ) → IsValid i.heap → r < i.heap.geometry.n → at ≡ start i.heap r →
    Tiles i.heap.words (start i.heap r) (objects_in i.heap r) to → AreReadyFor i places (objects_from i.heap r) → Asking i r at to places
asking_start i r at to places valid lt e t ready = record {
  place = 0;
  row = subst (λ x. Tiles i.heap.words x (objects_in i.heap r) to) (sym e) t;
  same = refl;
  ready = subst (AreReadyFor i places) (left_start i.heap valid r lt) ready;
}

-- past the last one none is bare
pub asking_end : (i : Image) (r at to : ℕ) (places : List ℕ) → Asking i r at to places → to ≤ at → bare_in i r ≡ []
asking_end i r at to places a le =
    a.same ∙ ap (λ l. filter (is_bare i) (flat_map slots l)) (Tiles-none i.heap.words at (drop a.place (objects_in i.heap r)) to a.row le)

-- and the places are ready for the later regions
pub asking_ready : (i : Image) (r at to : ℕ) (places : List ℕ) → Asking i r at to places → to ≤ at → AreReadyFor i places (objects_from i.heap (r + 1))
asking_ready i r at to places a le =
    subst (λ l. AreReadyFor i places (l ++ objects_from i.heap (r + 1))) (Tiles-none i.heap.words at (drop a.place (objects_in i.heap r)) to a.row le) a.ready

module _ (i : Image) (r at to : ℕ) (places : List ℕ) (valid : IsValid i.heap) (lt : r < i.heap.geometry.n) (a : Asking i r at to places) (more : at < to) where
  -- the object whose slots are next
  pub asking_front : NextOf i.heap r a.place at
  asking_front = row_front i.heap r valid lt a.place at to a.row more

  -- the objects left, that one first
  left : AreReadyFor i places ((row_front i.heap r valid lt a.place at to a.row more).object ∷ (drop (a.place + 1) (objects_in i.heap r) ++ objects_from i.heap (r + 1)))
  left = subst (λ l. AreReadyFor i places (l ++ objects_from i.heap (r + 1))) (row_front i.heap r valid lt a.place at to a.row more).splits a.ready

  -- the places are behind its first slot
  pub asking_behind : AreBehind i places (at + 1)
  asking_behind =
      let n = row_front i.heap r valid lt a.place at to a.row more in
      subst (λ x. AreBehind i places (x + 1)) (sym n.at_is) (ready_at i places n.object (drop (a.place + 1) (objects_in i.heap r) ++ objects_from i.heap (r + 1)) valid left)

  -- it has a word at least, and ends within the words
  pub asking_fits : (size : ℕ) → size ≡ (object_at i.heap at).size → (0 < size) × (at + size ≤ most_words)
  asking_fits size e =
      let n = row_front i.heap r valid lt a.place at to a.row more in
      let same = ap (λ o. o.size) n.whole in
      let step = row_step i.heap r a.place at to n a.row in
      (omega (arith, step.0, same, e), omega (arith, n.ends, same, e, valid.limits.words_most))

  module _ (refs : ℕ) (e : refs ≡ word i.heap at % 2 ^ 32) where
    -- its slots hold references
    pub asking_good : (p : ℕ) → at + 1 ≤ p → p < at + 1 + refs → IsReference i.heap (slice_index i.heap.words p)
    asking_good = refs_good i.heap r a.place at refs valid (row_front i.heap r valid lt a.place at to a.row more) e

    -- the first bare one among them is the region's
    pub asking_found : (p : ℕ) → IsFirstOf (filter (is_bare i) (range_with_len (at + 1) (at + 1 + refs - (at + 1)))) (Some p) → IsFirstOf (bare_in i r) (Some p)
    asking_found = found_here i r a.place at refs (row_front i.heap r valid lt a.place at to a.row more) e a.same

    -- where none is bare the walk goes on
    pub asking_step : (later : List ℕ) (size : ℕ) → size ≡ (object_at i.heap at).size →
        IsFirstOf (filter (is_bare i) (range_with_len (at + 1) (at + 1 + refs - (at + 1)))) None → AreBehind i later (at + 1 + refs) → Asking i r (at + size) to later
    asking_step later size f none behind =
        let n = row_front i.heap r valid lt a.place at to a.row more in
        let same : n.object.size ≡ size = ap (λ o. o.size) n.whole ∙ sym f in
        record {
          place = a.place + 1;
          row = subst (λ x. Tiles i.heap.words (at + x) (drop (a.place + 1) (objects_in i.heap r)) to) same (row_rest i.heap r a.place at to n a.row);
          same = none_here i r a.place at refs n e a.same none;
          ready = ready_next i places later n.object (drop (a.place + 1) (objects_in i.heap r) ++ objects_from i.heap (r + 1)) (at + 1 + refs) valid
              left (omega (arith, e, n.refs_is, n.at_is, left.ahead.1)) behind;
        }
