-- How many objects start in a region, counted by a walk over their headers.
use Rattle.std.proofs.Common.{◌≡◌, ◌≤◌, ◌<◌, ℕ, ◌+◌, ◌*◌, length, drop, sym, ap, ◌∙◌, subst, arith}
use Rattle.std.proofs.Common.{length-drop}
use Rattle.g1_words.specs.Heap.{Heap, objects_in, object_at, start}
use Rattle.g1_words.specs.Valid.{Tiles, IsValid}
use Rattle.g1_rem.proofs.Next.{NextOf}
use Rattle.g1_rem.proofs.Filled.{Tiles-none, row_front, row_rest, row_step}

-- so many of a region's objects lie before an address, and the others fill the words from there
pub record CountedTo (h : Heap) (r at to count : ℕ) : Type 0 where
  pub row : Tiles h.words at (drop count (objects_in h r)) to
  pub few : count ≤ length (objects_in h r)
  pub low : count ≤ at

pub counting_start : (h : Heap) (r at to : ℕ) → at ≡ start h r → Tiles h.words (start h r) (objects_in h r) to → CountedTo h r at to 0
counting_start h r at to e t = record { row = subst (λ x. Tiles h.words x (objects_in h r) to) (sym e) t; few = omega arith; low = omega arith }

pub counting_end : (h : Heap) (r at to count : ℕ) → CountedTo h r at to count → to ≤ at → count ≡ length (objects_in h r)
counting_end h r at to count c le =
    let none = ap length (Tiles-none h.words at (drop count (objects_in h r)) to c.row le) in
    omega (arith, none, length-drop count (objects_in h r), c.few)

module _ (h : Heap) (r at to count : ℕ) (valid : IsValid h) (lt : r < h.geometry.n) (c : CountedTo h r at to count) (more : at < to) where
  front : NextOf h r count at
  front = row_front h r valid lt count at to c.row more

  -- the object is among the words
  pub counting_here : at < h.geometry.n * h.geometry.w
  counting_here = let n = front in omega (arith, n.fits)

  -- and ends within them
  pub counting_ends : (size : ℕ) → size ≡ (object_at h at).size → at + size ≤ h.geometry.n * h.geometry.w
  counting_ends size e = let n = front in let same = ap (λ o. o.size) n.whole in omega (arith, n.ends, same, e)

  -- it has a word at least, and ends within the row
  pub counting_some : (size : ℕ) → size ≡ (object_at h at).size → (0 < size) × (at + size ≤ to)
  counting_some size e =
      let n = front in
      let same = ap (λ o. o.size) n.whole in
      let step = row_step h r count at to n c.row in
      (omega (arith, step.0, same, e), omega (arith, step.1, same, e))

  -- it is counted
  pub counting_step : (size : ℕ) → size ≡ (object_at h at).size → CountedTo h r (at + size) to (count + 1)
  counting_step size e =
      let n = front in
      let same : n.object.size ≡ size = ap (λ o. o.size) n.whole ∙ sym e in
      let long = ap length n.splits in
      record {
        row = subst (λ x. Tiles h.words (at + x) (drop (count + 1) (objects_in h r)) to) same (row_rest h r count at to n c.row);
        few = omega (arith, long, length-drop count (objects_in h r));
        low = omega (arith, c.low, counting_some size e);
      }
