-- Two objects whose data words alone differ become a pair.
use Rattle.std.proofs.Common.{◌≡◌, ℕ, suc, ◌+◌, ◌-◌, ◌<◌, ◌≤◌, [], length, Contains, sym, ap, subst, ◌∙◌, arith, slice_index}
use Rattle.g1_words.specs.Heap.{Heap, word, object_at, objects}
use Rattle.g1_words.proofs.Sound.{object_in}
use Rattle.g1_same.specs.declared.pair.Pair.{Pair}
use Rattle.g1_same.specs.declared.walk.Walk.{Walk}
use Rattle.g1_same.specs.declared.walk.Found.{Found}
use Rattle.g1_same.specs.declared.walk.What.TheVariants as what
use Rattle.g1_same.specs.declared.difference.How.TheVariants.{Data}
use Rattle.g1_same.specs.declared.stale.StaleWords.{StaleWords}
use Rattle.g1_same.specs.Walk.{IsWay, IsTour, IsLinked, IsBelow, HasGrown}
use Rattle.g1_same.specs.Behind.{IsStaleAt, Differs, IsFound, AddsOnly}
use Rattle.g1_same.proofs.Held.{after_valid, before_valid}
use Rattle.g1_same.proofs.Heaps.{object_named}
use Rattle.g1_same.proofs.Adding.{IsAdded, added_grown, added_only, added_walk, added_linked, added_below, earlier_next}
use Rattle.g1_same.proofs.Between.{way_names_before, way_names_after, way_within, index_new}

-- two objects that are both new, by the way of a place
pub record IsNewPair (g h : Heap) (w : Walk) (f n x y : ℕ) : Type 0 where
  pub x_is : x ≡ suc (x - 1)
  pub y_is : y ≡ suc (y - 1)
  pub x_in : Contains (objects g) (object_at g (x - 1))
  pub y_in : Contains (objects h) (object_at h (y - 1))
  pub header : word g (x - 1) ≡ word h (y - 1)
  pub a_lt : x - 1 < length w.new_of.items
  pub b_lt : y - 1 < length w.old_of.items
  pub a_new : slice_index w.new_of.items (x - 1) ≡ 0
  pub b_new : slice_index w.old_of.items (y - 1) ≡ 0
  pub way : IsWay g h w.before.items w.after.items f n (suc (x - 1)) (suc (y - 1))
  pub back : f ≤ length w.before.items

pub new_pair : (p : Pair) (s : StaleWords) (w : Walk) (d : Found) (k : ℕ) → IsTour p.before.now p.after.now w → IsFound p.before.now p.after.now s w d → d.what ≡ what.How (Data k)
    → IsNewPair p.before.now p.after.now w d.place.way.from d.place.way.number d.place.before d.place.after
new_pair p s w d k tour found is =
    let g : Heap = p.before.now in
    let h : Heap = p.after.now in
    let left = before_valid p in
    let right = after_valid p in
    let f : ℕ = d.place.way.from in
    let n : ℕ = d.place.way.number in
    let x : ℕ = d.place.before in
    let y : ℕ = d.place.after in
    let q = subst (λ z. Differs g h w (IsStaleAt s w f n) z x y) is found.differs in
    let seen = q.0 [] in
    let a : ℕ = seen.0 in
    let b : ℕ = seen.1 in
    let ea : a ≡ x - 1 = omega (arith, seen.2) in
    let eb : b ≡ y - 1 = omega (arith, seen.3) in
    let ex : x ≡ suc (x - 1) = omega (arith, seen.2) in
    let ey : y ≡ suc (y - 1) = omega (arith, seen.3) in
    let least = q.1 (x - 1) (y - 1) ex ey in
    let x_in = object_named g x (x - 1) left (way_names_before g h w left tour f n x y found.way) ex in
    let y_in = object_named h y (y - 1) right (way_names_after g h w right tour f n x y found.way) ey in
    let x_lt : x - 1 < length w.new_of.items = let o = object_in g (x - 1) left x_in in omega (arith, o.0, o.1, tour.table_before) in
    let y_lt : y - 1 < length w.old_of.items = let o = object_in h (y - 1) right y_in in omega (arith, o.0, o.1, tour.table_after) in
    record {
      x_is = ex;
      y_is = ey;
      x_in = x_in;
      y_in = y_in;
      header = ap (word g) (sym ea) ∙ seen.4 ∙ ap (word h) eb;
      a_lt = x_lt;
      b_lt = y_lt;
      a_new = index_new w.new_of.items w.before.items tour.index_before (x - 1) x_lt least.0;
      b_new = index_new w.old_of.items w.after.items tour.index_after (y - 1) y_lt least.1;
      way = subst (λ z. IsWay g h w.before.items w.after.items f n z (suc (y - 1))) ex (subst (λ z. IsWay g h w.before.items w.after.items f n x z) ey found.way);
      back = way_within g h w f n x y found.way;
    }

module _ (g h : Heap) (w v : Walk) (f n x y : ℕ) (tour : IsTour g h w) (below : IsBelow w f n) (p : IsNewPair g h w f n x y) (e : IsAdded w v f n (x - 1) (y - 1)) where
  pub passed_walk : IsTour g h v
  passed_walk = added_walk g h w v f n (x - 1) (y - 1) tour e p.x_in p.y_in p.header p.a_lt p.b_lt p.a_new p.b_new p.way p.back below

  pub passed_grown : HasGrown w v
  passed_grown = added_grown g h w v f n (x - 1) (y - 1) tour e

  pub passed_below : IsBelow v f (n + 1)
  passed_below = added_below g h w v f n (x - 1) (y - 1) tour e below

  pub passed_linked : IsLinked v f n x y
  passed_linked = subst (λ z. IsLinked v f n z y) (sym p.x_is) (subst (λ z. IsLinked v f n (suc (x - 1)) z) (sym p.y_is) (added_linked g h w v f n (x - 1) (y - 1) tour e))

  pub passed_only : AddsOnly w v f n
  passed_only = added_only g h w v f n (x - 1) (y - 1) tour e

pub nothing_added : (w : Walk) (f n : ℕ) → AddsOnly w w f n
nothing_added w f n i ge lt = absurd (omega (arith, ge, lt))

pub below_next : (w : Walk) (f n : ℕ) → IsBelow w f n → IsBelow w f (n + 1)
below_next w f n below i lt = earlier_next _ _ f n (below i lt)
