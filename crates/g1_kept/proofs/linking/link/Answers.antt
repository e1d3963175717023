use Rattle.g1_kept.proofs.Growing.{grown_same}
use Rattle.std.proofs.Common.{arith, refl, subst, sym, suc, ℕ, ◌<◌, length, slice_index}
use Rattle.g1_same.specs.Walk.{IsNew}
use Rattle.g1_kept.specs.declared.lost.Lost.TheVariants as lost
use Rattle.g1_kept.specs.Walk.{ArePaired, PassesWords, StopsAtWords}
use Rattle.g1_words.proofs.Sound.{object_in}
use Rattle.g1_same.proofs.Heaps.{object_named}
use Rattle.g1_kept.proofs.Adding.{IsAdded, added_walk, added_paired, pairs_fit, added_grown}
use Rattle.g1_kept.proofs.Walking.{passes_same, passes_new, stops_differ, stops_occupied}
use Rattle.g1_kept.proofs.Words.{new_before, new_after}
use Rattle.g1_same.proofs.Words.{IsRead}
use Rattle.g1_same.proofs.Held.{after_valid, before_valid}
use Rattle.g1_kept.proofs.linking.link.Goals as goal

added : (c : goal.In_ok-add-in-New) → IsAdded c.args.pairs.now c.add.new.self c.in-New.a c.in-New.b
added c = record {
  before = c.in_ok-add-in-New.ensures.before;
  after = c.in_ok-add-in-New.ensures.after;
  new_of = c.in_ok-add-in-New.ensures.new_of;
  old_of = c.in_ok-add-in-New.ensures.old_of;
}

pub add-requires-clause-a : goal.add-requires-clause-a
add-requires-clause-a c =
    let o = object_in c.args.pause.now.heaps.before.now c.in-New.a (before_valid c.args.pause.now.heaps) (object_named c.args.pause.now.heaps.before.now c.args.x c.in-New.a (before_valid c.args.pause.now.heaps) c.requires.x c.in-New.ensures.0) in
    omega (arith, o.0, o.1, c.requires.walk.table_before)

pub add-requires-clause-b : goal.add-requires-clause-b
add-requires-clause-b c =
    let o = object_in c.args.pause.now.heaps.after.now c.in-New.b (after_valid c.args.pause.now.heaps) (object_named c.args.pause.now.heaps.after.now c.args.y c.in-New.b (after_valid c.args.pause.now.heaps) c.requires.y c.in-New.ensures.1) in
    omega (arith, o.0, o.1, c.requires.walk.table_after)

pub add-requires-clause-few : goal.add-requires-clause-few
add-requires-clause-few c =
    let pause = c.args.pause.now in
    pairs_fit pause.fill pause.set.now pause.heaps.before.now pause.heaps.after.now c.args.pairs.now (before_valid c.args.pause.now.heaps) c.requires.walk

pub returns-in_ok-add-in-New-clause-walk : goal.returns-in_ok-add-in-New-clause-walk
returns-in_ok-add-in-New-clause-walk c =
    let pause = c.args.pause.now in
    let g = pause.heaps.before.now in
    let h = pause.heaps.after.now in
    let w = c.args.pairs.now in
    let v = c.add.new.self in
    let met = c.in-New.ensures in
    let a : ℕ = c.in-New.a in
    let b : ℕ = c.in-New.b in
    let x_in = object_named g c.args.x a (before_valid c.args.pause.now.heaps) c.requires.x met.0 in
    let y_in = object_named h c.args.y b (after_valid c.args.pause.now.heaps) c.requires.y met.1 in
    let x_lt : a < length w.new_of.items = let o = object_in g a (before_valid c.args.pause.now.heaps) x_in in omega (arith, o.0, o.1, c.requires.walk.table_before) in
    let y_lt : b < length w.old_of.items = let o = object_in h b (after_valid c.args.pause.now.heaps) y_in in omega (arith, o.0, o.1, c.requires.walk.table_after) in
    added_walk pause.fill pause.set.now g h w v a b c.requires.walk (added c) x_in y_in met.2 met.3 (c.requires.found a b met.0 met.1 met.2) x_lt y_lt met.4 met.5

pub returns-in_ok-add-in-New-clause-paired : goal.returns-in_ok-add-in-New-clause-paired
returns-in_ok-add-in-New-clause-paired c =
    let pause = c.args.pause.now in
    let g = pause.heaps.before.now in
    let h = pause.heaps.after.now in
    let w = c.args.pairs.now in
    let v = c.add.new.self in
    let met = c.in-New.ensures in
    let a : ℕ = c.in-New.a in
    let b : ℕ = c.in-New.b in
    subst (λ z. ArePaired pause.set.now g v z c.args.y) (sym met.0)
    (subst (λ z. ArePaired pause.set.now g v (suc a) z) (sym met.1) (added_paired pause.fill pause.set.now g h w v a b c.requires.walk (added c)))

pub returns-in-Agree-clause-passed : goal.returns-in-Agree-clause-passed
returns-in-Agree-clause-passed c =
    let pause = c.args.pause.now in
    passes_same pause.fill pause.set.now pause.heaps.before.now pause.heaps.after.now c.args.pairs.now c.args.x c.args.y c.in-Agree.ensures

pub returns-in_ok-add-in-New-clause-passed : goal.returns-in_ok-add-in-New-clause-passed
returns-in_ok-add-in-New-clause-passed c =
    let pause = c.args.pause.now in
    let set = pause.set.now in
    let g = pause.heaps.before.now in
    let h = pause.heaps.after.now in
    let w = c.args.pairs.now in
    let v = c.add.new.self in
    let met = c.in-New.ensures in
    let a : ℕ = c.in-New.a in
    let b : ℕ = c.in-New.b in
    let x_lt : a < length w.new_of.items = let o = object_in g a (before_valid c.args.pause.now.heaps) (object_named g c.args.x a (before_valid c.args.pause.now.heaps) c.requires.x met.0) in omega (arith, o.0, o.1, c.requires.walk.table_before) in
    let y_lt : b < length w.old_of.items = let o = object_in h b (after_valid c.args.pause.now.heaps) (object_named h c.args.y b (after_valid c.args.pause.now.heaps) c.requires.y met.1) in omega (arith, o.0, o.1, c.requires.walk.table_after) in
    let r : IsRead w.new_of.items w.old_of.items a b (slice_index w.new_of.items a) (slice_index w.old_of.items b) = record { a_lt = x_lt; b_lt = y_lt; is_i = refl; is_j = refl } in
    let old : IsNew w.before.items a = new_before c.requires.walk r met.4 in
    let new : IsNew w.after.items b = new_after c.requires.walk r met.5 in
    subst (λ z. PassesWords pause.fill set g h w v z c.args.y) (sym met.0)
    (subst (λ z. PassesWords pause.fill set g h w v (suc a) z) (sym met.1) (passes_new pause.fill set g h w v a b (added c) met.2 met.3 old new))

pub meet-requires-clause-walk : goal.meet-requires-clause-walk
meet-requires-clause-walk c = c.requires.walk

pub meet-requires-clause-sizes : goal.meet-requires-clause-sizes
meet-requires-clause-sizes c = c.requires.sizes

pub meet-requires-clause-x : goal.meet-requires-clause-x
meet-requires-clause-x c = c.requires.x

pub meet-requires-clause-y : goal.meet-requires-clause-y
meet-requires-clause-y c = c.requires.y

pub returns-in-Agree-clause-first : goal.returns-in-Agree-clause-first
returns-in-Agree-clause-first c = tt

pub returns-in-Agree-clause-lost : goal.returns-in-Agree-clause-lost
returns-in-Agree-clause-lost c = tt

pub returns-in-Agree-clause-walk : goal.returns-in-Agree-clause-walk
returns-in-Agree-clause-walk c = c.requires.walk

pub returns-in-Agree-clause-grown : goal.returns-in-Agree-clause-grown
returns-in-Agree-clause-grown c = grown_same c.args.pairs.now

pub returns-in-Differ-clause-walk : goal.returns-in-Differ-clause-walk
returns-in-Differ-clause-walk c = c.requires.walk

pub returns-in-Differ-clause-grown : goal.returns-in-Differ-clause-grown
returns-in-Differ-clause-grown c = grown_same c.args.pairs.now

pub returns-in-Occupied-clause-walk : goal.returns-in-Occupied-clause-walk
returns-in-Occupied-clause-walk c = c.requires.walk

pub returns-in-Occupied-clause-grown : goal.returns-in-Occupied-clause-grown
returns-in-Occupied-clause-grown c = grown_same c.args.pairs.now

pub returns-in-Agree-clause-paired : goal.returns-in-Agree-clause-paired
returns-in-Agree-clause-paired c = c.in-Agree.ensures

pub returns-in-Differ-clause-paired : goal.returns-in-Differ-clause-paired
returns-in-Differ-clause-paired c = tt

pub returns-in-Differ-clause-passed : goal.returns-in-Differ-clause-passed
returns-in-Differ-clause-passed c = tt

pub returns-in-Occupied-clause-paired : goal.returns-in-Occupied-clause-paired
returns-in-Occupied-clause-paired c = tt

pub returns-in-Occupied-clause-passed : goal.returns-in-Occupied-clause-passed
returns-in-Occupied-clause-passed c = tt

pub returns-in-Differ-clause-lost : goal.returns-in-Differ-clause-lost
returns-in-Differ-clause-lost c = c.requires.other c.in-Differ.ensures.0

pub returns-in-Differ-clause-first : goal.returns-in-Differ-clause-first
returns-in-Differ-clause-first c =
    let pause = c.args.pause.now in
    stops_differ pause.fill pause.set.now pause.heaps.before.now pause.heaps.after.now c.args.pairs.now c.args.x c.args.y c.args.other c.in-Differ.ensures.1

pub returns-in-Occupied-clause-lost : goal.returns-in-Occupied-clause-lost
returns-in-Occupied-clause-lost c =
    let met = c.in-Occupied.ensures in
    (c.requires.found c.in-Occupied.a c.in-Occupied.b met.0 met.1 met.2, met.2, met.3)

pub returns-in-Occupied-clause-first : goal.returns-in-Occupied-clause-first
returns-in-Occupied-clause-first c =
    let pause = c.args.pause.now in
    let set = pause.set.now in
    let g = pause.heaps.before.now in
    let h = pause.heaps.after.now in
    let w = c.args.pairs.now in
    let a : ℕ = c.in-Occupied.a in
    let b : ℕ = c.in-Occupied.b in
    let met = c.in-Occupied.ensures in
    subst (λ z. StopsAtWords pause.fill set g h w z c.args.y c.args.other (lost.Copy a b)) (sym met.0)
    (subst (λ z. StopsAtWords pause.fill set g h w (suc a) z c.args.other (lost.Copy a b)) (sym met.1) (stops_occupied pause.fill set g h w a b c.args.other met.2 met.3 met.4 met.5))

pub returns-in_ok-add-in-New-clause-first : goal.returns-in_ok-add-in-New-clause-first
returns-in_ok-add-in-New-clause-first c = tt

pub returns-in_ok-add-in-New-clause-lost : goal.returns-in_ok-add-in-New-clause-lost
returns-in_ok-add-in-New-clause-lost c = tt

pub returns-in_ok-add-in-New-clause-grown : goal.returns-in_ok-add-in-New-clause-grown
returns-in_ok-add-in-New-clause-grown c =
    let pause = c.args.pause.now in
    let w = c.args.pairs.now in
    let v = c.add.new.self in
    let a : ℕ = c.in-New.a in
    let b : ℕ = c.in-New.b in
    added_grown pause.fill pause.set.now pause.heaps.before.now pause.heaps.after.now w v a b c.requires.walk (added c)
