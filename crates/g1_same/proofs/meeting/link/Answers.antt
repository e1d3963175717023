use Rattle.std.proofs.Common.{arith, subst, sym, suc, ℕ, ◌<◌, length}
use Rattle.g1_same.specs.Walk.{IsLinked, IsWay}
use Rattle.g1_words.proofs.Sound.{object_in}
use Rattle.g1_same.proofs.Heaps.{object_named}
use Rattle.g1_same.proofs.Adding.{IsAdded, earlier_next, grown_same, added_grown, added_walk, added_linked, added_below, added_alike, linked_by, pairs_fit}
use Rattle.g1_same.proofs.Between.{alike_none}
use Rattle.g1_same.proofs.Held.{before_valid, after_valid}
use Rattle.g1_same.proofs.meeting.link.Goals as goal

added : (c : goal.In_ok-add-in-New) → IsAdded c.args.walk.now c.add.new.self c.args.way.from c.args.way.number c.in-New.a c.in-New.b
added c = record {
  before = c.in_ok-add-in-New.ensures.before;
  after = c.in_ok-add-in-New.ensures.after;
  from = c.in_ok-add-in-New.ensures.from;
  number = c.in_ok-add-in-New.ensures.number;
  new_of = c.in_ok-add-in-New.ensures.new_of;
  old_of = c.in_ok-add-in-New.ensures.old_of;
}

pub add-requires-clause-a : goal.add-requires-clause-a
add-requires-clause-a c =
    let o = object_in c.args.heaps.before.now c.in-New.a (before_valid c.args.heaps) (object_named c.args.heaps.before.now c.args.x c.in-New.a (before_valid c.args.heaps) c.requires.x c.in-New.ensures.0) in
    omega (arith, o.0, o.1, c.requires.walk.table_before)

pub add-requires-clause-b : goal.add-requires-clause-b
add-requires-clause-b c =
    let o = object_in c.args.heaps.after.now c.in-New.b (after_valid c.args.heaps) (object_named c.args.heaps.after.now c.args.y c.in-New.b (after_valid c.args.heaps) c.requires.y c.in-New.ensures.1) in
    omega (arith, o.0, o.1, c.requires.walk.table_after)

pub add-requires-clause-few : goal.add-requires-clause-few
add-requires-clause-few c = pairs_fit c.args.heaps.before.now c.args.heaps.after.now c.args.walk.now (before_valid c.args.heaps) c.requires.walk

pub returns-in_ok-add-in-New-clause-walk : goal.returns-in_ok-add-in-New-clause-walk
returns-in_ok-add-in-New-clause-walk c =
    let g = c.args.heaps.before.now in
    let h = c.args.heaps.after.now in
    let w = c.args.walk.now in
    let v = c.add.new.self in
    let met = c.in-New.ensures in
    let a : ℕ = c.in-New.a in
    let b : ℕ = c.in-New.b in
    let x_in = object_named g c.args.x a (before_valid c.args.heaps) c.requires.x met.0 in
    let y_in = object_named h c.args.y b (after_valid c.args.heaps) c.requires.y met.1 in
    let x_lt : a < length w.new_of.items = let o = object_in g a (before_valid c.args.heaps) x_in in omega (arith, o.0, o.1, c.requires.walk.table_before) in
    let y_lt : b < length w.old_of.items = let o = object_in h b (after_valid c.args.heaps) y_in in omega (arith, o.0, o.1, c.requires.walk.table_after) in
    let way : IsWay g h w.before.items w.after.items c.args.way.from c.args.way.number (suc a) (suc b) =
    subst (λ z. IsWay g h w.before.items w.after.items c.args.way.from c.args.way.number z (suc b)) met.0
    (subst (λ z. IsWay g h w.before.items w.after.items c.args.way.from c.args.way.number c.args.x z) met.1 c.requires.way) in
    added_walk g h w v c.args.way.from c.args.way.number a b c.requires.walk (added c) x_in y_in met.4.header x_lt y_lt met.2 met.3 way c.requires.backward c.requires.below

pub returns-in_ok-add-in-New-clause-linked : goal.returns-in_ok-add-in-New-clause-linked
returns-in_ok-add-in-New-clause-linked c =
    let g = c.args.heaps.before.now in
    let h = c.args.heaps.after.now in
    let w = c.args.walk.now in
    let v = c.add.new.self in
    let met = c.in-New.ensures in
    let a : ℕ = c.in-New.a in
    let b : ℕ = c.in-New.b in
    subst (λ z. IsLinked v c.args.way.from c.args.way.number z c.args.y) (sym met.0)
    (subst (λ z. IsLinked v c.args.way.from c.args.way.number (suc a) z) (sym met.1) (added_linked g h w v c.args.way.from c.args.way.number a b c.requires.walk (added c)))

pub returns-in_ok-add-in-New-clause-below : goal.returns-in_ok-add-in-New-clause-below
returns-in_ok-add-in-New-clause-below c =
    let g = c.args.heaps.before.now in
    let h = c.args.heaps.after.now in
    let w = c.args.walk.now in
    let v = c.add.new.self in
    let met = c.in-New.ensures in
    let a : ℕ = c.in-New.a in
    let b : ℕ = c.in-New.b in
    added_below g h w v c.args.way.from c.args.way.number a b c.requires.walk (added c) c.requires.below

pub returns-in-Known-clause-linked : goal.returns-in-Known-clause-linked
returns-in-Known-clause-linked c = linked_by c.args.walk.now c.args.way.from c.args.way.number c.args.x c.args.y c.requires.below c.in-Known.ensures

pub meet-requires-clause-walk : goal.meet-requires-clause-walk
meet-requires-clause-walk c = c.requires.walk

pub meet-requires-clause-x : goal.meet-requires-clause-x
meet-requires-clause-x c = c.requires.x

pub meet-requires-clause-y : goal.meet-requires-clause-y
meet-requires-clause-y c = c.requires.y

pub returns-in-Known-clause-walk : goal.returns-in-Known-clause-walk
returns-in-Known-clause-walk c = c.requires.walk

pub returns-in-Known-clause-grown : goal.returns-in-Known-clause-grown
returns-in-Known-clause-grown c = grown_same c.args.walk.now

pub returns-in-Known-clause-below : goal.returns-in-Known-clause-below
returns-in-Known-clause-below c = λ i lt. earlier_next _ _ c.args.way.from c.args.way.number (c.requires.below i lt)

pub returns-in-Clash-clause-walk : goal.returns-in-Clash-clause-walk
returns-in-Clash-clause-walk c = c.requires.walk

pub returns-in-Clash-clause-grown : goal.returns-in-Clash-clause-grown
returns-in-Clash-clause-grown c = grown_same c.args.walk.now

pub returns-in-Clash-clause-below : goal.returns-in-Clash-clause-below
returns-in-Clash-clause-below c = λ i lt. earlier_next _ _ c.args.way.from c.args.way.number (c.requires.below i lt)

pub returns-in-Clash-clause-clash : goal.returns-in-Clash-clause-clash
returns-in-Clash-clause-clash c = (c.in-Clash.ensures.0, c.requires.below, c.in-Clash.ensures.1)

pub returns-in_ok-add-in-New-clause-grown : goal.returns-in_ok-add-in-New-clause-grown
returns-in_ok-add-in-New-clause-grown c =
    added_grown c.args.heaps.before.now c.args.heaps.after.now c.args.walk.now c.add.new.self c.args.way.from c.args.way.number c.in-New.a c.in-New.b c.requires.walk (added c)

pub returns-in-Known-clause-alike : goal.returns-in-Known-clause-alike
returns-in-Known-clause-alike c = alike_none c.args.heaps.before.now c.args.heaps.after.now c.args.walk.now

pub returns-in-Clash-clause-alike : goal.returns-in-Clash-clause-alike
returns-in-Clash-clause-alike c = alike_none c.args.heaps.before.now c.args.heaps.after.now c.args.walk.now

pub returns-in_ok-add-in-New-clause-alike : goal.returns-in_ok-add-in-New-clause-alike
returns-in_ok-add-in-New-clause-alike c =
    added_alike c.args.heaps.before.now c.args.heaps.after.now c.args.walk.now c.add.new.self c.args.way.from c.args.way.number c.in-New.a c.in-New.b c.requires.walk (added c) c.in-New.ensures.4
