use Rattle.std.proofs.Common.{arith, subst, sym, suc, inl, ◌≡◌, ◌-◌, ◌∙◌, slice_index}
use Rattle.std.proofs.lemmas.List.{get_or_read}
use Rattle.g1_same.specs.Walk.{IsPaired, IsSeen, IsLeast}
use Rattle.g1_same.proofs.Words.{named, named_below, reading, known_here, split_here, joined_here, seen_of, new_before, new_after, least_of}
use Rattle.g1_same.proofs.Held.{before_valid, after_valid}
use Rattle.g1_same.proofs.Tables.{some}
use Rattle.g1_same.proofs.meeting.meet.Goals as goal

pub index-i-requires : goal.index-i-requires
index-i-requires c =
    let g = c.args.heaps.before.now in
    let k = named_below g c.args.x (before_valid c.args.heaps) c.if-x-eq0.false c.requires.x in
    omega (arith, k, c.requires.walk.table_before, c.args.walk.now.new_of.ok)

pub index-j-requires : goal.index-j-requires
index-j-requires c =
    let h = c.args.heaps.after.now in
    let k = named_below h c.args.y (after_valid c.args.heaps) c.if-y-eq0-2.false c.requires.y in
    omega (arith, k, c.requires.walk.table_after, c.args.walk.now.old_of.ok)

pub index-requires : goal.index-requires
index-requires c =
    let w = c.args.walk.now in
    let r = reading c.args.heaps c.args.walk.now.new_of.items c.args.walk.now.old_of.items c.args.x c.args.y c.index-i.result.now c.index-j.result.now c.requires.walk.table_before c.requires.walk.table_after c.requires.x c.requires.y c.if-x-eq0.false c.if-y-eq0-2.false c.index-i.ensures c.index-j.ensures in
    let s = split_here c.requires.walk r c.if-i-j.true c.if-i-ne0.true in
    omega (arith, s.0, c.requires.walk.pairs, w.after.ok)

pub returns-then-i-ne0 : goal.returns-then-i-ne0
returns-then-i-ne0 c =
    let w = c.args.walk.now in
    let r = reading c.args.heaps c.args.walk.now.new_of.items c.args.walk.now.old_of.items c.args.x c.args.y c.index-i.result.now c.index-j.result.now c.requires.walk.table_before c.requires.walk.table_after c.requires.x c.requires.y c.if-x-eq0.false c.if-y-eq0-2.false c.index-i.ensures c.index-j.ensures in
    let x_is : c.args.x ≡ suc (c.args.x - 1) = some c.args.x c.if-x-eq0.false in
    let y_is : c.args.y ≡ suc (c.args.y - 1) = some c.args.y c.if-y-eq0-2.false in
    let s = split_here c.requires.walk r c.if-i-j.true c.if-i-ne0.true in
    let m : c.index.result.now ≡ slice_index w.after.items (c.index-i.result.now - 1) =
    get_or_read w.after.items (c.index-i.result.now - 1) c.index.result.now (omega (arith, s.0, c.requires.walk.pairs)) c.index.ensures 0 in
    ((x_is, y_is, λ e. s.2 (sym m ∙ e), c.index-i.result.now - 1, s.0, s.1, sym m), tt)

pub index-requires-then-i-j : goal.index-requires-then-i-j
index-requires-then-i-j c =
    let w = c.args.walk.now in
    let r = reading c.args.heaps c.args.walk.now.new_of.items c.args.walk.now.old_of.items c.args.x c.args.y c.index-i.result.now c.index-j.result.now c.requires.walk.table_before c.requires.walk.table_after c.requires.x c.requires.y c.if-x-eq0.false c.if-y-eq0-2.false c.index-i.ensures c.index-j.ensures in
    let s = joined_here c.requires.walk r c.if-i-j.true c.if-i-ne0.false in
    omega (arith, s.0, w.before.ok)

pub returns-then-i-j : goal.returns-then-i-j
returns-then-i-j c =
    let w = c.args.walk.now in
    let r = reading c.args.heaps c.args.walk.now.new_of.items c.args.walk.now.old_of.items c.args.x c.args.y c.index-i.result.now c.index-j.result.now c.requires.walk.table_before c.requires.walk.table_after c.requires.x c.requires.y c.if-x-eq0.false c.if-y-eq0-2.false c.index-i.ensures c.index-j.ensures in
    let x_is : c.args.x ≡ suc (c.args.x - 1) = some c.args.x c.if-x-eq0.false in
    let y_is : c.args.y ≡ suc (c.args.y - 1) = some c.args.y c.if-y-eq0-2.false in
    let s = joined_here c.requires.walk r c.if-i-j.true c.if-i-ne0.false in
    let m : c.index-then-i-j.result.now ≡ slice_index w.before.items (c.index-j.result.now - 1) =
    get_or_read w.before.items (c.index-j.result.now - 1) c.index-then-i-j.result.now s.0 c.index-then-i-j.ensures 0 in (
      (x_is, y_is, λ e. s.2 (sym m ∙ e), c.index-j.result.now - 1, s.0, sym m, s.1),
      new_before c.requires.walk r c.if-i-ne0.false,
    )

pub returns-then-i-ne0-2 : goal.returns-then-i-ne0-2
returns-then-i-ne0-2 c =
    let w = c.args.walk.now in
    let r = reading c.args.heaps c.args.walk.now.new_of.items c.args.walk.now.old_of.items c.args.x c.args.y c.index-i.result.now c.index-j.result.now c.requires.walk.table_before c.requires.walk.table_after c.requires.x c.requires.y c.if-x-eq0.false c.if-y-eq0-2.false c.index-i.ensures c.index-j.ensures in
    let x_is : c.args.x ≡ suc (c.args.x - 1) = some c.args.x c.if-x-eq0.false in
    let y_is : c.args.y ≡ suc (c.args.y - 1) = some c.args.y c.if-y-eq0-2.false in
    let k = known_here c.requires.walk r c.if-i-j.false c.if-i-ne0-2.true in
    subst (λ z. IsPaired w.before.items w.after.items z c.args.y) (sym x_is) (subst (λ z. IsPaired w.before.items w.after.items (suc (c.args.x - 1)) z) (sym y_is) k)

pub returns-in-Some : goal.returns-in-Some
returns-in-Some c =
    let g = c.args.heaps.before.now in
    let h = c.args.heaps.after.now in
    let w = c.args.walk.now in
    let r = reading c.args.heaps c.args.walk.now.new_of.items c.args.walk.now.old_of.items c.args.x c.args.y c.index-i.result.now c.index-j.result.now c.requires.walk.table_before c.requires.walk.table_after c.requires.x c.requires.y c.if-x-eq0.false c.if-y-eq0-2.false c.index-i.ensures c.index-j.ensures in
    let x_is : c.args.x ≡ suc (c.args.x - 1) = some c.args.x c.if-x-eq0.false in
    let y_is : c.args.y ≡ suc (c.args.y - 1) = some c.args.y c.if-y-eq0-2.false in
    let none : c.index-j.result.now ≡ 0 = sym c.if-i-j.false ∙ c.if-i-ne0-2.false in
    let seen = seen_of g h w (suc (c.args.x - 1)) (suc (c.args.y - 1)) c.in-Some.how c.in-Some.ensures.some in
    let least = least_of g h w (c.args.x - 1) (c.args.y - 1) c.in-Some.how c.in-Some.ensures.some
    (new_before c.requires.walk r c.if-i-ne0-2.false) (new_after c.requires.walk r none) c.in-Some.ensures.lower in
    subst (λ z. IsSeen g h w c.in-Some.how z c.args.y × IsLeast g h w c.in-Some.how z c.args.y) (sym x_is)
    (subst (λ z. IsSeen g h w c.in-Some.how (suc (c.args.x - 1)) z × IsLeast g h w c.in-Some.how (suc (c.args.x - 1)) z) (sym y_is) (seen, least))

pub returns-then-y-eq0 : goal.returns-then-y-eq0
returns-then-y-eq0 c = inl (c.if-x-eq0.true, c.if-y-eq0.true)

pub returns-then-x-eq0 : goal.returns-then-x-eq0
returns-then-x-eq0 c = (λ p. (c.if-x-eq0.true, c.if-y-eq0.false), tt)

pub returns-then-y-eq0-2 : goal.returns-then-y-eq0-2
returns-then-y-eq0-2 c = (λ p. (c.if-x-eq0.false, c.if-y-eq0-2.true), tt)

pub overflow_sub-a : goal.overflow_sub-a
overflow_sub-a c = omega (arith, c.if-x-eq0.false)

pub overflow_sub-b : goal.overflow_sub-b
overflow_sub-b c = omega (arith, c.if-y-eq0-2.false)

pub overflow_sub-i : goal.overflow_sub-i
overflow_sub-i c = omega (arith, c.if-i-ne0.true)

pub overflow_sub-j : goal.overflow_sub-j
overflow_sub-j c = omega (arith, c.if-i-j.true, c.if-i-ne0.false)

pub objects_differ-requires-clause-a : goal.objects_differ-requires-clause-a
objects_differ-requires-clause-a c = named c.args.heaps.before.now c.args.x (before_valid c.args.heaps) c.if-x-eq0.false c.requires.x

pub objects_differ-requires-clause-b : goal.objects_differ-requires-clause-b
objects_differ-requires-clause-b c = named c.args.heaps.after.now c.args.y (after_valid c.args.heaps) c.if-y-eq0-2.false c.requires.y
