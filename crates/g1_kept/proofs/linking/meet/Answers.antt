use Rattle.std.proofs.Common.{arith, subst, sym, suc, ◌-◌, ◌∙◌}
use Rattle.std.proofs.lemmas.Bool.{false≢true}
use Rattle.g1_kept.specs.Lost.{Disagree, changed, null}
use Rattle.g1_kept.specs.Order.{Clash}
use Rattle.g1_kept.specs.Order as order
use Rattle.g1_kept.specs.Walk.{ArePaired}
use Rattle.g1_kept.proofs.Words.{known_here, differ_here, clash_here, new_before, new_after}
use Rattle.g1_same.proofs.Tables.{some}
use Rattle.g1_same.proofs.Words.{named_below, reading}
use Rattle.g1_same.proofs.Held.{after_valid, before_valid}
use Rattle.g1_kept.proofs.linking.meet.Goals as goal

pub returns-then-not-leads_in : goal.returns-then-not-leads_in
returns-then-not-leads_in c =
    let out = c.leads_in.ensures.no c.if-not-leads_in.true in
    (changed out (λ e. c.if-x-y.false (sym e)), order.changed out (λ e. c.if-x-y.false (sym e)))

pub returns-then-y-eq0 : goal.returns-then-y-eq0
returns-then-y-eq0 c =
    let pause = c.args.pause.now in
    let set = pause.set.now in
    let g = pause.heaps.before.now in
    let h = pause.heaps.after.now in
    let w = c.args.pairs.now in
    let into = c.leads_in.ensures.yes c.if-not-leads_in.false in
    subst (λ z. Disagree set g h z c.args.y × Clash set g w.before.items w.after.items z c.args.y) (sym (some c.args.x into.0))
    (subst (λ z. Disagree set g h (suc (c.args.x - 1)) z × Clash set g w.before.items w.after.items (suc (c.args.x - 1)) z) (sym c.if-y-eq0.true) (null into.1, order.null into.1))

pub index-i-requires : goal.index-i-requires
index-i-requires c =
    let into = c.leads_in.ensures.yes c.if-not-leads_in.false in
    let k = named_below c.args.pause.now.heaps.before.now c.args.x (before_valid c.args.pause.now.heaps) into.0 c.requires.x in
    omega (arith, k, c.requires.walk.table_before, c.args.pairs.now.new_of.ok)

pub index-j-requires : goal.index-j-requires
index-j-requires c =
    let k = named_below c.args.pause.now.heaps.after.now c.args.y (after_valid c.args.pause.now.heaps) c.if-y-eq0.false c.requires.y in
    omega (arith, k, c.requires.walk.table_after, c.args.pairs.now.old_of.ok)

pub may_hold_copy-requires : goal.may_hold_copy-requires
may_hold_copy-requires c =
    let k = named_below c.args.pause.now.heaps.after.now c.args.y (after_valid c.args.pause.now.heaps) c.if-y-eq0.false c.requires.y in
    omega (arith, k, c.requires.sizes)

pub returns-then-i-j : goal.returns-then-i-j
returns-then-i-j c =
    let pause = c.args.pause.now in
    let set = pause.set.now in
    let g = pause.heaps.before.now in
    let h = pause.heaps.after.now in
    let w = c.args.pairs.now in
    let into = c.leads_in.ensures.yes c.if-not-leads_in.false in
    let r = reading c.args.pause.now.heaps w.new_of.items w.old_of.items c.args.x c.args.y c.index-i.result.now c.index-j.result.now c.requires.walk.table_before c.requires.walk.table_after
    c.requires.x c.requires.y into.0 c.if-y-eq0.false c.index-i.ensures c.index-j.ensures in
    let d = differ_here c.requires.walk r into.1 c.if-i-j.true in
    let k = clash_here c.requires.walk r into.1 c.if-i-j.true in
    subst (λ z. Disagree set g h z c.args.y × Clash set g w.before.items w.after.items z c.args.y) (sym (some c.args.x into.0))
    (subst (λ z. Disagree set g h (suc (c.args.x - 1)) z × Clash set g w.before.items w.after.items (suc (c.args.x - 1)) z) (sym (some c.args.y c.if-y-eq0.false)) (d, k))

pub returns-then-i-ne0 : goal.returns-then-i-ne0
returns-then-i-ne0 c =
    let pause = c.args.pause.now in
    let set = pause.set.now in
    let g = pause.heaps.before.now in
    let w = c.args.pairs.now in
    let into = c.leads_in.ensures.yes c.if-not-leads_in.false in
    let r = reading c.args.pause.now.heaps w.new_of.items w.old_of.items c.args.x c.args.y c.index-i.result.now c.index-j.result.now c.requires.walk.table_before c.requires.walk.table_after
    c.requires.x c.requires.y into.0 c.if-y-eq0.false c.index-i.ensures c.index-j.ensures in
    let d = known_here c.requires.walk r c.if-i-j.false c.if-i-ne0.true in
    subst (λ z. ArePaired set g w z c.args.y) (sym (some c.args.x into.0)) (subst (λ z. ArePaired set g w (suc (c.args.x - 1)) z) (sym (some c.args.y c.if-y-eq0.false)) d)

pub returns-then-may_hold_copy : goal.returns-then-may_hold_copy
returns-then-may_hold_copy c =
    let w = c.args.pairs.now in
    let into = c.leads_in.ensures.yes c.if-not-leads_in.false in
    let r = reading c.args.pause.now.heaps w.new_of.items w.old_of.items c.args.x c.args.y c.index-i.result.now c.index-j.result.now c.requires.walk.table_before c.requires.walk.table_after
    c.requires.x c.requires.y into.0 c.if-y-eq0.false c.index-i.ensures c.index-j.ensures in (
      some c.args.x into.0,
      some c.args.y c.if-y-eq0.false,
      into.1,
      c.may_hold_copy.ensures.0 c.if-may_hold_copy.true,
      sym r.is_i ∙ c.if-i-ne0.false,
      sym r.is_j ∙ sym c.if-i-j.false ∙ c.if-i-ne0.false,
    )

pub returns-else-may_hold_copy : goal.returns-else-may_hold_copy
returns-else-may_hold_copy c =
    let w = c.args.pairs.now in
    let into = c.leads_in.ensures.yes c.if-not-leads_in.false in
    let r = reading c.args.pause.now.heaps w.new_of.items w.old_of.items c.args.x c.args.y c.index-i.result.now c.index-j.result.now c.requires.walk.table_before c.requires.walk.table_after
    c.requires.x c.requires.y into.0 c.if-y-eq0.false c.index-i.ensures c.index-j.ensures in (
      some c.args.x into.0,
      some c.args.y c.if-y-eq0.false,
      into.1,
      λ m. false≢true (sym c.if-may_hold_copy.false ∙ c.may_hold_copy.ensures.1 m),
      new_before c.requires.walk r c.if-i-ne0.false,
      new_after c.requires.walk r (sym c.if-i-j.false ∙ c.if-i-ne0.false),
    )
