use Rattle.std.proofs.Common.{◌∷◌, subst, sym}
use Rattle.g1_same.specs.Path.{LeadsTo}
use Rattle.g1_same.specs.Same.{IsDifference}
use Rattle.g1_same.specs.declared.ending.Ends.{Ends}
use Rattle.g1_same.specs.Ends.{AreEnds}
use Rattle.g1_same.proofs.Following.{clash_here}
use Rattle.g1_same.proofs.Held.{of_equals}
use Rattle.g1_same.proofs.ending.ends_of.Goals as goal

pub values-word_before-requires : goal.values-word_before-requires
values-word_before-requires c =
    let g = c.new-heaps.result.before.now in
    let h = c.new-heaps.result.after.now in
    let old = c.follow-old.result in
    let new = c.follow-new.result in
    let p = c.in-At.root ∷ c.in-At.slots.items in
    let left : LeadsTo g p old = subst (λ ss. LeadsTo g (c.in-At.root ∷ ss) old) c.as_slice.ensures.value c.follow-old.ensures in
    let right : LeadsTo h p new = subst (λ ss. LeadsTo h (c.in-At.root ∷ ss) new) c.as_slice-in-At.ensures.value c.follow-new.ensures in
    (p, left, right, clash_here g h p old new left right c.in-At.how (subst (IsDifference g h) c.in-At.is (of_equals (λ g h. IsDifference g h c.args.difference.now) (sym c.new-heaps.ensures.before) (sym c.new-heaps.ensures.after) c.requires)))

pub returns-in-At : goal.returns-in-At
returns-in-At c =
    let g = c.new-heaps.result.before.now in
    let h = c.new-heaps.result.after.now in
    let old = c.follow-old.result in
    let new = c.follow-new.result in
    let left : LeadsTo g (c.in-At.root ∷ c.in-At.slots.items) old = subst (λ ss. LeadsTo g (c.in-At.root ∷ ss) old) c.as_slice.ensures.value c.follow-old.ensures in
    let right : LeadsTo h (c.in-At.root ∷ c.in-At.slots.items) new = subst (λ ss. LeadsTo h (c.in-At.root ∷ ss) new) c.as_slice-in-At.ensures.value c.follow-new.ensures in
    let there : Ends = record { before = old; after = new; word_before = c.values-word_before.result.0; word_after = c.values-word_before.result.1 } in
    of_equals (λ g h. AreEnds g h c.args.difference.now there) c.new-heaps.ensures.before c.new-heaps.ensures.after
    (subst (λ d. AreEnds g h d there) (sym c.in-At.is) ((left, right), c.values-word_before.ensures))
