use Rattle.std.proofs.Common.{◌≡◌, ◌∙◌, [], ap, sym, subst, refl, get_or, slice_index_or, take, map, arith}
use Rattle.std.proofs.lemmas.List.{take_more, get_or-map}
use Rattle.g1_words.specs.Lists.{has}
use Rattle.g1_words.specs.Marks.{AreMarked}
use Rattle.g1_rem.specs.EntryCards.{is_listed}
use Rattle.g1_words.proofs.Marked.{marked_none}
use Rattle.g1_rem.proofs.EntryCards.{listed_more}
use Rattle.std.proofs.lemmas.List.{take_all}
use Rattle.g1_rem.proofs.entry_cards.mark_remembered.Goals as goal

pub loop-region-init : goal.loop-region-init
loop-region-init c = marked_none c.args.marks.now (is_listed (map (λ s. s.items) c.args.remembered.now) (take 0 c.args.set.now)) (λ x. refl)

pub loop-region-preserved : goal.loop-region-preserved
loop-region-preserved c =
    let xs = c.args.set.now in
    let i = c.loop-region.region-index in
    let r = get_or c.args.set.now c.loop-region.region-index 0 in
    let low = c.requires i 0 c.loop-region-test.true in
    let read : c.as_slice.result.now ≡ slice_index_or (map (λ s. s.items) c.args.remembered.now) (get_or c.args.set.now c.loop-region.region-index 0) [] =
    c.as_slice.ensures.value ∙ ap (λ v. v.items) c.index-remembered-region.is ∙ sym (get_or-map (λ s. s.items) c.args.remembered.now r c.index-remembered-region.result [] low) in
    subst (λ l. AreMarked (is_listed (map (λ s. s.items) c.args.remembered.now) l) c.args.marks.now c.set_each.new.self) (sym (take_more xs i 0 c.loop-region-test.true))
    (listed_more (map (λ s. s.items) c.args.remembered.now) c.args.marks.now c.loop-region.marks c.set_each.new.self (take i xs) r c.loop-region.invariant
    (subst (λ l. AreMarked (has l) c.loop-region.marks c.set_each.new.self) read c.set_each.ensures))

pub returns : goal.returns
returns c = subst (λ l. AreMarked (is_listed (map (λ s. s.items) c.args.remembered.now) l) c.args.marks.now c.loop-region.marks)
    (take_all c.loop-region.region-index c.args.set.now c.loop-region-test.false) c.loop-region.invariant

pub loop-region-smaller : goal.loop-region-smaller
loop-region-smaller c = omega (arith, c.loop-region-test.true)
