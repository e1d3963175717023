use Rattle.std.proofs.Common.{◌∙◌, ◌<◌, ap, sym, subst, map, All}
use Rattle.std.specs.List.Sorted.{IsStrictlyIncreasing}
use Rattle.g1_words.specs.Lists.{has}
use Rattle.g1_image.specs.Image.{Image}
use Rattle.g1_rem.specs.Entering.{AreEntering, AreRefining}
use Rattle.g1_rem.specs.Starts.{card_count}
use Rattle.g1_rem.proofs.Entering.{lent_back, refining_all}
use Rattle.g1_rem.proofs.refining.entering_cards.Goals as goal

pub returns : goal.returns
returns c =
    let i = c.args.indexed.now in
    let new = c.add_cards.new.entering in
    let dirty = c.in_ok-dirty.dirty.items in
    let written = lent_back c.in_ok-entering.entering.len c.deref_mut.result.now new c.in_ok-entering.entering.items c.deref_mut.ensures.value c.add_cards.auto.entering c.deref_mut.ensures.len in
    let told = subst (λ l. AreEntering c.args.indexed.now.heap l (map (λ s. s.items) c.add_cards.new.entering)) c.deref.ensures.value c.in_ok-add_cards.ensures in
    subst (λ l. AreRefining c.args.indexed.now (map (λ s. s.items) l)) (sym written)
    (refining_all i dirty (map (λ s. s.items) new) c.in_ok-dirty.ensures.rising
    (λ x. c.in_ok-dirty.ensures.same x ∙ ap (λ (v : Image). has v.log x) c.indexed.view_is) told)

pub add_cards-requires-clause-rising : goal.add_cards-requires-clause-rising
add_cards-requires-clause-rising c = subst IsStrictlyIncreasing (sym c.deref.ensures.value) c.in_ok-dirty.ensures.rising

pub add_cards-requires-clause-inside : goal.add_cards-requires-clause-inside
add_cards-requires-clause-inside c =
    subst (λ (v : Image). All (λ n. n < card_count v.heap) c.deref.result.now) c.indexed.view_is
    (subst (All (λ n. n < card_count c.indexed.inside.image.now.heap)) (sym c.deref.ensures.value) c.in_ok-dirty.ensures.inside)
