use Rattle.std.proofs.Common.{◌≡◌, ◌∷◌, ◌++◌, [], true, ap, sym, arith, ◌∙◌}
use Rattle.g1_words.specs.Lists.{has}
use Rattle.g1_rem.proofs.Dirty.{dirty_small, listed_more, listed_end}
use Rattle.g1_rem.proofs.refining.marked_cards.Goals as goal

pub overflow_cast-card : goal.overflow_cast-card
overflow_cast-card c =
    let dirty : has c.args.image.now.log c.in-Some.card ≡ true = sym (c.requires.dirty c.in-Some.card) ∙ c.in-Some.ensures.set in
    omega (arith, dirty_small c.args.image.now c.in-Some.card c.requires.image dirty)

pub overflow_add-from : goal.overflow_add-from
overflow_add-from c =
    let dirty : has c.args.image.now.log c.in-Some.card ≡ true = sym (c.requires.dirty c.in-Some.card) ∙ c.in-Some.ensures.set in
    omega (arith, dirty_small c.args.image.now c.in-Some.card c.requires.image dirty)

pub cards-preserved : goal.cards-preserved
cards-preserved c = (
  c.in_ok-push.ensures.items ∙ ap (λ l. l ++ c.in-Some.card ∷ []) c.cards.invariant.0
      ∙ sym (listed_more c.args.image.now c.args.dirty.now c.requires.dirty c.cards.from c.in-Some.card c.in-Some.ensures.reached c.in-Some.ensures.set c.in-Some.ensures.unset),
  omega (arith, c.in-Some.ensures.within),
)

pub returns : goal.returns
returns c =
    c.cards.invariant.0 ∙ sym (listed_end c.args.image.now c.args.dirty.now c.requires.dirty c.cards.from _ c.cards.invariant.1 c.in_default.ensures)
