use Rattle.std.proofs.Common.{◌≡◌, refl, sym, ap, subst, ◌∙◌}
use Rattle.std.specs.Prelude.{All}
use Rattle.g1_image.specs.Image.{IsUsedCard, IsLog}
use Rattle.g1_image.specs.Dirty.{with_dirty_cards}
use Rattle.g1_image.proofs.Dirty.{cards_put}
use Rattle.g1_image.proofs.copying.with_dirty.Goals as goal

pub with_log-requires : goal.with_log-requires
with_log-requires c =
    let i = c.args.image.now in
    let cards = c.args.cards.now in
    let valid = c.heap.ensures.valid in
    let used : All (IsUsedCard i.heap) cards = subst (λ h. All (IsUsedCard h) cards) c.heap.ensures.same (c.if-not-are_used.ensures.0 refl) in
    let before : c.in_ok-log.log.keys ≡ i.log = c.in_ok-log.ensures ∙ c.as_slice.ensures.keys ∙ c.log.ensures in
    let after : c.put_cards.new.log.keys ≡ with_dirty_cards i.log cards = c.in_ok-put_cards.ensures ∙ ap (λ l. with_dirty_cards l cards) before in
    subst (IsLog i.heap) (sym after) (cards_put i.heap valid.heap.limits i.log cards valid.log used)

pub returns-clause-used : goal.returns-clause-used
returns-clause-used c = subst (λ h. All (IsUsedCard h) c.args.cards.now) c.heap.ensures.same (c.if-not-are_used.ensures.0 refl)
