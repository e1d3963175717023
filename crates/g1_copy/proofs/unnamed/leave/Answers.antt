use Rattle.std.proofs.Common.{◌≡◌, ◌⊎◌, inl, inr, ℕ, List, filter, sym, ◌∙◌, ap, rules}
use Rattle.std.proofs.lemmas.Fn.{filter_same}
use Rattle.g1_words.specs.Heap.{Heap}
use Rattle.g1_copy.specs.Remembered.{left, stays}
use Rattle.g1_copy.specs.declared.fates.Fate.{Fate}
use Rattle.g1_copy.specs.declared.fates.Fate.TheVariants.{Filled, Kept}
use Rattle.g1_copy.proofs.unnamed.leave.Goals as goal

-- of a region that isn't freed those cards are left that stay
left_kept : (h : Heap) (fates : List Fate) (fate : Fate) (cards : List ℕ) → ((t : ℕ) × (fate ≡ Filled t)) ⊎ (fate ≡ Kept) → left h fates fate cards ≡ filter (stays h fates) cards
left_kept h fates fate cards (inl (t, e)) = ap (λ x. left h fates x cards) e
left_kept h fates fate cards (inr e) = ap (λ x. left h fates x cards) e

pub returns-in-Filled : goal.returns-in-Filled
returns-in-Filled c =
    let e : c.retain.new.self.items ≡ filter (stays c.args.heap.now c.args.fates.now) c.args.cards.now.items =
    filter_same _ (stays c.args.heap.now c.args.fates.now) _ (λ x b f' k. search rules) _ _ c.retain.ensures.filtered in
    e ∙ sym (left_kept c.args.heap.now c.args.fates.now c.args.fate c.args.cards.now.items c.in-Filled.is)
