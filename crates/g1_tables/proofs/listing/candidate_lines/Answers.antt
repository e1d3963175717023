use Rattle.std.proofs.Common.{◌≡◌, ℕ, List, length, map, sym, ◌∙◌, ap, subst}
use Rattle.std.specs.Prelude.{IfOk}
use Rattle.g1_words.specs.Heap.{Heap, regions}
use Rattle.g1_image.specs.Image.{Image}
use Rattle.g1_image.specs.Cards.{refined}
use Rattle.g1_choose.specs.declared.candidate.Candidate.{Candidate}
use Rattle.g1_choose.specs.declared.buying.Purchase.{Purchase}
use Rattle.g1_choose.specs.Bought.{IsPurchase}
use Rattle.g1_text.specs.Lines.{text_of}
use Rattle.g1_tables.specs.Tables.{choice_lines, line_of}
use Rattle.g1_tables.proofs.Choosing.{lists_if_ok}
use Rattle.g1_tables.proofs.listing.candidate_lines.Goals as goal

pub order-requires-clause-remembered : goal.order-requires-clause-remembered
order-requires-clause-remembered c = c.remembered.ensures.one_each ∙ sym (ap (λ (h : Heap). h.geometry.n) (c.heap.ensures.same ∙ ap (λ (j : Image). j.heap) c.image-image.ensures.same))

pub returns-clause-text : goal.returns-clause-text
returns-clause-text c =
    let i = c.args.before.now in
    let p = c.args.parameters.now in
    let lives = c.args.live.now in
    let remembered : List (List ℕ) = map (refined i) (regions i.heap) in
    let order : List Candidate = c.in_ok-order.order.items in
    let purchase : Purchase = c.buy-purchase.result in
    let dirty : c.len-dirty.result ≡ length i.log = c.len-dirty.ensures.len ∙ ap length c.log.ensures ∙ ap (λ (j : Image). length j.log) c.image-image.ensures.same in
    lists_if_ok p i.heap remembered lives (length i.log) c.args.budget order purchase c.choice_lines.result
    (rw (c.heap.ensures.same ∙ ap (λ (j : Image). j.heap) c.image-image.ensures.same, c.remembered.ensures.refined) at c.in_ok-order.ensures.ok)
    (subst (λ d. IsPurchase p d c.args.budget order purchase) dirty (subst (λ xs. IsPurchase p c.len-dirty.result c.args.budget xs purchase) c.deref.ensures.value c.buy-purchase.ensures))
    (subst (λ xs. IfOk c.choice_lines.result (λ v. v.items ≡ text_of (choice_lines line_of xs purchase.taken purchase.total))) c.deref-2.ensures.value c.choice_lines.ensures.text)
