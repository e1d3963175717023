use Rattle.std.proofs.Common.{◌≡◌, ◌∙◌, [], ap, length, map, string_bytes}
use Rattle.std.proofs.lemmas.Result.{on_ok_weaker}
use Rattle.g1_words.specs.Heap.{Heap}
use Rattle.g1_image.specs.Image.{Image}
use Rattle.g1_choose.specs.Cost.{total}
use Rattle.g1_explain.proofs.Purchased.{purchase_end}
use Rattle.g1_explain.proofs.choosing.push_purchase.Goals as goal

pub returns : goal.returns
returns c = λ is.
    let i : Image = c.args.before.now in
    let dirty : c.len.result ≡ length i.log = c.len.ensures.len ∙ ap length c.log.ensures ∙ ap (λ (j : Image). length j.log) c.image-image.ensures.same in
    let base : c.total-base.result ≡ total c.args.settings.now.cost (length i.log) [] = c.total-base.ensures ∙ (λ t. total (c.cost.ensures.value t) (dirty t) []) in
    on_ok_weaker c.push_candidates.result
    (purchase_end c.args.settings.now.cost i c.args.bought.now c.total-base.result (length c.remembered.result.now) (map (λ s. s.items) c.remembered.result.now) c.regions-regions.result.now c.deref.result.now c.deref-2.result.now
    (string_bytes c.args.text.now) (string_bytes c.writeln.new.self) (string_bytes c.push_live.new.text) (string_bytes c.push_excluded.new.text) (string_bytes c.push_candidates.new.text) c.deref-3.result.now
    (c.regions-regions.ensures ∙ ap (λ (h : Heap). h.regions) (c.heap.ensures.same ∙ ap (λ (j : Image). j.heap) c.image-image.ensures.same)) c.deref.ensures.value c.deref-2.ensures.value c.deref-3.ensures.value
    c.image-image.ensures.tracked.image.heap is.live base c.remembered.ensures.one_each c.remembered.ensures.refined c.in_ok-writeln.ensures.bytes c.in_ok-push_live.ensures c.in_ok-push_excluded.ensures) c.push_candidates.ensures
