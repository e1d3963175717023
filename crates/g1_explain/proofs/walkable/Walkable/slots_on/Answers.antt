use Rattle.std.proofs.Common.{◌≡◌, ◌*◌, ◌/◌, ◌∙◌, ap, subst, arith}
use Rattle.g1_words.specs.Geometry.{Geometry}
use Rattle.g1_words.specs.Heap.{Heap}
use Rattle.g1_image.specs.Image.{Image, IsImage}
use Rattle.g1_rem.specs.Starts.{card_count}
use Rattle.g1_explain.proofs.NoSlots.{no_slots}
use Rattle.g1_explain.proofs.walkable.Walkable.slots_on.Goals as goal

pub returns-else-from-cards : goal.returns-else-from-cards
returns-else-from-cards c =
    let same : c.heap-heap.result.now ≡ c.args.self.now.heap = cc in
    let view : c.self.inside.image.now ≡ c.args.self.now = cc in
    let good : IsImage c.args.self.now = subst (λ (j : Image). IsImage j) view c.heap-heap.ensures.valid in
    let cards : c.cards.result ≡ card_count c.args.self.now.heap =
    c.cards.ensures.value ∙ ap (λ (g : Geometry). g.n * g.w / g.k) c.geometry.ensures.same ∙ ap (λ (h : Heap). h.geometry.n * h.geometry.w / h.geometry.k) same in
    c.new.ensures.items ∙ no_slots c.args.self.now.heap c.args.card good.heap (omega (arith, cards, c.if-from-cards.false, c.from.ensures))
