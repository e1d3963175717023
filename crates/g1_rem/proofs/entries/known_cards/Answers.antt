use Rattle.std.proofs.Common.{◌≡◌, ◌*◌, ◌/◌, ◌∙◌, ap, subst}
use Rattle.g1_words.specs.Heap.{Heap}
use Rattle.g1_words.specs.Lists.{has}
use Rattle.g1_image.specs.Image.{remembered_of}
use Rattle.g1_words.specs.Marks.{AreMarked}
use Rattle.g1_rem.specs.Starts.{card_count}
use Rattle.g1_rem.proofs.Bare.{set_read}
use Rattle.g1_rem.proofs.Leading.{known_told}
use Rattle.g1_rem.proofs.entries.known_cards.Goals as goal

pub returns : goal.returns
returns c =
    let i = c.args.image.now in
    let set : c.as_slice-set.result.now ≡ remembered_of c.args.image.now c.args.region =
    c.as_slice-set.ensures.value ∙ set_read (λ s. s.items) c.args.image.now c.remembered.result.now c.args.region c.index-remembered-region.result
    c.heap.ensures.valid c.remembered.ensures c.requires c.index-remembered-region.is in
    let log : c.as_slice-log.result.now ≡ c.args.image.now.log = c.as_slice-log.ensures.keys ∙ c.log.ensures in
    let count : c.cards-cards.result ≡ card_count c.args.image.now.heap =
    c.cards-cards.ensures.value ∙ ap (λ g. g.n * g.w / g.k) c.geometry.ensures.same ∙ ap (λ (h : Heap). h.geometry.n * h.geometry.w / h.geometry.k) c.heap.ensures.same in
    known_told i c.args.region c.cards-cards.result c.in_ok-known.known c.set_each.new.self c.set_each-2.new.self count c.in_ok-known.ensures
    (subst (λ l. AreMarked (has l) c.in_ok-known.known c.set_each.new.self) set c.set_each.ensures)
    (subst (λ l. AreMarked (has l) c.set_each.new.self c.set_each-2.new.self) log c.set_each-2.ensures)
