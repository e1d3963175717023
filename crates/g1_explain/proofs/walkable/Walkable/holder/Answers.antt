use Rattle.std.proofs.Common.{◌≡◌, ◌*◌, ◌∙◌, sym, subst}
use Rattle.g1_words.specs.Heap.{Heap, card_of}
use Rattle.g1_image.specs.Image.{Image}
use Rattle.g1_rem.specs.Starts.{IsOver}
use Rattle.g1_explain.specs.Keeping.{IsReferring, ReachesHolder}
use Rattle.g1_explain.proofs.Holder.{card_there, some_over, reaches}
use Rattle.g1_explain.proofs.walkable.Walkable.holder.Goals as goal

pub first-requires : goal.first-requires
first-requires c =
    let h : Heap = c.self.inside.image.now.heap in
    let view : c.args.self.now ≡ c.self.inside.image.now = cc in
    let refers : IsReferring h c.args.slot = subst (λ (j : Image). IsReferring j.heap c.args.slot) view c.requires.slot in
    let home : c.args.card ≡ card_of h c.args.slot = subst (λ (j : Image). c.args.card ≡ card_of j.heap c.args.slot) view c.requires.card in
    card_there h c.heap-heap.ensures.valid.heap c.args.card c.args.slot refers home c.self.inside.starts.now c.self.invariant

pub unreachable-requires : goal.unreachable-requires
unreachable-requires c =
    let h : Heap = c.self.inside.image.now.heap in
    let valid = c.heap-heap.ensures.valid.heap in
    let view : c.args.self.now ≡ c.self.inside.image.now = cc in
    let refers : IsReferring h c.args.slot = subst (λ (j : Image). IsReferring j.heap c.args.slot) view c.requires.slot in
    let home : c.args.card ≡ card_of h c.args.slot = subst (λ (j : Image). c.args.card ≡ card_of j.heap c.args.slot) view c.requires.card in
    let lt = card_there h valid c.args.card c.args.slot refers home c.self.inside.starts.now c.self.invariant in
    some_over h valid c.args.card c.args.slot refers home
    (subst (λ o. IsOver h (c.args.card * h.geometry.k) o) (sym c.first.ensures ∙ c.in_default.is) (c.self.invariant.each c.args.card lt))

pub holder_from-requires : goal.holder_from-requires
holder_from-requires c =
    let h : Heap = c.self.inside.image.now.heap in
    let valid = c.heap-heap.ensures.valid.heap in
    let view : c.args.self.now ≡ c.self.inside.image.now = cc in
    let refers : IsReferring h c.args.slot = subst (λ (j : Image). IsReferring j.heap c.args.slot) view c.requires.slot in
    let home : c.args.card ≡ card_of h c.args.slot = subst (λ (j : Image). c.args.card ≡ card_of j.heap c.args.slot) view c.requires.card in
    let lt = card_there h valid c.args.card c.args.slot refers home c.self.inside.starts.now c.self.invariant in
    let row = reaches h valid c.args.card c.args.slot refers home c.in-Some.first
    (subst (λ o. IsOver h (c.args.card * h.geometry.k) o) (sym c.first.ensures ∙ c.in-Some.is) (c.self.invariant.each c.args.card lt)) in
    subst (λ (g : Heap). ReachesHolder g c.from.result c.args.slot) (sym c.heap-heap.ensures.same) (subst (λ n. ReachesHolder h n c.args.slot) (sym c.from.ensures) row)
