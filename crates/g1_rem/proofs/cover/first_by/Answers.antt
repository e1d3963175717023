use Rattle.std.proofs.Common.{ap, subst, sym, ◌∙◌}
use Rattle.std.specs.List.{range_with_len, AllZip}
use Rattle.g1_words.specs.Heap.{Heap}
use Rattle.g1_work.specs.Ranges.{first_some}
use Rattle.g1_image.specs.Cards.{uncovered}
use Rattle.g1_rem.specs.Cover.{IsFirstOf, bare_in_range}
use Rattle.g1_rem.specs.Ranges.{IsCut}
use Rattle.g1_rem.proofs.Bare.{bare_all, first_ranges, ranges_all}
use Rattle.g1_rem.proofs.cover.first_by.Goals as goal

pub make_each-requires-clause-ready : goal.make_each-requires-clause-ready
make_each-requires-clause-ready g c κs within = λ i lt.
    let cut : IsCut c.args.image.now.heap.geometry.n c.args.threads c.deref.result.now =
    subst (IsCut c.args.image.now.heap.geometry.n c.args.threads) (sym c.deref.ensures.value)
    (subst (λ (h : Heap). IsCut h.geometry.n c.args.threads c.in_ok-cut.cut.items) c.heap.ensures.same c.in_ok-cut.ensures) in
    (c.in_ok-dirty.ensures, cut.each i lt)

pub returns-clause-ok : goal.returns-clause-ok
returns-clause-ok g c =
    let i = c.args.image.now in
    let cut : IsCut i.heap.geometry.n c.args.threads c.in_ok-cut.cut.items =
    subst (λ (h : Heap). IsCut h.geometry.n c.args.threads c.in_ok-cut.cut.items) c.heap.ensures.same c.in_ok-cut.ensures in
    let found : AllZip (λ j. IsFirstOf (bare_in_range i c.in_ok-cut.cut.items j)) (range_with_len 0 c.args.threads) c.in_ok-found.found.items =
    subst (λ l. AllZip (λ j. IsFirstOf (bare_in_range i l j)) (range_with_len 0 c.args.threads) c.in_ok-found.found.items) c.deref.ensures.value c.in_ok-found.ensures.ok in
    let first : IsFirstOf (uncovered i) (first_some c.in_ok-found.found.items) =
    subst (λ l. IsFirstOf l (first_some c.in_ok-found.found.items)) (ranges_all i c.args.threads c.in_ok-cut.cut.items cut ∙ sym (bare_all i))
    (first_ranges (bare_in_range i c.in_ok-cut.cut.items) (range_with_len 0 c.args.threads) c.in_ok-found.found.items found) in
    subst (IsFirstOf (uncovered i)) (sym (ap first_some c.deref-2.ensures.value) ∙ sym c.first_found.ensures) first
