use Rattle.std.proofs.Common.{◌≡◌, ◌∙◌, ap, flat_map, map, refl, subst, sym}
use Rattle.g1_rem.specs.Starts.{IsStartsOf, address_below}
use Rattle.g1_rem.specs.Ranges.{IsCut}
use Rattle.g1_rem.proofs.Joins.{AreStartsInEach, joined_all, starts_whole}
use Rattle.g1_rem.proofs.starts.Starts.build_by_threads.Goals as goal

pub make_each-requires-clause-ready : goal.make_each-requires-clause-ready
make_each-requires-clause-ready g c κs within = λ i lt.
    let cut : IsCut c.args.heap.now.geometry.n c.args.threads c.deref.result.now = subst (IsCut c.args.heap.now.geometry.n c.args.threads) (sym c.deref.ensures.value) c.in_ok-cut.ensures in
    cut.each i lt

pub returns-clause-ok : goal.returns-clause-ok
returns-clause-ok g c =
    let h = c.args.heap.now in
    let lists : AreStartsInEach c.args.heap.now c.in_ok-cut.cut.items c.args.threads c.in_ok-lists.lists.items =
    subst (λ l. AreStartsInEach c.args.heap.now l c.args.threads c.in_ok-lists.lists.items) c.deref.ensures.value c.in_ok-lists.ensures.ok in
    let joined : c.in_ok-firsts.firsts.items ≡ flat_map (λ v. v.items) c.in_ok-lists.lists.items =
    c.in_ok-firsts.ensures ∙ ap (flat_map (λ v. v.items)) c.deref-2.ensures.value in
    subst (λ l. IsStartsOf c.args.heap.now (map address_below l)) (sym joined)
    (starts_whole h h.geometry.n (map address_below (flat_map (λ v. v.items) c.in_ok-lists.lists.items)) c.geometry.ensures.valid refl
    (joined_all h c.args.threads c.in_ok-cut.cut.items c.in_ok-cut.ensures c.in_ok-lists.lists.items lists))
