use Rattle.std.proofs.Common.{◌≡◌, length, ap, subst, sym, ◌∙◌}
use Rattle.std.specs.List.{range_with_len, AllZip}
use Rattle.std.proofs.lemmas.List.FromFn.{length-range_with_len}
use Rattle.std.proofs.lemmas.Slice.Zip.{AllZip-long}
use Rattle.g1_image.specs.Shapes.{IsShapedRange, AreShapedRanges, IsMarksCut}
use Rattle.g1_image.proofs.starts.shaped_by_threads.Goals as goal

pub make_each-requires-clause-ready : goal.make_each-requires-clause-ready
make_each-requires-clause-ready g c κs within = λ i lt.
    let cut : IsMarksCut c.args.draft.now c.args.threads c.args.threads c.deref.result.now = subst (IsMarksCut c.args.draft.now c.args.threads c.args.threads) (sym c.deref.ensures.value) c.in_ok-begins.ensures in
    cut.cut.each i lt

pub join-requires-clause-cut : goal.join-requires-clause-cut
join-requires-clause-cut g c =
    let h = c.args.draft.now in
    let long : length c.deref-2.result.now ≡ c.args.threads = ap length c.deref-2.ensures.value
    ∙ AllZip-long (IsShapedRange h c.deref.result.now) (range_with_len 0 c.args.threads) c.in_ok-parts.parts.items c.in_ok-parts.ensures.ok ∙ length-range_with_len 0 c.args.threads in
    subst (λ m. IsMarksCut h m m c.deref.result.now) (sym long) (subst (IsMarksCut h c.args.threads c.args.threads) (sym c.deref.ensures.value) c.in_ok-begins.ensures)

pub join-requires-clause-parts : goal.join-requires-clause-parts
join-requires-clause-parts g c =
    let h = c.args.draft.now in
    let begins = c.deref.result.now in
    let parts : AllZip (IsShapedRange h begins) (range_with_len 0 c.args.threads) c.deref-2.result.now =
    subst (AllZip (IsShapedRange h begins) (range_with_len 0 c.args.threads)) (sym c.deref-2.ensures.value) c.in_ok-parts.ensures.ok in
    let long : length c.deref-2.result.now ≡ c.args.threads = AllZip-long (IsShapedRange h begins) (range_with_len 0 c.args.threads) c.deref-2.result.now parts ∙ length-range_with_len 0 c.args.threads in
    subst (λ m. AreShapedRanges h begins m c.deref-2.result.now) (sym long) parts
