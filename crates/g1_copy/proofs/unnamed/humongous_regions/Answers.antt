use Rattle.std.proofs.Common.{◌≡◌, ◌++◌, [], ◌∷◌, flat_map, get_or, take, append-nil, sym, ◌∙◌, ap, arith}
use Rattle.std.specs.List.{range_with_len}
use Rattle.std.proofs.lemmas.List.{take_all, take_more}
use Rattle.std.proofs.lemmas.List.Concat.{flat_map-append}
use Rattle.g1_copy.specs.Unnamed.{humongous_regions}
use Rattle.g1_copy.proofs.unnamed.humongous_regions.Goals as goal

pub loop-region-init : goal.loop-region-init
loop-region-init c = c.new-regions.ensures.items

pub loop-region-preserved : goal.loop-region-preserved
loop-region-preserved c =
    let h = c.args.heap.now in
    let firsts = c.args.firsts.now in
    let i = c.loop-region.region-index in
    let r = get_or firsts i 0 in
    let one : range_with_len c.from.result c.regions_for.result ≡ humongous_regions h r = cc in
    c.in_ok-push_regions.ensures ∙ (λ t. c.loop-region.invariant t ++ one t) ∙ ap (λ l. flat_map (humongous_regions h) (take i firsts) ++ l) (sym (append-nil (humongous_regions h r)))
    ∙ sym (flat_map-append (humongous_regions h) (take i firsts) (r ∷ [])) ∙ ap (λ l. flat_map (humongous_regions h) l) (sym (take_more firsts i 0 c.loop-region-test.true))

pub returns : goal.returns
returns c = c.loop-region.invariant ∙ ap (λ l. flat_map (humongous_regions c.args.heap.now) l) (take_all c.loop-region.region-index c.args.firsts.now c.loop-region-test.false)

pub loop-region-smaller : goal.loop-region-smaller
loop-region-smaller c = omega (arith, c.loop-region-test.true)
