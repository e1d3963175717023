use Rattle.std.proofs.Common.{◌≡◌, ◌<◌, ◌++◌, All, length, take, drop, get_or, replicate, sym, ◌∙◌, ap, subst}
use Rattle.std.proofs.lemmas.List.{length-replicate}
use Rattle.g1_rem.proofs.Entering.{lent_back}
use Rattle.g1_words.specs.Layout.{to_space}
use Rattle.g1_copy.specs.Fates.{AreFates, AreReplaced}
use Rattle.g1_copy.specs.declared.fates.Fate.TheVariants.{Freed, Kept}
use Rattle.g1_copy.proofs.FatesMade.{fates_made, set_below, to_space_below, to_space_distinct}
use Rattle.g1_copy.proofs.fates.fates.Goals as goal

pub fill-requires-clause-there : goal.fill-requires-clause-there
fill-requires-clause-there c =
    let h = c.args.heap.now in
    let n : c.regions-regions.result ≡ h.geometry.n = c.regions-regions.ensures.value ∙ ap (λ g. g.n) c.geometry.ensures.same in
    let size : length c.deref_mut.result.now ≡ h.geometry.n = ap length (c.deref_mut.ensures.value ∙ c.in_ok-fates.ensures.items_if_clones_equal (λ y same. same)) ∙ length-replicate c.regions-regions.result Kept ∙ n in
    subst (λ x. All (λ r. r < x) c.to_space.result.now) (sym size) (to_space_below h c.args.set.now c.args.plan.now c.geometry.ensures.valid c.requires c.to_space.result.now c.to_space.ensures)

pub fill-requires-clause-distinct : goal.fill-requires-clause-distinct
fill-requires-clause-distinct c = to_space_distinct c.args.heap.now c.args.set.now c.args.plan.now c.geometry.ensures.valid c.requires c.to_space.result.now c.to_space.ensures

pub free-requires : goal.free-requires
free-requires c =
    let h = c.args.heap.now in
    let n : c.regions-regions.result ≡ h.geometry.n = c.regions-regions.ensures.value ∙ ap (λ g. g.n) c.geometry.ensures.same in
    let size : length c.deref_mut.result.now ≡ h.geometry.n = ap length (c.deref_mut.ensures.value ∙ c.in_ok-fates.ensures.items_if_clones_equal (λ y same. same)) ∙ length-replicate c.regions-regions.result Kept ∙ n in
    let lent = c.deref_mut-2.ensures.value ∙ lent_back c.in_ok-fates.fates.len c.deref_mut.result.now c.fill.new.fates c.in_ok-fates.fates.items
    c.deref_mut.ensures.value c.fill.ensures.size c.deref_mut.ensures.len in
    let size' : length c.deref_mut-2.result.now ≡ h.geometry.n = ap length lent ∙ c.fill.ensures.size ∙ size in
    subst (λ x. All (λ r. r < x) c.args.set.now) (sym size') (set_below h c.args.set.now c.args.plan.now c.geometry.ensures.valid c.requires)

pub returns : goal.returns
returns c =
    let h = c.args.heap.now in
    let len = c.in_ok-fates.fates.len in
    let items = c.in_ok-fates.fates.items in
    let set = c.args.set.now in
    let n : c.regions-regions.result ≡ h.geometry.n = c.regions-regions.ensures.value ∙ ap (λ g. g.n) c.geometry.ensures.same in
    let kept = c.deref_mut.ensures.value ∙ c.in_ok-fates.ensures.items_if_clones_equal (λ y same. same) ∙ ap (λ x. replicate x Kept) n in
    let lent = c.deref_mut-2.ensures.value ∙ lent_back len c.deref_mut.result.now c.fill.new.fates items c.deref_mut.ensures.value c.fill.ensures.size c.deref_mut.ensures.len in
    let freed = subst (λ xs. AreReplaced (length set) (λ t. get_or set t 0) (λ t. Freed) xs c.free.new.fates) lent c.free.ensures in
    let back = lent_back len c.deref_mut-2.result.now c.free.new.fates (take len (c.fill.new.fates ++ drop (length c.fill.new.fates) items))
    c.deref_mut-2.ensures.value c.free.ensures.size c.deref_mut-2.ensures.len in
    subst (AreFates h set (to_space h c.args.plan.now.survivors)) (sym back)
    (fates_made h set c.args.plan.now c.geometry.ensures.valid c.requires c.to_space.result.now c.to_space.ensures c.deref_mut.result.now c.fill.new.fates c.free.new.fates kept c.fill.ensures freed)
