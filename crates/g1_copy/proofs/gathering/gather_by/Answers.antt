use Rattle.std.proofs.Common.{◌≡◌, ◌<◌, ◌*◌, ◌/◌, ◌%◌, length, drop, replicate, arith, sym, ap, subst, ◌∙◌}
use Rattle.std.proofs.Math.Nat.{mul-div_left, mul-mod_left}
use Rattle.std.proofs.lemmas.List.{length-replicate, take_at}
use Rattle.g1_words.specs.Layout.{need}
use Rattle.g1_work.specs.Regions.{slice_of}
use Rattle.g1_copy.proofs.Plans.{runs_count}
use Rattle.g1_copy.proofs.GatheringWhole.{few_words, slice_empty, whole_words}
use Rattle.g1_copy.proofs.gathering.gather_by.Given.{Over}
use Rattle.g1_copy.proofs.gathering.gather_by.Goals as goal
use Rattle.g1_copy.proofs.gathering.gather_by.Goals.{After-deref_mut}

pub words_of-to_space-requires : goal.words_of-to_space-requires
words_of-to_space-requires g c =
    let h = c.args.moving.now.heap in
    let p = c.args.moving.now.plan in
    let same : h.geometry ≡ c.geometry-geometry.result = cc in
    let few = few_words h p c.geometry-geometry.ensures.made c.geometry-geometry.ensures.valid in
    let count : length c.runs.result.now * c.geometry-geometry.result.w ≡ length p.runs * h.geometry.w = λ k. length (c.runs.ensures.same k) * (sym same k).w in
    omega (arith, few, count)

-- ---- the words that were made

the_width : (g : Over) (c : After-deref_mut g) → c.region_words-region_words.result ≡ c.args.moving.now.heap.geometry.w
the_width g c = cc

the_zeros : (g : Over) (c : After-deref_mut g) → c.deref_mut.result.now ≡ replicate (length c.args.moving.now.plan.runs * c.args.moving.now.heap.geometry.w) 0
the_zeros g c =
    let size : c.words_of-to_space.result ≡ length c.args.moving.now.plan.runs * c.args.moving.now.heap.geometry.w = cc in
    c.deref_mut.ensures.value ∙ c.in_ok-words.ensures.items_if_clones_equal (λ y same. same) ∙ ap (λ n. replicate n 0) size

the_length : (g : Over) (c : After-deref_mut g) → length c.deref_mut.result.now ≡ length c.args.moving.now.plan.runs * c.args.moving.now.heap.geometry.w
the_length g c = ap length (the_zeros g c) ∙ length-replicate (length c.args.moving.now.plan.runs * c.args.moving.now.heap.geometry.w) 0

-- they are as many regions as are needed
the_count : (g : Over) (c : After-deref_mut g) → length c.deref_mut.result.now / c.region_words-region_words.result ≡ need c.args.moving.now.heap c.args.moving.now.plan.survivors
the_count g c =
    let least = c.geometry-geometry.ensures.valid.limits.w_least in
    let some : 0 < c.args.moving.now.heap.geometry.w = omega (arith, least, ap (λ x. x.w) c.geometry-geometry.ensures.same) in
    (λ q. the_length g c q / the_width g c q) ∙ mul-div_left (length c.args.moving.now.plan.runs) some ∙ runs_count c.args.moving.now.heap c.args.moving.now.plan c.geometry-geometry.ensures.made

pub each_region_mut-requires-clause-whole : goal.each_region_mut-requires-clause-whole
each_region_mut-requires-clause-whole g c κs within =
    let b = (goal.at.each_region_mut-requires-clause-whole g c).After-deref_mut in
    (λ q. the_length g b q % the_width g b q) ∙ mul-mod_left (length c.args.moving.now.plan.runs) c.args.moving.now.heap.geometry.w

pub each_region_mut-requires-clause-ready : goal.each_region_mut-requires-clause-ready
each_region_mut-requires-clause-ready g c κs within r lt =
    let b = (goal.at.each_region_mut-requires-clause-ready g c).After-deref_mut in
    let words = c.deref_mut.result.now in
    let there = subst (λ n. r < n) (the_count g b) lt in
    (there, ap (λ w. slice_of w r words) (the_width g b) ∙ slice_empty c.args.moving.now.heap c.args.moving.now.plan c.geometry-geometry.ensures.made words r (the_zeros g b) there)

pub returns : goal.returns
returns g c =
    let b = (goal.at.returns g c).After-deref_mut in
    let all = c.each_region_mut.new.words in
    take_at all (drop (length all) c.in_ok-words.words.items) c.in_ok-words.words.len (c.each_region_mut.ensures.size ∙ c.deref_mut.ensures.len)
    ∙ whole_words c.args.moving.now.heap c.args.moving.now.plan c.geometry-geometry.ensures.made all (c.each_region_mut.ensures.size ∙ the_length g b)
    (λ r lt. ap (λ w. slice_of w r all) (sym (the_width g b)) ∙ c.each_region_mut.ensures.fills r (subst (λ n. r < n) (sym (the_count g b)) lt))
