use Rattle.std.proofs.Common.{arith, sym, ◌∙◌, ◌≡◌, ◌/◌, ◌+◌}
use Rattle.g1_words.specs.Heap.{region, start, end}
use Rattle.g1_words.proofs.Objects.{ordinary_found, ordinary_none, none_past, none_of_kind, first_there}
use Rattle.g1_words.specs.declared.region.Kind.TheVariants.{Free, Ordinary, HumongousFirst, Continuation}
use Rattle.g1_words.proofs.Listed.{found_listed, one_listed, none_listed, missing_listed}
use Rattle.g1_words.proofs.object.object_at.Goals as goal

pub returns-then-number-regions-clause-none : goal.returns-then-number-regions-clause-none
returns-then-number-regions-clause-none c =
    let g = c.geometry-geometry.ensures in
    let e : c.region_of-number.result ≡ c.args.a / c.args.heap.now.geometry.w = cc in
    let n : c.regions.result ≡ c.args.heap.now.geometry.n = cc in
    none_listed c.args.heap.now c.args.a g.valid (none_past c.args.heap.now (c.region_of-number.result) c.args.a g.valid (omega arith) e)

pub returns-in-Ordinary-clause-found : goal.returns-in-Ordinary-clause-found
returns-in-Ordinary-clause-found c =
    let g = c.geometry-geometry.ensures in
    let h = c.args.heap.now in
    let r = c.region_of-number.result in
    let n : c.regions.result ≡ c.args.heap.now.geometry.n = cc in
    let kind : (region h r).kind ≡ Ordinary = cc in
    let from : c.start-start.result ≡ start h r = cc in
    let to : c.start-start.result + c.from.result ≡ end h r = cc in
    found_listed h c.args.a c.object_between.result g.valid (ordinary_found h r c.args.a c.words.result.now.items c.start-start.result (c.start-start.result + c.from.result)
    c.object_between.result g.valid (omega arith) kind c.words.ensures.same from to c.object_between.ensures.found)

pub returns-in-Ordinary-clause-none : goal.returns-in-Ordinary-clause-none
returns-in-Ordinary-clause-none c =
    let g = c.geometry-geometry.ensures in
    let h = c.args.heap.now in
    let r = c.region_of-number.result in
    let e : c.region_of-number.result ≡ c.args.a / c.args.heap.now.geometry.w = cc in
    let n : c.regions.result ≡ c.args.heap.now.geometry.n = cc in
    let kind : (region h r).kind ≡ Ordinary = cc in
    let from : c.start-start.result ≡ start h r = cc in
    let to : c.start-start.result + c.from.result ≡ end h r = cc in
    missing_listed h c.args.a c.object_between.result g.valid (ordinary_none h r c.args.a c.words.result.now.items c.start-start.result (c.start-start.result + c.from.result)
    c.object_between.result g.valid (omega arith) kind c.words.ensures.same from to e c.object_between.ensures.none)

pub returns-then-a-start-clause-found : goal.returns-then-a-start-clause-found
returns-then-a-start-clause-found c =
    let g = c.geometry-geometry.ensures in
    let h = c.args.heap.now in
    let r = c.region_of-number.result in
    let n : c.regions.result ≡ c.args.heap.now.geometry.n = cc in
    let kind : (region h r).kind ≡ HumongousFirst = cc in
    let here : c.args.a ≡ start h r = cc in
    one_listed h c.args.a c.header.result g.valid c.header.ensures.at
    (first_there h r c.words-then-a-start.result.now.items c.header.result g.valid (omega arith) kind c.words-then-a-start.ensures.same
    (c.header.ensures.at ∙ here) (λ o e i. c.header.ensures.only o (e ∙ sym here) i))

pub returns-else-a-start-clause-none : goal.returns-else-a-start-clause-none
returns-else-a-start-clause-none c =
    let g = c.geometry-geometry.ensures in
    let h = c.args.heap.now in
    let r = c.region_of-number.result in
    let e : c.region_of-number.result ≡ c.args.a / c.args.heap.now.geometry.w = cc in
    let kind : (region h r).kind ≡ HumongousFirst = cc in
    let from : c.start-start.result ≡ start h r = cc in
    none_listed h c.args.a g.valid (none_of_kind h r c.args.a HumongousFirst g.valid kind e (λ o here s. c.if-a-start.false (sym here ∙ s.0 ∙ sym from)))

pub returns-in-Free-clause-none : goal.returns-in-Free-clause-none
returns-in-Free-clause-none c =
    let g = c.geometry-geometry.ensures in
    let h = c.args.heap.now in
    let r = c.region_of-number.result in
    let e : c.region_of-number.result ≡ c.args.a / c.args.heap.now.geometry.w = cc in
    let kind : (region h r).kind ≡ Free = cc in
    none_listed h c.args.a g.valid (none_of_kind h r c.args.a Free g.valid kind e (λ o here s. s))

pub returns-in-Continuation-clause-none : goal.returns-in-Continuation-clause-none
returns-in-Continuation-clause-none c =
    let g = c.geometry-geometry.ensures in
    let h = c.args.heap.now in
    let r = c.region_of-number.result in
    let e : c.region_of-number.result ≡ c.args.a / c.args.heap.now.geometry.w = cc in
    let kind : (region h r).kind ≡ Continuation = cc in
    none_listed h c.args.a g.valid (none_of_kind h r c.args.a Continuation g.valid kind e (λ o here s. s))
