use Rattle.std.proofs.Common.{◌≡◌, ◌-◌, ◌∙◌, ap, arith, subst}
use Rattle.std.specs.List.{range_with_len, AllZip}
use Rattle.rayon.specs.Numbers.{nat_range}
use Rattle.rayon.proofs.ToStd.{nat_range-All}
use Rattle.g1_work.specs.Make.{IsMade}
use Rattle.g1_work.proofs.Gathered.{gathered, gathered_memory}
use Rattle.g1_work.proofs.make.make_each.Goals as goal

pub collect-requires-clause-ready : goal.collect-requires-clause-ready
collect-requires-clause-ready g c κs within =
    let ends = c.into_par_iter.ensures in
    let inside = nat_range-All (g.M.Make.ready c.args.maker.now) 0 c.args.count (λ i low high. c.requires.ready i high) in
    rw (c.map.ensures.base, c.with_min_len.ensures.base, c.map.ensures.f, ends.0, ends.1) (λ k d lt. (inside k d lt, λ y p. tt))

pub returns-clause-ok : goal.returns-clause-ok
returns-clause-ok g c =
    let makes = g.M.Make.makes c.args.maker.now in
    let ends = c.into_par_iter.ensures in
    let whole : c.args.count - 0 ≡ c.args.count = omega arith in
    let h = c.in_ok-collect.ensures in
    let chain = rw (c.map.ensures.base, c.with_min_len.ensures.base, c.map.ensures.f) at h.1 in
    let places = chain.1 ∙ (λ i. nat_range (ends.0 i) (ends.1 i)) ∙ ap (range_with_len 0) whole in
    let z = subst (λ l. AllZip (IsMade makes) l h.0) places chain.2 in
    gathered (IsMade makes) makes (λ j x p. p) (λ j e p. p) (range_with_len 0 c.args.count) h.0 z c.in_ok-collect.field-0 h.2

pub returns-clause-memory : goal.returns-clause-memory
returns-clause-memory g c =
    let makes = g.M.Make.makes c.args.maker.now in
    let h = c.in_ok-collect.ensures in
    let chain = rw (c.map.ensures.base, c.with_min_len.ensures.base, c.map.ensures.f) at h.1 in
    gathered_memory (IsMade makes) makes (λ j x p. p) (λ j e p. p) chain.0 h.0 chain.2 c.in_ok-collect.field-0 h.2
