use Rattle.std.proofs.Common.{◌≡◌, ◌<◌, false, map, arith, sym, ap, ◌∙◌, refl, lt-ltb}
use Rattle.g1_words.specs.declared.region.Kind.TheVariants.{Ordinary}
use Rattle.g1_words.specs.Heap.{kind, pinned, top}
use Rattle.g1_choose.specs.Choice.{garbage}
use Rattle.g1_choose.proofs.Bounds.{ordinary_top}
use Rattle.g1_choose.proofs.choice.candidate.Goals as goal

pub invariant_of-result-clause-some_garbage : goal.invariant_of-result-clause-some_garbage
invariant_of-result-clause-some_garbage c = omega (arith, c.if-garbage-eq0.false)

pub invariant_of-result-clause-garbage_fits : goal.invariant_of-result-clause-garbage_fits
invariant_of-result-clause-garbage_fits c =
    let h = c.args.pricing.now.heap.now in
    let is_kind : kind h c.args.region ≡ Ordinary = sym (ap (λ q. q.kind) c.region-kind.ensures) ∙ c.is_ordinary.ensures.fact.0 c.if-not-is_ordinary.false in
    let is_top : c.from.result ≡ top h c.args.region = cc in
    omega (arith, is_top, ordinary_top h c.args.region c.requires.valid c.requires.there is_kind)

pub returns-clause-found : goal.returns-clause-found
returns-clause-found c =
    let h = c.args.pricing.now.heap.now in
    let is_kind : kind h c.args.region ≡ Ordinary = sym (ap (λ q. q.kind) c.region-kind.ensures) ∙ c.is_ordinary.ensures.fact.0 c.if-not-is_ordinary.false in
    let is_free : pinned h c.args.region ≡ false = sym (ap (λ q. q.pinned) c.region-kind.ensures) ∙ c.if-pinned.false in
    let is_top : c.from.result ≡ top h c.args.region = cc in
    let waste = garbage c.args.pricing.now.parameters.now h (map (λ s. s.items) c.args.pricing.now.remembered.now) c.args.pricing.now.live.now c.args.region in
    let some : 0 < waste = omega (arith, is_top, c.if-garbage-eq0.false) in
    rw (is_kind, is_free, lt-ltb 0 waste some) refl
