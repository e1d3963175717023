use Rattle.std.proofs.Common.{◌≡◌, ◌<◌, ◌*◌, ap, arith, subst, sym, ◌∙◌}
use Rattle.g1_words.specs.Heap.{region, start}
use Rattle.g1_words.specs.declared.region.Kind.TheVariants.{Free, Ordinary, HumongousFirst, Continuation}
use Rattle.g1_image.specs.Marks.{StartsIn}
use Rattle.g1_image.proofs.Rows.{start_in}
use Rattle.g1_image.proofs.StraySlots.{starts_here, top_in}
use Rattle.g1_image.proofs.strays.starts_end.Goals as goal

pub returns-in-Ordinary-clause-all : goal.returns-in-Ordinary-clause-all
returns-in-Ordinary-clause-all c = λ o has from to.
    let h = c.args.draft.now in
    let r = c.args.r in
    let some : 0 < h.geometry.w = omega (arith, c.geometry.ensures.draft.limits.w_least) in
    let kind : (region h r).kind ≡ Ordinary = ap (λ q. q.kind) (sym c.region-kind.ensures) ∙ c.in-Ordinary.is in
    let first : c.start-start.result ≡ start h r = c.start-start.ensures.value ∙ ap (λ g. r * g.w) c.geometry.ensures.same in
    let top : c.from.result ≡ (region h r).top = c.from.ensures ∙ ap (λ q. q.top) c.region-kind.ensures in
    let starts : StartsIn Ordinary h r o.at = subst (λ k. StartsIn k h r o.at) kind (starts_here h r o some c.requires.shaped has from to) in
    omega (arith, starts.1, first, top)

pub returns-in-HumongousFirst-clause-all : goal.returns-in-HumongousFirst-clause-all
returns-in-HumongousFirst-clause-all c = λ o has from to.
    let h = c.args.draft.now in
    let r = c.args.r in
    let some : 0 < h.geometry.w = omega (arith, c.geometry.ensures.draft.limits.w_least) in
    let kind : (region h r).kind ≡ HumongousFirst = ap (λ q. q.kind) (sym c.region-kind.ensures) ∙ c.in-HumongousFirst.is in
    let first : c.start-start.result ≡ start h r = c.start-start.ensures.value ∙ ap (λ g. r * g.w) c.geometry.ensures.same in
    let starts : StartsIn HumongousFirst h r o.at = subst (λ k. StartsIn k h r o.at) kind (starts_here h r o some c.requires.shaped has from to) in
    omega (arith, starts, first)

pub returns-in-Free-clause-all : goal.returns-in-Free-clause-all
returns-in-Free-clause-all c = λ o has from to.
    let h = c.args.draft.now in
    let some : 0 < h.geometry.w = omega (arith, c.geometry.ensures.draft.limits.w_least) in
    let kind : (region h c.args.r).kind ≡ Free = ap (λ q. q.kind) (sym c.region-kind.ensures) ∙ c.in-Free.is in
    absurd (subst (λ k. StartsIn k h c.args.r o.at) kind (starts_here h c.args.r o some c.requires.shaped has from to))

pub returns-in-Continuation-clause-all : goal.returns-in-Continuation-clause-all
returns-in-Continuation-clause-all c = λ o has from to.
    let h = c.args.draft.now in
    let some : 0 < h.geometry.w = omega (arith, c.geometry.ensures.draft.limits.w_least) in
    let kind : (region h c.args.r).kind ≡ Continuation = ap (λ q. q.kind) (sym c.region-kind.ensures) ∙ c.in-Continuation.is in
    absurd (subst (λ k. StartsIn k h c.args.r o.at) kind (starts_here h c.args.r o some c.requires.shaped has from to))

pub returns-in-Ordinary-clause-within : goal.returns-in-Ordinary-clause-within
returns-in-Ordinary-clause-within c =
    let h = c.args.draft.now in
    let r = c.args.r in
    let kind : (region h r).kind ≡ Ordinary = ap (λ q. q.kind) (sym c.region-kind.ensures) ∙ c.in-Ordinary.is in
    let first : c.start-start.result ≡ start h r = c.start-start.ensures.value ∙ ap (λ g. r * g.w) c.geometry.ensures.same in
    let top : c.from.result ≡ (region h r).top = c.from.ensures ∙ ap (λ q. q.top) c.region-kind.ensures in
    omega (arith, top_in h r kind c.requires.shaped c.requires.there, first, top)

pub returns-in-HumongousFirst-clause-within : goal.returns-in-HumongousFirst-clause-within
returns-in-HumongousFirst-clause-within c =
    let first : c.start-start.result ≡ start c.args.draft.now c.args.r = c.start-start.ensures.value ∙ ap (λ g. c.args.r * g.w) c.geometry.ensures.same in
    omega (arith, start_in c.args.draft.now c.args.r c.geometry.ensures.draft.limits.w_least c.requires.there, first)

pub returns-in-Free-clause-within : goal.returns-in-Free-clause-within
returns-in-Free-clause-within c =
    let first : c.start-start.result ≡ start c.args.draft.now c.args.r = c.start-start.ensures.value ∙ ap (λ g. c.args.r * g.w) c.geometry.ensures.same in
    omega (arith, start_in c.args.draft.now c.args.r c.geometry.ensures.draft.limits.w_least c.requires.there, first)

pub returns-in-Continuation-clause-within : goal.returns-in-Continuation-clause-within
returns-in-Continuation-clause-within c =
    let first : c.start-start.result ≡ start c.args.draft.now c.args.r = c.start-start.ensures.value ∙ ap (λ g. c.args.r * g.w) c.geometry.ensures.same in
    omega (arith, start_in c.args.draft.now c.args.r c.geometry.ensures.draft.limits.w_least c.requires.there, first)
