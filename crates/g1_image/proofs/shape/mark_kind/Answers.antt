use Rattle.std.proofs.Common.{◌≡◌, ◌+◌, sym, ap, subst, ◌∙◌}
use Rattle.std.specs.Prelude.{IsTrue, ◌↔◌}
use Rattle.g1_words.specs.Heap.{region}
use Rattle.g1_words.specs.Valid.{IsShapedBy}
use Rattle.g1_words.specs.declared.region.Kind.TheVariants.{Free, Continuation}
use Rattle.g1_image.specs.Marks.{StartsIn, Marked}
use Rattle.g1_image.proofs.Rows.{marked_none}
use Rattle.g1_image.proofs.shape.mark_kind.Goals as goal

pub mark_ordinary-requires-clause-kind : goal.mark_ordinary-requires-clause-kind
mark_ordinary-requires-clause-kind c = ap (λ q. q.kind) (sym c.region-region.ensures) ∙ c.in-Ordinary.is

pub returns-in-Ordinary-clause-shaped : goal.returns-in-Ordinary-clause-shaped
returns-in-Ordinary-clause-shaped c = λ shaped.
    subst (λ k. IsTrue c.mark_ordinary.result ↔ IsShapedBy k c.args.draft.now c.args.r) (sym (ap (λ q. q.kind) (sym c.region-region.ensures) ∙ c.in-Ordinary.is)) c.mark_ordinary.ensures.shaped

pub returns-in-Ordinary-clause-marked : goal.returns-in-Ordinary-clause-marked
returns-in-Ordinary-clause-marked c = λ t.
    subst (λ k. Marked (λ i. StartsIn k c.args.draft.now c.args.r (c.args.base + i)) c.args.marks.now c.mark_ordinary.new.marks) (sym (ap (λ q. q.kind) (sym c.region-region.ensures) ∙ c.in-Ordinary.is)) (c.mark_ordinary.ensures.marked t)

pub mark_humongous-requires-clause-kind : goal.mark_humongous-requires-clause-kind
mark_humongous-requires-clause-kind c = ap (λ q. q.kind) (sym c.region-region.ensures) ∙ c.in-HumongousFirst.is

pub returns-in-HumongousFirst-clause-shaped : goal.returns-in-HumongousFirst-clause-shaped
returns-in-HumongousFirst-clause-shaped c = λ shaped.
    subst (λ k. IsTrue c.mark_humongous.result ↔ IsShapedBy k c.args.draft.now c.args.r) (sym (ap (λ q. q.kind) (sym c.region-region.ensures) ∙ c.in-HumongousFirst.is)) c.mark_humongous.ensures.shaped

pub returns-in-HumongousFirst-clause-marked : goal.returns-in-HumongousFirst-clause-marked
returns-in-HumongousFirst-clause-marked c = λ t.
    subst (λ k. Marked (λ i. StartsIn k c.args.draft.now c.args.r (c.args.base + i)) c.args.marks.now c.mark_humongous.new.marks) (sym (ap (λ q. q.kind) (sym c.region-region.ensures) ∙ c.in-HumongousFirst.is)) c.mark_humongous.ensures.marked

pub continuation_shaped-requires-clause-kind : goal.continuation_shaped-requires-clause-kind
continuation_shaped-requires-clause-kind c = ap (λ q. q.kind) (sym c.region-region.ensures) ∙ c.in-Continuation.is

pub returns-in-Continuation-clause-shaped : goal.returns-in-Continuation-clause-shaped
returns-in-Continuation-clause-shaped c = λ shaped.
    subst (λ k. IsTrue c.continuation_shaped.result ↔ IsShapedBy k c.args.draft.now c.args.r) (sym (ap (λ q. q.kind) (sym c.region-region.ensures) ∙ c.in-Continuation.is)) (c.continuation_shaped.ensures shaped)

pub returns-in-Free-clause-marked : goal.returns-in-Free-clause-marked
returns-in-Free-clause-marked c = λ t.
    let h = c.args.draft.now in
    let kind : (region h c.args.r).kind ≡ Free = ap (λ q. q.kind) (sym c.region-region.ensures) ∙ c.in-Free.is in
    marked_none (λ i. StartsIn (region h c.args.r).kind h c.args.r (c.args.base + i)) c.args.marks.now (λ i s. subst (λ k. StartsIn k h c.args.r (c.args.base + i)) kind s)

pub returns-in-Continuation-clause-marked : goal.returns-in-Continuation-clause-marked
returns-in-Continuation-clause-marked c = λ t.
    let h = c.args.draft.now in
    let kind : (region h c.args.r).kind ≡ Continuation = ap (λ q. q.kind) (sym c.region-region.ensures) ∙ c.in-Continuation.is in
    marked_none (λ i. StartsIn (region h c.args.r).kind h c.args.r (c.args.base + i)) c.args.marks.now (λ i s. subst (λ k. StartsIn k h c.args.r (c.args.base + i)) kind s)
