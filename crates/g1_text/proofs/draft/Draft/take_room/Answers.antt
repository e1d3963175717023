use Rattle.std.proofs.Common.{◌<◌, [], ◌∷◌, ◌++◌, length, length-append, refl, sym, ◌∙◌, ap, subst, arith}
use Rattle.std.proofs.lemmas.Result.{err_from_is_err_and}
use Rattle.g1_words.specs.declared.region.Region.{Region}
use Rattle.g1_text.specs.Content.{HasSpace, top_behind, beyond_behind}
use Rattle.g1_text.specs.Drafts.{content}
use Rattle.g1_text.proofs.Ends.{one_end, last_within}
use Rattle.g1_text.proofs.Results.{ok_one, not_both}
use Rattle.g1_text.proofs.draft.Draft.take_room.Goals as goal

pub returns-in_default-clause-room : goal.returns-in_default-clause-room
returns-in_default-clause-room c = λ below q e lt small room.
    absurd (omega (arith, c.in_default.ensures.cases, ap length (c.deref.ensures.value ∙ e), length-append below (q ∷ [])))

pub returns-in_err-top-clause-small : goal.returns-in_err-top-clause-small
returns-in_err-top-clause-small c =
    let left = err_from_is_err_and c.from_residual.result c.from_residual.ensures.1 in
    rw left.1 tt

pub returns-in_err-top-clause-room : goal.returns-in_err-top-clause-room
returns-in_err-top-clause-room c = λ below q e lt small room.
    let g = c.args.self.now.geometry in
    let size = c.args.size in
    let parts = one_end c.in-Some.below.now below c.in-Some.last.now q (sym c.in-Some.ensures.cases.0 ∙ c.deref.ensures.value ∙ e) in
    let there = subst (λ (r : Region). HasSpace r.kind g (length c.in-Some.below.now) r.top size) (sym parts.1) (subst (λ b. HasSpace q.kind g (length b) q.top size) (sym parts.0) room) in
    absurd (not_both c.in_err-top.was (c.room.ensures.room (subst (λ b. length b < g.n) (sym parts.0) lt) small there))

pub returns-clause-small : goal.returns-clause-small
returns-clause-small c = c.in_ok-top.ensures.small

pub returns-clause-room : goal.returns-clause-room
returns-clause-room c = λ below q e lt small room.
    let s = content c.args.self.now in
    let g = c.args.self.now.geometry in
    let size = c.args.size in
    let parts = one_end c.in-Some.below.now below c.in-Some.last.now q (sym c.in-Some.ensures.cases.0 ∙ c.deref.ensures.value ∙ e) in
    let there = subst (λ (r : Region). HasSpace r.kind g (length c.in-Some.below.now) r.top size) (sym parts.1) (subst (λ b. HasSpace q.kind g (length b) q.top size) (sym parts.0) room) in
    let pair = ok_one c.in_ok-top.was (c.room.ensures.room (subst (λ b. length b < g.n) (sym parts.0) lt) small there) in
    let top = ap (λ x. x.0) pair ∙ ap (λ (r : Region). top_behind r.kind g r.top size) parts.1 in
    let beyond = ap (λ x. x.1) pair ∙ ap (λ (r : Region). beyond_behind r.kind g s.beyond size) parts.1 in
    let regions = c.set_top.ensures below q e ∙ ap (λ t. below ++ record q { top = t } ∷ []) top in
    (refl, λ i. record s { regions = regions i; beyond = beyond i })

pub returns-clause-taken : goal.returns-clause-taken
returns-clause-taken c = λ few tops.
    let s = content c.args.self.now in
    let below = c.in-Some.below.now in
    let last = c.in-Some.last.now in
    let parts = sym c.deref.ensures.value ∙ c.in-Some.ensures.cases.0 in
    let count = ap length parts in
    let more = length-append below (last ∷ []) in
    let top = last_within c.args.self.now.geometry.w below last s.regions parts tops in
    let space = c.in_ok-top.ensures.space (omega (arith, few, count, more)) top in
    let regions = c.set_top.ensures below last parts ∙ ap (λ t. below ++ record last { top = t } ∷ []) space.1 in
    (below, last, parts, space.0, (λ i. record s { regions = regions i; beyond = space.2 i }))
