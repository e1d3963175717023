use Rattle.std.proofs.Common.{◌≡◌, ℕ, ◌+◌, ◌-◌, ◌<◌, ◌^◌, length, take, drop, get_or, arith, ap, subst, sym, ◌∙◌, Contains}
use Rattle.std.proofs.Common.{length-take-le, length-drop}
use Rattle.std.proofs.lemmas.List.{get_or-take, get_or-drop}
use Rattle.g1_words.specs.Heap.{object_at, word}
use Rattle.g1_words.specs.Layout.{forward, moved_to}
use Rattle.g1_words.specs.Copy.{renamed, renamed_words}
use Rattle.g1_copy.specs.Plans.{Moving}
use Rattle.g1_copy.proofs.GatheringCopies.{IsThere, plan_there, renamed_is_copy}
use Rattle.g1_copy.proofs.Plans.{places_of_plan}
use Rattle.g1_copy.proofs.gathering.copy.Goals as goal
use Rattle.g1_copy.proofs.gathering.copy.Goals.{After-moving}

-- the survivor stands in the heap
there : (c : After-moving) → IsThere c.moving.inside.heap.now (moved_to c.moving.inside.plan.now.survivors c.moving.inside.plan.now.places) c.args.object.now
there c =
    let o = c.args.object.now in
    plan_there c.moving.inside.heap.now c.moving.inside.plan.now o c.moving.invariant.0 c.moving.invariant.1
    (c.requires.object ∙ ap (λ (m : Moving). object_at m.heap o.at) (sym c.moving.view_is))
    (subst (λ (m : Moving). Contains m.plan.survivors c.args.object.now.at) (sym c.moving.view_is) c.requires.survivor)

pub words_of-requires : goal.words_of-requires
words_of-requires c = (there (goal.at.words_of-requires c).After-moving).object

pub rename-requires-clause-fits : goal.rename-requires-clause-fits
rename-requires-clause-fits c =
    let t = there (goal.at.rename-requires-clause-fits c).After-moving in
    omega (arith, t.refs_fit, c.requires.size, c.copy_from_slice.ensures.len)

pub rename-requires-clause-in_words : goal.rename-requires-clause-in_words
rename-requires-clause-in_words c k some le =
    let h = c.moving.inside.heap.now in
    let o = c.args.object.now in
    let t = there (goal.at.rename-requires-clause-in_words c).After-moving in
    let n : ℕ = o.at + o.size - o.at in
    let read : get_or c.copy_from_slice.new.self k 0 ≡ word h (o.at + k) =
    ap (λ zs. get_or zs k 0) (c.copy_from_slice.ensures.after ∙ c.words_of.ensures)
    ∙ get_or-take n (drop o.at h.words) k 0 (omega (arith, t.refs_fit))
    ∙ get_or-drop o.at h.words k 0 in
    subst (λ x. renamed (moved_to c.moving.inside.plan.now.survivors c.moving.inside.plan.now.places) x < 2 ^ 64) (sym read) (t.slots k some le)

pub returns : goal.returns
returns c =
    let h = c.moving.inside.heap.now in
    let p = c.moving.inside.plan.now in
    let o = c.args.object.now in
    let t = there (goal.at.returns c).After-moving in
    let n : ℕ = o.at + o.size - o.at in
    let from : c.copy_from_slice.new.self ≡ take n (drop o.at h.words) = c.copy_from_slice.ensures.after ∙ c.words_of.ensures in
    renamed_is_copy (moved_to p.survivors p.places) h o n c.copy_from_slice.new.self c.rename.new.words t.refs_fit (omega (arith, c.requires.size)) from
    (omega (arith, c.requires.size, c.copy_from_slice.ensures.len, c.rename.auto.words)) c.rename.ensures.slots c.rename.ensures.rest
    ∙ ap (λ ps. renamed_words (moved_to p.survivors ps) h o) (places_of_plan h p c.moving.invariant.1) ∙ ap (λ (m : Moving). renamed_words (forward m.heap m.plan.survivors) m.heap o) c.moving.view_is

pub copy_from_slice-requires : goal.copy_from_slice-requires
copy_from_slice-requires c =
    let o = c.args.object.now in
    let ws = c.moving.inside.heap.now.words in
    let t = there (goal.at.copy_from_slice-requires c).After-moving in
    let n : ℕ = o.at + o.size - o.at in
    let many : length (take n (drop o.at ws)) ≡ n = length-take-le n (drop o.at ws) (omega (arith, t.within, length-drop o.at ws)) in
    omega (arith, c.requires.size, ap length c.words_of.ensures, many)
