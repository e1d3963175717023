use Rattle.std.proofs.Common.{◌≡◌, ◌<◌, ◌≤◌, ◌^◌, ◌∙◌, ◌++◌, ℕ, List, map, get_or, length, set, append-nil, sym, ap, subst, arith}
use Rattle.std.proofs.lemmas.List.{drop_all, length-set, take_all}
use Rattle.std.proofs.lemmas.List.Edits.{map_over_more}
use Rattle.g1_words.specs.Copy.{renamed}
use Rattle.g1_words.specs.Layout.{moved_to}
use Rattle.g1_words.specs.Valid.{IsValid}
use Rattle.g1_copy.specs.Plans.{Moving}
use Rattle.g1_copy.proofs.PatchesRenamed.{leads_fit, leads_renamed, still_there}
use Rattle.g1_copy.proofs.patching.rename_slots.Goals as goal

pub loop-index-smaller : goal.loop-index-smaller
loop-index-smaller c = omega (arith, c.loop-index-test.true)

pub rename_reference-requires : goal.rename_reference-requires
rename_reference-requires c =
    let old : List (ℕ × ℕ) = c.args.slots.now.items in
    let i : ℕ = c.loop-index.index in
    let p = c.args.moving.now.plan in
    let goes : ℕ × ℕ → ℕ × ℕ = λ (x : ℕ × ℕ). (x.0, renamed (moved_to p.survivors p.places) x.1) in
    let lt : i < length old = omega (arith, c.loop-index-test.true, c.loop-index.invariant.long) in
    let x : ℕ × ℕ = c.index-slot.result.now in
    let read : x ≡ get_or old i x = c.index-slot.ensures ∙ still_there goes old c.loop-index.slots.items i x lt c.loop-index.invariant.slots in
    subst (λ (v : Moving). renamed (moved_to v.plan.survivors v.plan.places) x.1 < 2 ^ 64) (sym c.moving.view_is)
    (subst (λ (y : ℕ × ℕ). renamed (moved_to p.survivors p.places) y.1 < 2 ^ 64) (sym read)
    (leads_fit c.args.moving.now.heap p (subst (λ (v : Moving). IsValid v.heap) c.moving.view_is c.moving.invariant.0) c.requires.plan old c.requires.leads i x lt))

pub loop-index-preserved : goal.loop-index-preserved
loop-index-preserved c =
    let old : List (ℕ × ℕ) = c.args.slots.now.items in
    let i : ℕ = c.loop-index.index in
    let p = c.args.moving.now.plan in
    let goes : ℕ × ℕ → ℕ × ℕ = λ (x : ℕ × ℕ). (x.0, renamed (moved_to p.survivors p.places) x.1) in
    let lt : i < length old = omega (arith, c.loop-index-test.true, c.loop-index.invariant.long) in
    let x : ℕ × ℕ = c.index-slot.result.now in
    let new : ℕ × ℕ = (x.0, c.rename_reference.result) in
    let made : new ≡ goes x = ap (λ (y : ℕ). (x.0, y)) (c.rename_reference.ensures ∙ ap (λ (v : Moving). renamed (moved_to v.plan.survivors v.plan.places) x.1) c.moving.view_is) in
    record {
      slots = ap (set c.loop-index.slots.items i) made ∙ map_over_more goes old c.loop-index.slots.items i x lt c.loop-index.invariant.slots c.index-slot.ensures;
      long = length-set c.loop-index.slots.items i new ∙ c.loop-index.invariant.long;
    }

pub returns : goal.returns
returns c =
    let old : List (ℕ × ℕ) = c.args.slots.now.items in
    let i : ℕ = c.loop-index.index in
    let p = c.args.moving.now.plan in
    let goes : ℕ × ℕ → ℕ × ℕ = λ (x : ℕ × ℕ). (x.0, renamed (moved_to p.survivors p.places) x.1) in
    let all : length old ≤ i = omega (arith, c.loop-index-test.false, c.loop-index.invariant.long) in
    leads_renamed c.args.moving.now.heap p (subst (λ (v : Moving). IsValid v.heap) c.moving.view_is c.moving.invariant.0) c.requires.plan old c.loop-index.slots.items c.requires.leads
    (c.loop-index.invariant.slots ∙ (λ k. map goes (take_all i old all k) ++ drop_all i old all k) ∙ append-nil (map goes old))
