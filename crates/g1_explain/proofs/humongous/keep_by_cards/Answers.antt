use Rattle.std.proofs.Common.{◌≡◌, ◌∙◌, ℕ, List, [], map, subst, ap, arith}
use Rattle.std.specs.Prelude.{nat_lt, slice_index_or, if◌then◌else◌, ◌==◌}
use Rattle.g1_words.specs.Heap.{Heap}
use Rattle.g1_words.specs.Geometry.{Geometry}
use Rattle.g1_explain.specs.Keepers.{AreKept, leads_on}
use Rattle.g1_explain.proofs.Keepers.{kept_below_none, kept_below_more}
use Rattle.g1_explain.proofs.humongous.keep_by_cards.Goals as goal

pub loop-region-init : goal.loop-region-init
loop-region-init c = kept_below_none (λ r. leads_on c.args.walkable.now.heap c.args.set.now r (slice_index_or (map (λ s. s.items) c.args.refined.now) r [])) c.args.keepers.now

pub loop-region-preserved : goal.loop-region-preserved
loop-region-preserved c =
    let h : Heap = c.args.walkable.now.heap in
    let n : ℕ = c.loop-region.region in
    kept_below_more (λ r. leads_on h c.args.set.now r (slice_index_or (map (λ s. s.items) c.args.refined.now) r [])) c.args.keepers.now c.loop-region.keepers c.keep_by_slots_on.new.keepers n
    c.loop-region.invariant
    (subst (λ (cs : List ℕ). AreKept (λ r. if r == n then leads_on h c.args.set.now n cs else []) c.loop-region.keepers c.keep_by_slots_on.new.keepers) c.cards_of-cards.ensures c.keep_by_slots_on.ensures)

pub returns : goal.returns
returns c =
    let h : Heap = c.args.walkable.now.heap in
    let n : c.regions-region-end.result ≡ h.geometry.n = c.regions-region-end.ensures.value ∙ ap (λ (g : Geometry). g.n) c.geometry.ensures.same ∙ ap (λ (g : Heap). g.geometry.n) c.heap.ensures.same in
    subst (λ m. AreKept (λ r. if nat_lt r m then leads_on h c.args.set.now r (slice_index_or (map (λ s. s.items) c.args.refined.now) r []) else []) c.args.keepers.now c.loop-region.keepers)
    (let e : c.loop-region.region ≡ c.regions-region-end.result = omega (arith, c.loop-region-test.false, c.loop-region.auto.region-end) in e ∙ n) c.loop-region.invariant
