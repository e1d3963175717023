use Rattle.std.proofs.Common.{◌≡◌, [], ℕ, refl, arith, slice_index, get_or, length, subst}
use Rattle.g1_words.specs.Heap.{Heap}
use Rattle.g1_explain.specs.Finders.{object_leads, found_leads}
use Rattle.g1_explain.specs.Keepers.{AreKept, leads_in}
use Rattle.g1_explain.proofs.Keepers.{kept_none, kept_number_more}
use Rattle.g1_explain.proofs.Meets.{slots_leads_are}
use Rattle.g1_explain.proofs.humongous.keep_by_survivors.Goals as goal

pub loop-index-init : goal.loop-index-init
loop-index-init c = λ are. kept_none (leads_in c.args.heap.now []) c.args.keepers.now (λ r. refl)

pub loop-index-preserved : goal.loop-index-preserved
loop-index-preserved c = λ are.
    let h : Heap = c.args.heap.now in
    let j : ℕ = c.loop-index.index in
    let a : ℕ = get_or c.args.survivors.now j 0 in
    let there = are j 0 (omega (arith, c.loop-index-test.true)) in
    kept_number_more h (λ m. object_leads h m (slice_index c.args.survivors.now m)) c.args.keepers.now c.loop-index.keepers c.keep_by_slots.new.keepers j (c.loop-index.invariant are)
    (subst (λ ls. AreKept (leads_in h ls) c.loop-index.keepers c.keep_by_slots.new.keepers)
    (slots_leads_are h j a c.slots_at.result.now (c.slots_at.ensures.count there) (c.slots_at.ensures.each there)) c.keep_by_slots.ensures)

pub returns : goal.returns
returns c = λ are.
    let all : c.loop-index.index ≡ length c.args.survivors.now = omega (arith, c.loop-index-test.false, c.loop-index.auto.index-end) in
    subst (λ n. AreKept (leads_in c.args.heap.now (found_leads c.args.heap.now c.args.survivors.now n)) c.args.keepers.now c.loop-index.keepers) all (c.loop-index.invariant are)
