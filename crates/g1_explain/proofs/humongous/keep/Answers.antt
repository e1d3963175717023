use Rattle.std.proofs.Common.{◌≡◌, ◌∙◌, ◌/◌, suc, ap, arith, sym}
use Rattle.std.proofs.lemmas.Bool.{false≢true}
use Rattle.g1_words.specs.Geometry.{Geometry}
use Rattle.g1_explain.proofs.humongous.keep.Goals.{else-region-keepers-via-then-region-keepers+else-is_nothing, else-region-keepers-via-else-region-keepers}
use Rattle.g1_explain.proofs.humongous.keep.Goals as goal
use Rattle.g1_explain.proofs.Keepers.{kept_one, kept_not, beyond}

pub returns-then-is_nothing : goal.returns-then-is_nothing
returns-then-is_nothing c =
    let e : c.args.word ≡ suc c.in-Some.target = omega (arith, c.in-Some.ensures) in
    let home = c.region_of-region.ensures ∙ ap (λ (g : Geometry). c.in-Some.target / g.w) c.geometry.ensures.same in
    kept_one c.args.heap.now c.args.keepers.now c.args.finder c.args.word c.in-Some.target c.region_of-region.result e home c.if-region-keepers.true
    (c.is_nothing.ensures.fact.0 c.if-is_nothing.true)

pub returns-else-region-keepers : goal.returns-else-region-keepers
returns-else-region-keepers c =
    let e : c.args.word ≡ suc c.in-Some.target = omega (arith, c.in-Some.ensures) in
    let home = c.region_of-region.ensures ∙ ap (λ (g : Geometry). c.in-Some.target / g.w) c.geometry.ensures.same in
    kept_not c.args.heap.now c.args.keepers.now c.args.finder c.args.word c.in-Some.target c.region_of-region.result e home
    (elim c.else-region-keepers.branch [
      | else-region-keepers-via-then-region-keepers+else-is_nothing w ↦ λ k. false≢true (sym w.if-is_nothing.false ∙ w.is_nothing.ensures.fact.1 k)
      | else-region-keepers-via-else-region-keepers w ↦ beyond c.args.keepers.now c.region_of-region.result (omega (arith, w.if-region-keepers.false))
    ])
