use Rattle.std.proofs.Common.{◌≡◌, ◌<◌, ◌-◌, ◌*◌, false, true, inl, inr, length, ap, ◌∙◌, arith}
use Rattle.std.proofs.lemmas.Bool.{cases_lt}
use Rattle.g1_words.specs.Heap.{region, start}
use Rattle.g1_image.proofs.Rows.{start_in}
use Rattle.g1_image.proofs.starts.latest.Goals as goal

pub loop-first-init : goal.loop-first-init
loop-first-init c = (omega arith, λ q ge lt. absurd (omega (arith, ge, lt)))

pub loop-first-preserved : goal.loop-first-preserved
loop-first-preserved c = (
  omega (arith, c.loop-first.invariant.0),
  λ q ge lt. elim (cases_lt (c.loop-first.first - 1) q) [
    | inl behind ↦ c.loop-first.invariant.1 q (omega (arith, behind)) lt
    | inr at ↦
        let here : c.loop-first.first - 1 ≡ q = omega (arith, ge, at) in
        λ e. let none : false ≡ true = c.if-is_humongous_first.ensures.1 (ap (λ x. x.kind) c.region.ensures ∙ ap (λ k. (region c.args.draft.now k).kind) here ∙ e) in cc
  ],
)

pub loop-first-smaller : goal.loop-first-smaller
loop-first-smaller c = omega (arith, c.loop-first-test.true)

pub region-requires : goal.region-requires
region-requires c = omega (arith, c.loop-first-test.true, c.loop-first.invariant.0, c.requires)

pub header-requires : goal.header-requires
header-requires c =
    let h = c.args.draft.now in
    let r = c.loop-first.first - 1 in
    let there : r < h.geometry.n = omega (arith, c.loop-first-test.true, c.loop-first.invariant.0, c.requires) in
    let place : c.start-start.result ≡ start h r = c.start-start.ensures.value ∙ ap (λ g. r * g.w) c.geometry.ensures.same in
    omega (arith, place, start_in h r c.geometry.ensures.draft.limits.w_least there, c.words.ensures.draft.word_count, ap length c.words.ensures.same)

pub returns-then-is_humongous_first-clause-order : goal.returns-then-is_humongous_first-clause-order
returns-then-is_humongous_first-clause-order c = omega (arith, c.loop-first.invariant.0)

pub returns-clause-order : goal.returns-clause-order
returns-clause-order c = omega arith

pub returns-clause-latest : goal.returns-clause-latest
returns-clause-latest c = λ _. record {
  none = λ _ q lt. c.loop-first.invariant.1 q (omega (arith, c.loop-first-test.false)) lt;
  before = λ some. absurd (omega (arith, some));
  object = λ some. absurd (omega (arith, some));
  last = λ some. absurd (omega (arith, some));
}
