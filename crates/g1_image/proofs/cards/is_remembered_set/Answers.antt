use Rattle.std.proofs.Common.{◌≡◌, ◌≢◌, ◌<◌, ◌+◌, ◌-◌, ◌*◌, ◌/◌, true, false, slice_index, inl, inr, refl, sym, ap, subst, ◌∙◌, arith, below_more}
use Rattle.std.specs.Prelude.{IsTrue}
use Rattle.std.proofs.lemmas.List.{get_or_default}
use Rattle.std.proofs.lemmas.Bool.{cases_lt}
use Rattle.g1_image.specs.Image.{IsUsedCard, MayHoldCards, region_of_card}
use Rattle.g1_image.proofs.cards.is_remembered_set.Goals as goal
use Rattle.g1_image.proofs.cards.is_remembered_set.Goals.{else-cards-gt0-via-then-cards-gt0+else-not-may_hold_cards, else-cards-gt0-via-else-cards-gt0}
use Rattle.g1_image.proofs.cards.is_remembered_set.Goals.{else-i-gt0-via-then-i-gt0+else-cards-i, else-i-gt0-via-else-i-gt0}

pub loop-i-init : goal.loop-i-init
loop-i-init c = record { rising = λ k lt. absurd (omega arith); elsewhere = λ k lt. absurd (omega arith) }

no_truth : {X : Type 0} → IsTrue false → X
no_truth t = let clash : false ≡ true = t in cc

pub returns-then-not-may_hold_cards : goal.returns-then-not-may_hold_cards
returns-then-not-may_hold_cards c = (
  no_truth,
  λ s. c.if-not-may_hold_cards.ensures.1 (subst (λ q. MayHoldCards q.kind) (sym c.region.ensures) (s.owner c.if-cards-gt0.true)),
)

pub returns-then-not-is_used : goal.returns-then-not-is_used
returns-then-not-is_used c = (no_truth, λ s. c.if-not-is_used.ensures.1 (s.elsewhere c.loop-i.i 0 c.loop-i-test.true).0)

pub returns-then-region_of_card-from : goal.returns-then-region_of_card-from
returns-then-region_of_card-from c =
    let h = c.args.draft.now in
    let place : c.region_of_card.result ≡ region_of_card h (slice_index c.args.cards.now c.loop-i.i) = c.region_of_card.ensures.value ∙ ap (λ g. slice_index c.args.cards.now c.loop-i.i * g.k / g.w) c.geometry-geometry.ensures.same in
    (no_truth, λ s. absurd ((s.elsewhere c.loop-i.i 0 c.loop-i-test.true).1 (sym place ∙ c.if-region_of_card-from.true ∙ c.from.ensures)))

pub returns-then-cards-i : goal.returns-then-cards-i
returns-then-cards-i c =
    let here : c.loop-i.i - 1 + 1 ≡ c.loop-i.i = omega (arith, c.if-i-gt0.true) in
    (no_truth, λ s. absurd (omega (arith, s.rising (c.loop-i.i - 1) (omega (arith, here, c.loop-i-test.true)), ap (slice_index c.args.cards.now) here, c.if-cards-i.true)))

pub returns : goal.returns
returns c =
    let h = c.args.draft.now in
    let cards = c.args.cards.now in (
      λ t. record {
        rising = λ k lt. c.loop-i.invariant.rising k (omega (arith, lt, c.loop-i-test.false));
        elsewhere = λ k d lt. subst (λ x. IsUsedCard h x × (region_of_card h x ≢ c.args.r)) (get_or_default cards k 0 d lt) (c.loop-i.invariant.elsewhere k (omega (arith, lt, c.loop-i-test.false)));
        count = c.requires.count;
        owner = λ some. elim c.else-cards-gt0.branch [
          | else-cards-gt0-via-then-cards-gt0+else-not-may_hold_cards v ↦ subst (λ q. MayHoldCards q.kind) v.region.ensures (v.if-not-may_hold_cards.ensures.0 refl)
          | else-cards-gt0-via-else-cards-gt0 v ↦ absurd (omega (arith, v.if-cards-gt0.false, some))
        ];
      },
      λ s. refl,
    )

pub loop-i-preserved : goal.loop-i-preserved
loop-i-preserved c =
    let h = c.args.draft.now in
    let cards = c.args.cards.now in
    let place : c.region_of_card.result ≡ region_of_card h (slice_index c.args.cards.now c.loop-i.i) = c.region_of_card.ensures.value ∙ ap (λ g. slice_index c.args.cards.now c.loop-i.i * g.k / g.w) c.geometry-geometry.ensures.same in
    record {
      rising = λ q lt. elim (cases_lt (q + 1) c.loop-i.i) [
        | inl l ↦ c.loop-i.invariant.rising q l
        | inr ge ↦
            let before : q ≡ c.loop-i.i - 1 = omega arith in
            let here : q + 1 ≡ c.loop-i.i = omega arith in
            elim c.else-i-gt0.branch [
              | else-i-gt0-via-then-i-gt0+else-cards-i v ↦ subst (λ k. slice_index cards q < slice_index cards k) (sym here) (subst (λ k. slice_index cards k < slice_index cards c.loop-i.i) (sym before) v.if-cards-i.false)
              | else-i-gt0-via-else-i-gt0 v ↦ absurd (omega (arith, v.if-i-gt0.false))
            ]
      ];
      elsewhere = below_more _ _ c.loop-i.invariant.elsewhere (c.if-not-is_used.ensures.0 refl, λ e. c.if-region_of_card-from.false (place ∙ e ∙ sym c.from.ensures));
    }

pub loop-i-smaller : goal.loop-i-smaller
loop-i-smaller c = omega (arith, c.loop-i-test.true)
