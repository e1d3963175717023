use Rattle.std.proofs.Common.{◌≡◌, ◌≢◌, ℕ, true, inl, not, eqb, eqb-true, arith, ap, sym, ◌∙◌, false}
use Rattle.std.proofs.lemmas.Bool.{false≢true, ltb-true, lt-ltb, ltb-false, ne_eqb, not-false}
use Rattle.g1_words.specs.declared.region.Region.{Region}
use Rattle.g1_words.specs.declared.region.Kind.TheVariants.{Ordinary}
use Rattle.g1_words.specs.Heap.{kind, top}
use Rattle.g1_words.proofs.Logic.{differs}
use Rattle.g1_kept.proofs.Regions.{filled_above, lower_top, changed_top, other_changed}
use Rattle.g1_same.proofs.Held.{after_valid, before_valid}
use Rattle.g1_kept.proofs.tables.has_other_top.Goals as goal
use Rattle.g1_kept.proofs.tables.has_other_top.Goals.{else-fill-via-then-fill+else-is_ordinary, else-fill-via-else-fill}

equal : (a b : ℕ) → not (eqb a b) ≡ false → a ≡ b
equal a b e = eqb-true a b (not-false (eqb a b) e)

unequal : (a b : ℕ) → a ≢ b → not (eqb a b) ≡ true
unequal a b other = ap not (ne_eqb a b other)

pub returns-then-is_ordinary-clause-other : goal.returns-then-is_ordinary-clause-other
returns-then-is_ordinary-clause-other c =
    let g = c.args.heaps.before.now in
    let h = c.args.heaps.after.now in
    let r : ℕ = c.args.number in
    let new : top h r ≡ c.region-new.result.top = sym (ap (λ (q : Region). q.top) c.region-new.ensures) in
    let old : top g r ≡ c.region-old.result.top = sym (ap (λ (q : Region). q.top) c.region-old.ensures) in
    let ordinary : kind g r ≡ Ordinary = sym (ap (λ (q : Region). q.kind) c.region-old.ensures) ∙ c.is_ordinary.ensures.fact.0 c.if-is_ordinary.true in (
      λ e. let lt = ltb-true c.region-new.result.top c.region-old.result.top e in inl (omega (arith, lt, new, old)),
      λ o.
          let lt = lower_top c.args.fill g h r (before_valid c.args.heaps) (after_valid c.args.heaps) c.requires.sizes c.requires.region c.if-fill.true ordinary o in
          lt-ltb c.region-new.result.top c.region-old.result.top (omega (arith, lt, new, old)),
    )

pub returns-then-is_ordinary-clause-above : goal.returns-then-is_ordinary-clause-above
returns-then-is_ordinary-clause-above c = λ e i le less.
    let g = c.args.heaps.before.now in
    let ordinary : kind g c.args.number ≡ Ordinary = sym (ap (λ (q : Region). q.kind) c.region-old.ensures) ∙ c.is_ordinary.ensures.fact.0 c.if-is_ordinary.true in
    filled_above c.args.fill g c.args.heaps.after.now c.args.number (before_valid c.args.heaps) (after_valid c.args.heaps) c.requires.sizes c.requires.region c.if-fill.true ordinary i le less

pub returns-else-fill-clause-other : goal.returns-else-fill-clause-other
returns-else-fill-clause-other c =
    let g = c.args.heaps.before.now in
    let h = c.args.heaps.after.now in
    let r : ℕ = c.args.number in
    let new : top h r ≡ c.region-new.result.top = sym (ap (λ (q : Region). q.top) c.region-new.ensures) in
    let old : top g r ≡ c.region-old.result.top = sym (ap (λ (q : Region). q.top) c.region-old.ensures) in
    let old_kind : kind g r ≡ c.region-old.result.kind = sym (ap (λ (q : Region). q.kind) c.region-old.ensures) in
    let unfilled : c.args.fill ≡ true → kind g r ≡ Ordinary → ⊥ = λ may ordinary. elim c.else-fill.branch [
      | else-fill-via-then-fill+else-is_ordinary w ↦ false≢true (sym w.if-is_ordinary.false ∙ w.is_ordinary.ensures.fact.1 (sym old_kind ∙ ordinary))
      | else-fill-via-else-fill w ↦ false≢true (sym w.if-fill.false ∙ may)
    ] in (
      λ e.
          let other : top h r ≢ top g r = λ same. differs c.region-new.result.top c.region-old.result.top e (sym new ∙ same ∙ old) in
          changed_top c.args.fill g h r (before_valid c.args.heaps) (after_valid c.args.heaps) c.requires.sizes c.requires.region c.requires.used unfilled other,
      λ o.
          let other = other_changed c.args.fill g h r (before_valid c.args.heaps) (after_valid c.args.heaps) c.requires.sizes c.requires.region o in
          unequal c.region-new.result.top c.region-old.result.top (λ same. other (new ∙ same ∙ sym old)),
    )

pub returns-then-is_ordinary-clause-filled : goal.returns-then-is_ordinary-clause-filled
returns-then-is_ordinary-clause-filled c = λ e.
    let new : top c.args.heaps.after.now c.args.number ≡ c.region-new.result.top = sym (ap (λ (q : Region). q.top) c.region-new.ensures) in
    let old : top c.args.heaps.before.now c.args.number ≡ c.region-old.result.top = sym (ap (λ (q : Region). q.top) c.region-old.ensures) in
    let le = ltb-false c.region-new.result.top c.region-old.result.top e in
    omega (arith, new, old, le)

pub returns-else-fill-clause-filled : goal.returns-else-fill-clause-filled
returns-else-fill-clause-filled c = λ e.
    let new : top c.args.heaps.after.now c.args.number ≡ c.region-new.result.top = sym (ap (λ (q : Region). q.top) c.region-new.ensures) in
    let old : top c.args.heaps.before.now c.args.number ≡ c.region-old.result.top = sym (ap (λ (q : Region). q.top) c.region-old.ensures) in
    let same = equal c.region-new.result.top c.region-old.result.top e in
    omega (arith, new, old, same)

pub returns-else-fill-clause-above : goal.returns-else-fill-clause-above
returns-else-fill-clause-above c = λ e i le less.
    let new : top c.args.heaps.after.now c.args.number ≡ c.region-new.result.top = sym (ap (λ (q : Region). q.top) c.region-new.ensures) in
    let old : top c.args.heaps.before.now c.args.number ≡ c.region-old.result.top = sym (ap (λ (q : Region). q.top) c.region-old.ensures) in
    let same = equal c.region-new.result.top c.region-old.result.top e in
    absurd (omega (arith, new, old, same, le, less))
