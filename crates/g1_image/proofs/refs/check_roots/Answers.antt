use Rattle.std.proofs.Common.{◌≡◌, true, false, refl, sym, ap, subst, length, slice_index, below_more, arith}
use Rattle.g1_words.specs.Valid.{IsReference}
use Rattle.g1_image.proofs.refs.check_roots.Goals as goal

pub overflow_cast-result : goal.overflow_cast-result
overflow_cast-result c = omega (arith, c.loop-i-test.true, c.roots-x-items.ensures.draft.root_count, ap length c.roots-x-items.ensures.same)

pub loop-i-init : goal.loop-i-init
loop-i-init c = λ q lt. absurd (omega arith)

pub loop-i-preserved : goal.loop-i-preserved
loop-i-preserved c = below_more _ _ c.loop-i.invariant (subst (λ l. IsReference c.args.draft.now (slice_index l c.loop-i.i)) c.roots-x-items.ensures.same (c.if-not-is_reference.ensures.0 refl))

pub returns-then-not-is_reference-clause-err : goal.returns-then-not-is_reference-clause-err
returns-then-not-is_reference-clause-err c =
    let same = c.roots-x-items.ensures.same in (
      c.loop-i.i,
      refl,
      record {
        within = omega (arith, c.loop-i-test.true, ap length same);
        breach = λ s. let e : false ≡ true = c.if-not-is_reference.ensures.1 (subst (λ l. IsReference c.args.draft.now (slice_index l c.loop-i.i)) (sym same) s) in cc;
        before = c.loop-i.invariant;
      },
    )

pub returns-clause-ok : goal.returns-clause-ok
returns-clause-ok c = λ i lt. c.loop-i.invariant i (omega (arith, lt, c.loop-i-test.false, ap length c.roots-x-items.ensures.same))

pub loop-i-smaller : goal.loop-i-smaller
loop-i-smaller c = omega (arith, c.loop-i-test.true)
