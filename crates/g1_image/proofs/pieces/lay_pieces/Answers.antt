use Rattle.std.proofs.Common.{◌≡◌, ◌≤◌, ◌<◌, ◌+◌, ◌-◌, ◌*◌, length, slice_index_or, arith, inl, inr, subst, sym, ◌∙◌}
use Rattle.std.proofs.lemmas.Bool.{cases_lt}
use Rattle.std.proofs.lemmas.List.{length-map}
use Rattle.g1_words.specs.declared.region.Region.{Region}
use Rattle.g1_image.specs.Image.{region_of_entry}
use Rattle.g1_image.proofs.Reached.{laid_length, entry_there}
use Rattle.std.proofs.Math.Nat.{mul-le-mul_right}
use Rattle.std.proofs.lemmas.Result.{err_from_is_err_and}
use Rattle.g1_image.specs.Text.{Entry, table_words}
use Rattle.g1_image.specs.Growing.{laid_words}
use Rattle.g1_image.proofs.Taken.{fails_after}
use Rattle.g1_image.proofs.Laid.{table_words-next, laid_more, laid_all}
use Rattle.g1_image.proofs.pieces.lay_pieces.Goals as goal

pub overflow_sub-left : goal.overflow_sub-left
overflow_sub-left g c = omega (arith, c.loop-e.invariant.within, c.table_words-total.ensures.value)

pub push_region-requires-clause-sizes : goal.push_region-requires-clause-sizes
push_region-requires-clause-sizes g c =
    let within : c.loop-e.e-index + 1 ≤ length c.args.table.now = omega (arith, c.loop-e-test.true) in
    omega (arith, c.loop-e.invariant.zeros, mul-le-mul_right c.args.w within, c.requires.sizes)

pub push_region-requires-clause-small : goal.push_region-requires-clause-small
push_region-requires-clause-small g c = omega (arith, c.table_words-total.ensures.bound)

pub push_region-requires-clause-there : goal.push_region-requires-clause-there
push_region-requires-clause-there g c =
    let none : Entry = record { kind = 0; top = 0; flags = 0 } in
    let next = table_words-next c.args.table.now c.loop-e.e-index none c.loop-e-test.true in
    omega (arith, c.loop-e.invariant.taken, next.1, c.table_words-total.ensures.value)

pub overflow_add-taken : goal.overflow_add-taken
overflow_add-taken g c =
    let none : Entry = record { kind = 0; top = 0; flags = 0 } in
    let next = table_words-next c.args.table.now c.loop-e.e-index none c.loop-e-test.true in
    omega (arith, c.loop-e.invariant.taken, c.from.ensures, next.1, c.table_words-total.ensures.value, c.table_words-total.ensures.bound)

pub loop-e-preserved : goal.loop-e-preserved
loop-e-preserved g c =
    let none : Entry = record { kind = 0; top = 0; flags = 0 } in
    let table = c.args.table.now in
    let i = c.loop-e.e-index in
    let before = c.loop-e.invariant in
    let here = c.in_ok-push_region.ensures in
    let next = table_words-next table i none c.loop-e-test.true in
    record {
      known = c.push_region.ensures.known;
      zeros = omega (arith, before.zeros, here.zeros);
      taken = omega (arith, before.taken, c.from.ensures, next.0);
      within = omega (arith, before.taken, c.from.ensures, next.1);
      reached = λ r i lt small few. elim (cases_lt r c.loop-e.e-index) [
        | inl before_it ↦ omega (arith, before.reached r i before_it small few, here.longer)
        | inr not_before ↦
            let same : r ≡ c.loop-e.e-index = omega (arith, lt, not_before) in
            let top : i < (slice_index_or table c.loop-e.e-index none).top = subst (λ q. i < (slice_index_or table q none).top) same few in
            let all = laid_length _ _ _ _ c.args.w table c.loop-e.e-index (laid_words c.loop-e.laid) before.part (omega (arith, c.loop-e-test.true)) in
            let here_it : c.loop-e.e-index * c.args.w + i < length c.push_region.new.laid.words.items = omega (arith, all, here.used i small top) in
            subst (λ q. q * c.args.w + i < length c.push_region.new.laid.words.items) (sym same) here_it
      ];
      part = laid_more _ _ _ _ _ _ c.args.w table i none (laid_words c.loop-e.laid) (laid_words c.push_region.new.laid) here.ok.0 before.part c.loop-e-test.true here.ok.1 here.ok.2 here.ok.3;
    }

pub push_region-requires-clause-known : goal.push_region-requires-clause-known
push_region-requires-clause-known g c = c.loop-e.invariant.known

pub returns-in_err-push_region-clause-known : goal.returns-in_err-push_region-clause-known
returns-in_err-push_region-clause-known g c = c.push_region.ensures.known

pub returns-in_err-push_region-clause-err : goal.returns-in_err-push_region-clause-err
returns-in_err-push_region-clause-err g c =
    let left = err_from_is_err_and c.from_residual.result c.from_residual.ensures.1 in
    let part = c.loop-e.invariant.part in
    let total = c.table_words-total.result in
    let most : length part.taken + 8 * (total - c.loop-e.taken) ≤ 8 * table_words c.args.table.now =
    omega (arith, part.size, c.loop-e.invariant.taken, c.loop-e.invariant.within, c.table_words-total.ensures.value) in
    rw (left.1, left.2) (fails_after _ _ _ _ _ part.taken (8 * (total - c.loop-e.taken)) _ c.in_err-push_region.field-0.0 part.takes c.in_err-push_region.ensures.err most)

pub loop-e-smaller : goal.loop-e-smaller
loop-e-smaller g c = omega (arith, c.loop-e-test.true)

pub returns-in_err-new-clause-known : goal.returns-in_err-new-clause-known
returns-in_err-new-clause-known g c = c.loop-e.invariant.known

pub returns-in_err-new-clause-err : goal.returns-in_err-new-clause-err
returns-in_err-new-clause-err g c =
    let left = err_from_is_err_and c.from_residual-in_err-new.result c.from_residual-in_err-new.ensures.1 in
    rw (left.1, left.2) c.loop-e.invariant.part.takes.mark

pub returns-clause-known : goal.returns-clause-known
returns-clause-known g c = c.loop-e.invariant.known

pub returns-clause-ok : goal.returns-clause-ok
returns-clause-ok g c =
    let all = laid_all _ _ _ _ c.args.w c.args.table.now c.loop-e.e-index (laid_words c.loop-e.laid) c.loop-e.invariant.part c.loop-e-test.false in
    (all.0, all.1, all.2, c.in_ok-new.ensures.0 ∙ all.3)

pub returns-clause-laid : goal.returns-clause-laid
returns-clause-laid g c =
    let table = c.args.table.now in
    let many = length-map table region_of_entry in
    let last = c.in_ok-new.ensures.1 in
    λ r i lt small few.
    let there : r < length table = omega (arith, lt, many) in
    let top = subst (λ (q : Region). i < q.top) (entry_there table r there) few in
    omega (arith, c.loop-e.invariant.reached r i (omega (arith, there, c.loop-e-test.false)) small top, last)
