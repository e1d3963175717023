use Rattle.std.proofs.Common.{◌<◌, ℕ, get_or, length, map, inl, inr, refl, sym, ◌∙◌, ap, subst, arith}
use Rattle.std.specs.Prelude.{None, All}
use Rattle.std.proofs.lemmas.List.{length-map}
use Rattle.g1_text.specs.declared.draft.Told.{Told}
use Rattle.g1_text.specs.Content.{CountsAgree}
use Rattle.g1_text.specs.Drafts.{content, counts_of, line_of_region, numbers}
use Rattle.g1_text.specs.Late.{IsWrongHeading, IsWrongRegion, counts_at}
use Rattle.g1_text.proofs.Counted.{all_counts}
use Rattle.g1_text.proofs.Results.{not_both}
use Rattle.g1_text.proofs.Gathering.{map_at}
use Rattle.g1_text.proofs.settling.settle.Goals as goal

pub returns-in-Err-settle_region-clause-ok : goal.returns-in-Err-settle_region-clause-ok
returns-in-Err-settle_region-clause-ok c = λ agrees.
    let s = content c.args.draft.now in
    let items = c.args.draft.now.lines.regions.items in
    let k = c.loop-told.told-index in
    let none : Told = record { line = 0; region = 0; top = None; objects = None; cards = None; found = 0 } in
    let same = c.deref-told-items.ensures.value in
    let count = length-map items counts_of in
    let all = ap length same in
    let lt : k < length (map counts_of items) = omega (arith, count, all, c.loop-told-test.true) in
    let one = subst (CountsAgree s) (map_at counts_of items k none) (agrees.regions k (counts_of none) lt) in
    absurd (not_both c.in-Err-settle_region.is (c.settle_region.ensures.ok (subst (λ xs. CountsAgree s (counts_of (get_or xs k none))) (sym same) one)))

pub returns-clause-only : goal.returns-clause-only
returns-clause-only c =
    let heading = c.in_default.ensures.only in
    let same = c.deref-told-items.ensures.value in
    let each : (k : ℕ) (d : Told) → k < length c.deref-told-items.result.now → CountsAgree (content c.args.draft.now) (counts_of (get_or c.deref-told-items.result.now k d)) =
    λ k d lt. c.loop-told.invariant k d (omega (arith, lt, c.loop-told-test.false)) in
    let regions = subst (λ ts. All (CountsAgree (content c.args.draft.now)) (map counts_of ts)) same (all_counts (content c.args.draft.now) c.deref-told-items.result.now each) in
    record { roots = heading.roots; dirty = heading.dirty; current = heading.current; regions = regions }

pub returns-in-Err-clause-late : goal.returns-in-Err-clause-late
returns-in-Err-clause-late c =
    let wrong : IsWrongHeading (numbers c.args.draft.now) (content c.args.draft.now) c.args.draft.now.lines.heading.line =
    record { wrong = λ agrees. not_both c.in-Err.is (c.settle_heading.ensures.all agrees); line = refl } in
    inl wrong

pub returns-in-Err-settle_region-clause-late : goal.returns-in-Err-settle_region-clause-late
returns-in-Err-settle_region-clause-late c =
    let d = c.args.draft.now in
    let s = content d in
    let items = d.lines.regions.items in
    let k = c.loop-told.told-index in
    let none : Told = record { line = 0; region = 0; top = None; objects = None; cards = None; found = 0 } in
    let same = c.deref-told-items.ensures.value in
    let count = length-map items counts_of in
    let all = ap length same in
    let lt : k < length s.counts = omega (arith, count, all, c.loop-told-test.true) in
    let this : CountsAgree s (counts_at s k) → CountsAgree s (counts_of (get_or c.deref-told-items.result.now k none)) =
    λ agrees. subst (λ xs. CountsAgree s (counts_of (get_or xs k none))) (sym same) (subst (CountsAgree s) (map_at counts_of items k none) agrees) in
    let above : (q : ℕ) → q < k → CountsAgree s (counts_at s q) =
    λ q less. subst (CountsAgree s) (sym (map_at counts_of items q none)) (subst (λ xs. CountsAgree s (counts_of (get_or xs q none))) same (c.loop-told.invariant q none less)) in
    let line = ap (λ xs. line_of_region (get_or xs k none)) same ∙ sym (map_at line_of_region items k none) in
    let wrong : IsWrongRegion (numbers d) s (get_or c.deref-told-items.result.now k none).line = record {
      heading = c.in_default.ensures.only;
      place = k;
      first = record { within = lt; breach = λ agrees. not_both c.in-Err-settle_region.is (c.settle_region.ensures.ok (this agrees)); before = above };
      line = line;
    } in
    inr (inl wrong)
