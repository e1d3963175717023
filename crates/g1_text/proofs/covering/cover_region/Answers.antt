use Rattle.std.proofs.Common.{◌≡◌, ◌+◌, ◌*◌, ◌++◌, ℕ, map, arith, sym, ap, subst, ◌∙◌, Vec, Global}
use Rattle.std.specs.List.{range_with_len}
use Rattle.g1_text.specs.Covered.{LeadEach}
use Rattle.g1_text.proofs.Remembering.{taking_start, taking_end, taking_rest, taking_slots, taking_step, some_read, fits_read, slots_read}
use Rattle.g1_text.proofs.covering.cover_region.Goals as goal

pub loop-at-init : goal.loop-at-init
loop-at-init c = λ i same lt is stand l.
    let from = c.start_of-start.ensures.value (omega (arith, lt, l.image.heap.limits.n_most)) ∙ ap (λ g. c.args.number * g.w) same in
    let ends = c.objects_end-end.ensures i.heap c.args.number l.image.heap lt is from stand in
    taking_start i c.args.number c.start_of-start.result c.objects_end-end.result (map (λ (v : Vec ℕ Global). v.items) c.args.remembered.now.items) lt ends l

pub loop-at-preserved : goal.loop-at-preserved
loop-at-preserved c = λ i same lt is stand l.
    let q = c.args.number in
    let at = c.loop-at.at in
    let to = c.objects_end-end.result in
    let sets = map (λ (v : Vec ℕ Global). v.items) c.loop-at.remembered.items in
    let words = c.args.words.now in
    let unused = c.args.unused in
    let more = c.loop-at-test.true in
    let t = c.loop-at.invariant i same lt is stand l in
    let fits = fits_read i q at to sets lt t more words unused stand in
    let size = c.header_at-size.ensures.size (some_read i q at to sets lt t more words unused stand) in
    let count = c.header_at-size.ensures.slots in
    let first : c.saturating_add-first.result ≡ c.loop-at.at + 1 = omega (arith, c.saturating_add-first.ensures, fits.1) in
    let rest = taking_rest i q at to sets lt t more words unused stand in
    let taken = taking_slots i q at to sets lt t more words unused stand in
    let ahead = subst (λ a. LeadEach i (range_with_len a c.header_at-size.result.1 ++ rest) sets) (sym first) (subst (λ n. LeadEach i (range_with_len (at + 1) n ++ rest) sets) (sym count) taken) in
    let done = c.in_ok-cover_slots.ensures i rest same (omega (arith, first, count, fits.1))
    (λ p le less. slots_read i q at to sets lt t more words unused stand p (omega (arith, le, first)) (omega (arith, less, first, count))) ahead in
    taking_step i q at to sets lt t more words unused stand c.saturating_add-at.result (map (λ (v : Vec ℕ Global). v.items) c.cover_slots.new.remembered.items)
    (omega (arith, c.saturating_add-at.ensures, size, fits.0)) done

pub returns : goal.returns
returns c = λ i same lt is stand l.
    taking_end i c.args.number c.loop-at.at c.objects_end-end.result (map (λ (v : Vec ℕ Global). v.items) c.loop-at.remembered.items) (c.loop-at.invariant i same lt is stand l)
    (omega (arith, c.loop-at-test.false))
