use Rattle.std.proofs.Common.{◌≡◌, ◌≤◌, ◌+◌, ◌*◌, ◌-◌, ℕ, List, drop, get_or, length, take, sym, ◌∙◌, ap, arith, subst, length-drop, length-take-le}
use Rattle.std.proofs.lemmas.List.{get_or_default}
use Rattle.g1_copy.specs.declared.fates.Fate.{Fate}
use Rattle.g1_copy.specs.declared.fates.Fate.TheVariants.{Freed, Filled, Kept}
use Rattle.g1_copy.specs.Patches.{AreBefore}
use Rattle.g1_copy.specs.Slices.{IsWritable, by_fate}
use Rattle.g1_copy.proofs.InPlaceSlices.{in_turn, part_there, patched_part}
use Rattle.g1_copy.proofs.filling.FillingFill.fill.Goals as goal

-- the run that fills the region has been gathered
gathered : {w : ℕ} {fates : List Fate} {words : List ℕ} {patches : List (ℕ × ℕ)} {firsts : List ℕ} {r t : ℕ} {xs : List ℕ} → IsWritable w fates words patches firsts r xs
    → get_or fates r Freed ≡ Filled t → t * w + w ≤ length words
gathered can is = can.run _ (sym (get_or_default _ _ Freed Kept can.fate) ∙ is)

-- so many patches as lie before the next region lie before the end of these words
before_end : {w : ℕ} {fates : List Fate} {words : List ℕ} {patches : List (ℕ × ℕ)} {firsts : List ℕ} {r : ℕ} {xs : List ℕ} → IsWritable w fates words patches firsts r xs
    → AreBefore patches (r * w + length xs) (get_or firsts (r + 1) 0)
before_end {w} {patches} {firsts} {r} can = subst (λ n. AreBefore patches (r * w + n) (get_or firsts (r + 1) 0)) (sym can.size) can.ends

pub bounds : goal.bounds
bounds c = c.requires.fate

pub overflow_mul-at : goal.overflow_mul-at
overflow_mul-at c = let there = gathered c.requires c.in-Filled.is in omega (arith, there)

pub overflow_add-at : goal.overflow_add-at
overflow_add-at c = let there = gathered c.requires c.in-Filled.is in omega (arith, there)

pub offset_bounds-self-at : goal.offset_bounds-self-at
offset_bounds-self-at c = let there = gathered c.requires c.in-Filled.is in omega (arith, there)

pub slice_bounds-copy_from_slice-end : goal.slice_bounds-copy_from_slice-end
slice_bounds-copy_from_slice-end c = gathered c.requires c.in-Filled.is

pub offset_bounds-self-self : goal.offset_bounds-self-self
offset_bounds-self-self c = let few = c.requires.begins.within in omega (arith, few)

pub slice_bounds-patches-start : goal.slice_bounds-patches-start
slice_bounds-patches-start c =
    let s = c.args.self.now in
    let r = c.args.region in
    in_turn s.patches.now (r * s.region_words) c.args.words.now (get_or s.firsts.now r 0) (get_or s.firsts.now (r + 1) 0) c.requires.begins (before_end c.requires)

pub slice_bounds-patches-end : goal.slice_bounds-patches-end
slice_bounds-patches-end c = c.requires.ends.within

pub overflow_mul-region : goal.overflow_mul-region
overflow_mul-region c = let room = c.requires.room in omega (arith, room)

pub write_patches-requires : goal.write_patches-requires
write_patches-requires c =
    let s = c.args.self.now in
    let r = c.args.region in
    let base = r * s.region_words in
    record { there = part_there s.patches.now base (base + length c.args.words.now) (get_or s.firsts.now r 0) (get_or s.firsts.now (r + 1) 0) c.requires.begins (before_end c.requires) }

pub copy_from_slice-requires : goal.copy_from_slice-requires
copy_from_slice-requires c =
    let s = c.args.self.now in
    let at = c.in-Filled.run' * s.region_words in
    let width : at + s.region_words - at ≡ s.region_words = omega arith in
    let whole = gathered c.requires c.in-Filled.is in
    c.requires.size ∙ sym (ap (λ n. length (take n (drop at s.gathered.now))) width ∙ length-take-le s.region_words (drop at s.gathered.now) (omega (arith, length-drop at s.gathered.now, whole)))

pub returns-in-Kept : goal.returns-in-Kept
returns-in-Kept c =
    let s = c.args.self.now in
    let r = c.args.region in
    let xs = c.args.words.now in
    let base = r * s.region_words in
    c.write_patches.ensures
    ∙ sym (patched_part s.patches.now base xs (get_or s.firsts.now r 0) (get_or s.firsts.now (r + 1) 0) c.requires.begins (before_end c.requires))
    ∙ ap (λ x. by_fate s.region_words s.gathered.now s.patches.now r x xs) (sym c.in-Kept.is ∙ get_or_default s.fates.now r Freed Kept c.requires.fate)

pub returns-in-Filled : goal.returns-in-Filled
returns-in-Filled c =
    let s = c.args.self.now in
    let r = c.args.region in
    let at = c.in-Filled.run' * s.region_words in
    let width : (at + s.region_words) - at ≡ s.region_words = omega arith in
    c.copy_from_slice.ensures.after
    ∙ ap (λ n. take n (drop at s.gathered.now)) width
    ∙ ap (λ x. by_fate s.region_words s.gathered.now s.patches.now r x c.args.words.now) (sym c.in-Filled.is ∙ get_or_default s.fates.now r Freed Kept c.requires.fate)
