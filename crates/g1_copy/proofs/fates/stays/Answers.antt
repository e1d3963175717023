use Rattle.std.proofs.Common.{◌≡◌, ◌∙◌, ◌*◌, ◌/◌, ap, not, get_or, sym, rules}
use Rattle.g1_image.specs.Image.{region_of_card}
use Rattle.g1_copy.specs.Remembered.{is_kept_fate}
use Rattle.g1_copy.specs.declared.fates.Fate.TheVariants.{Kept}
use Rattle.g1_copy.proofs.fates.stays.Goals as goal
use Rattle.g1_copy.proofs.fates.stays.Goals.{in-Some-Freed, in_default, in_default-2}

pub returns : goal.returns
returns c =
    let r = c.region_of_card-region.result in
    let region : r ≡ region_of_card c.args.heap.now c.args.card = c.region_of_card-region.ensures.value ∙ ap (λ g. c.args.card * g.k / g.w) c.geometry.ensures.same in
    elim c.match-matches.branch [
      | in-Some-Freed w ↦
          ap not w.matches-is ∙ ap is_kept_fate (sym w.in-Some-Freed.field-0-is ∙ w.in-Some-Freed.ensures.lookup.3.1 Kept)
          ∙ ap (λ x. is_kept_fate (get_or c.args.fates.now x Kept)) region
      | in_default w ↦ search rules
      | in_default-2 w ↦ search rules
    ]
