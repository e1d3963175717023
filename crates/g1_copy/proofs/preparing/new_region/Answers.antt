use Rattle.std.proofs.Common.{◌∙◌, ap, sym}
use Rattle.std.proofs.lemmas.List.{get_or_default}
use Rattle.g1_words.specs.Heap.{region_with}
use Rattle.g1_words.specs.declared.region.Kind.TheVariants.{Ordinary}
use Rattle.g1_layout.specs.declared.plan.Run.{Run}
use Rattle.g1_copy.specs.Fates.{region_by_fate}
use Rattle.g1_copy.proofs.preparing.new_region.Goals as goal

abbrev none : Run
none = record { region = 0; from = 0; to = 0; end = 0 }

pub returns-in-Freed : goal.returns-in-Freed
returns-in-Freed c = λ u. ap (λ f. region_by_fate c.args.runs.now u f c.args.region) (sym c.in-Freed.is)

pub returns-in-Filled : goal.returns-in-Filled
returns-in-Filled c =
    λ u. ap (λ (r : Run). region_with Ordinary r.end) (get_or_default c.args.runs.now c.in-Filled.run' none u (c.requires.run c.in-Filled.run' c.in-Filled.is))
    ∙ ap (λ f. region_by_fate c.args.runs.now u f c.args.region) (sym c.in-Filled.is)

pub returns-in-Kept : goal.returns-in-Kept
returns-in-Kept c = λ u. ap (λ f. region_by_fate c.args.runs.now u f c.args.region) (sym c.in-Kept.is)
