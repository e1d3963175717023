use Rattle.std.proofs.Common.{◌∙◌, ap, sym, subst}
use Rattle.std.proofs.lemmas.Bool.{false≢true}
use Rattle.g1_words.specs.Survivors.{in_set}
use Rattle.g1_frontier.specs.Window.{AreRegions}
use Rattle.g1_mark.proofs.Used.{used_are_regions, slot_used}
use Rattle.g1_mark.proofs.live.found_live.Goals as goal

pub discover_from_roots-requires-clause-window : goal.discover_from_roots-requires-clause-window
discover_from_roots-requires-clause-window g c κs within =
    let h = c.args.heap.now in
    subst (AreRegions h) (sym (c.as_slice.ensures.value ∙ c.in_ok-window.ensures.used)) (used_are_regions h)

pub discover_from_roots-requires-clause-closed : goal.discover_from_roots-requires-clause-closed
discover_from_roots-requires-clause-closed g c κs within =
    let h = c.args.heap.now in
    λ e i t f. absurd (false≢true (sym f ∙ ap (λ w. in_set h w e.slot) (c.as_slice.ensures.value ∙ c.in_ok-window.ensures.used)
    ∙ slot_used h c.used_regions.ensures.valid e i))
