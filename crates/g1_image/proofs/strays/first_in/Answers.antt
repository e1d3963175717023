use Rattle.std.proofs.Common.{◌≡◌, ◌*◌, ◌+◌, ap, subst, ◌∙◌}
use Rattle.g1_words.specs.Heap.{start}
use Rattle.g1_image.specs.Strays.{IsFirstStray}
use Rattle.g1_image.proofs.StraySlots.{stray_wider}
use Rattle.g1_image.proofs.strays.first_in.Goals as goal

pub returns : goal.returns
returns c =
    let h = c.args.draft.now in
    let r = c.args.r in
    let first : c.start-from.result ≡ start h r = c.start-from.ensures.value ∙ ap (λ g. r * g.w) c.geometry.ensures.same in
    stray_wider h (start h r) c.starts_end-to.result (start h (r + 1)) c.starts_end-to.ensures.all c.first_between.result
    (subst (λ a. IsFirstStray h a c.starts_end-to.result c.first_between.result) first c.first_between.ensures)
