use Rattle.std.proofs.Common.{◌≡◌, ◌*◌, ap, arith, length, subst, sym, ◌∙◌}
use Rattle.g1_work.specs.Ranges.{IsCut, first_some}
use Rattle.g1_image.specs.Strays.{IsFirstStray}
use Rattle.g1_image.proofs.StraySlots.{AreFirstStrays, strays_all}
use Rattle.g1_image.proofs.strays.first_by.Goals as goal

pub cut_regions-requires-clause-count : goal.cut_regions-requires-clause-count
cut_regions-requires-clause-count g c = omega (arith, ap length c.regions.ensures.same, c.regions.ensures.draft.region_count, c.regions.ensures.draft.limits.n_most)

pub make_each-requires-clause-ready : goal.make_each-requires-clause-ready
make_each-requires-clause-ready g c κs within = λ i lt.
    let n : length c.regions.result.now ≡ c.args.draft.now.geometry.n = ap length c.regions.ensures.same ∙ c.regions.ensures.draft.region_count in
    let cut : IsCut c.args.draft.now.geometry.n c.args.threads c.deref.result.now =
    subst (λ l. IsCut c.args.draft.now.geometry.n c.args.threads l) (sym c.deref.ensures.value) (subst (λ x. IsCut x c.args.threads c.in_ok-cut.cut.items) n c.in_ok-cut.ensures) in
    (c.requires.marked, cut.each i lt)

pub returns-clause-ok : goal.returns-clause-ok
returns-clause-ok g c =
    let h = c.args.draft.now in
    let n : length c.regions.result.now ≡ h.geometry.n = ap length c.regions.ensures.same ∙ c.regions.ensures.draft.region_count in
    let cut : IsCut h.geometry.n c.args.threads c.in_ok-cut.cut.items = subst (λ x. IsCut x c.args.threads c.in_ok-cut.cut.items) n c.in_ok-cut.ensures in
    let found : AreFirstStrays h c.in_ok-cut.cut.items c.args.threads c.in_ok-found.found.items =
    subst (λ l. AreFirstStrays h l c.args.threads c.in_ok-found.found.items) c.deref.ensures.value c.in_ok-found.ensures.ok in
    subst (IsFirstStray h 0 (h.geometry.n * h.geometry.w)) (sym (ap first_some c.deref-2.ensures.value) ∙ sym c.first_found.ensures)
    (strays_all h c.args.threads c.in_ok-cut.cut.items cut c.in_ok-found.found.items found)
