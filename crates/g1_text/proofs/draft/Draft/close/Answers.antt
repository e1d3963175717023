use Rattle.std.proofs.Common.{◌≡◌, ◌≤◌, ◌+◌, ◌-◌, ◌++◌, ⊎_elim, length, replicate, length-append, sym, ◌∙◌, ap, arith}
use Rattle.g1_words.specs.Geometry.{Geometry}
use Rattle.std.proofs.lemmas.List.{length-replicate}
use Rattle.std.proofs.lemmas.Result.{on_ok_weaker}
use Rattle.g1_words.specs.Heap.{free_region}
use Rattle.g1_text.specs.Content.{Content}
use Rattle.g1_text.specs.Drafts.{content}
use Rattle.g1_text.proofs.Laying.{laid_free}
use Rattle.g1_text.proofs.Skipping.{either, goes_geometry, goes_length, no_free}
use Rattle.g1_text.proofs.draft.Draft.close.Goals as goal

pub returns-clause-closes : goal.returns-clause-closes
returns-clause-closes c = λ d closed.
    let s = content c.args.self.now in
    let on = closed.0 in
    let skips = closed.2 in
    let e = skips.middle in
    let none : e.beyond ≡ 0 = sym (ap (λ (x : Content). x.beyond) skips.adds) ∙ closed.3 in
    let before = c.in_ok-close_run.ensures.goes on e closed.1 skips.goes_on none in
    let old = content c.close_run.new.self in
    let end : c.regions-regions.result ≡ s.geometry.n = c.regions-regions.ensures.value ∙ ap (λ (x : Content). x.geometry.n) before ∙ ap (λ (g : Geometry). g.n) (goes_geometry s on e skips.goes_on) in
    let count = goes_length s on e skips.goes_on in
    let here : length old.regions ≡ length e.regions = ap (λ (x : Content). length x.regions) before in
    let many : c.regions-regions.result - length old.regions ≡ s.geometry.n - (length s.regions + on) = omega (arith, end, here, count) in
    ⊎_elim
    (λ few. on_ok_weaker c.fill_up_to.result (λ same. same ∙ (λ i. record (before i) { regions = (before i).regions ++ replicate (many i) free_region }) ∙ sym skips.adds) (c.fill_up_to.ensures.free few))
    (λ all.
    let zero : s.geometry.n - (length s.regions + on) ≡ 0 = omega (arith, many, all) in
    on_ok_weaker c.fill_up_to.result (λ same. same ∙ before ∙ sym (no_free zero skips)) (c.fill_up_to.ensures.same all))
    (either (length old.regions) c.regions-regions.result)

pub returns-clause-laid : goal.returns-clause-laid
returns-clause-laid c = λ g os laid.
    let rs = laid.0 in
    let before = c.in_ok-close_run.ensures.same (ap (λ (x : Content). x.beyond) laid.2) ∙ laid.2 in
    let end : c.regions-regions.result ≡ g.n = c.regions-regions.ensures.value ∙ ap (λ (x : Content). x.geometry.n) before in
    let same : length (content c.close_run.new.self).regions ≡ length rs = ap (λ (x : Content). length x.regions) before in
    let few : length rs ≤ g.n = laid.1.count in
    let m = g.n - length rs in
    let many : c.regions-regions.result - length (content c.close_run.new.self).regions ≡ m = omega (arith, end, same) in
    on_ok_weaker c.fill_up_to.result
    (λ e. (
      rs ++ replicate m free_region,
      laid_free g os m rs laid.1 (omega (arith, few)),
      omega (arith, length-append rs (replicate m free_region), length-replicate m free_region, few),
      e ∙ (λ i. record (before i) { regions = (before i).regions ++ replicate (many i) free_region }),
    ))
    (c.fill_up_to.ensures.free (omega (arith, same, few, end)))
