use Rattle.std.proofs.Common.{◌≡◌, ◌*◌, ◌∙◌, ap, arith, subst}
use Rattle.g1_words.specs.Heap.{start}
use Rattle.g1_image.specs.Strays.{IsFirstStray}
use Rattle.g1_image.proofs.strays.first_alone.Goals as goal

pub returns : goal.returns
returns c =
    let h = c.args.draft.now in
    let n : c.regions.result ≡ h.geometry.n = c.regions.ensures.value ∙ ap (λ g. g.n) c.geometry.ensures.same in
    let zero : start h 0 ≡ 0 = omega arith in
    let first : IsFirstStray h (start h 0) (start h c.regions.result) c.first_of.result = c.first_of.ensures in
    subst (λ x. IsFirstStray h x (h.geometry.n * h.geometry.w) c.first_of.result) zero (subst (λ x. IsFirstStray h (start h 0) (x * h.geometry.w) c.first_of.result) n first)
