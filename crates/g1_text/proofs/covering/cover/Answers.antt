use Rattle.std.proofs.Common.{◌≡◌, ◌∙◌, [], ℕ, map, replicate, refl, sym, ap, Vec, Global}
use Rattle.g1_words.specs.Geometry.{Geometry}
use Rattle.g1_words.specs.Heap.{regions}
use Rattle.g1_image.specs.Text.{File}
use Rattle.g1_image.specs.Image.{Image, region_of_entry}
use Rattle.g1_image.specs.Cards.{exact}
use Rattle.g1_text.specs.Drafts.{content}
use Rattle.g1_text.proofs.ExactSets.{exact_image}
use Rattle.g1_text.proofs.Remembering.{all_empty, none_told, none_are, each_start, each_exact}
use Rattle.g1_text.proofs.Results.{not_both}
use Rattle.g1_text.proofs.covering.cover.Goals as goal
use Rattle.g1_image.proofs.FileOf.{regions_again}

pub returns-in_err-check_empty-clause-sets : goal.returns-in_err-check_empty-clause-sets
returns-in_err-check_empty-clause-sets c = λ i told.
    let s = content c.args.draft.now in
    let none = all_empty c.args.draft.now.remembered.items s.geometry.n told.none in
    absurd (not_both c.in_err-check_empty.was (c.check_empty.ensures.none none))

pub returns-clause-sets : goal.returns-clause-sets
returns-clause-sets c = λ i told.
    let s = content c.args.draft.now in
    let file = told.rest.same in
    let sizes : c.args.draft.now.geometry ≡ i.heap.geometry = λ t. record { w = (file t).w; k = (file t).k; n = (file t).n } in
    let regions = sym (regions_again s.regions) ∙ ap (λ (f : File). map region_of_entry f.table) file ∙ regions_again i.heap.regions in
    let words = ap (λ (f : File). f.words) file in
    let start = each_start i s.remembered told.rest.image told.exact (told.none ∙ ap (λ (g : Geometry). replicate g.n []) sizes) in
    let done = c.in_ok-cover_regions.ensures i sizes (c.as_slice.ensures.value ∙ regions) (c.as_slice-2.ensures.value ∙ words) start in
    let exact = each_exact i (map (λ (v : Vec ℕ Global). v.items) c.cover_regions.new.remembered.items) done in
    λ t. record s { remembered = exact t }

pub returns-clause-alone : goal.returns-clause-alone
returns-clause-alone c =
    none_told c.args.draft.now.remembered.items c.in_ok-check_empty.ensures.alone

pub returns-clause-exact : goal.returns-clause-exact
returns-clause-exact c = λ h is.
    let s = content c.args.draft.now in
    let i : Image = record { heap = h; remembered = map (exact h) (regions h); log = [] } in
    let empty = none_are s.remembered (none_told c.args.draft.now.remembered.items c.in_ok-check_empty.ensures.alone) in
    let start = each_start i s.remembered (exact_image h is.valid) refl (empty ∙ ap (λ n. replicate n []) is.one_each) in
    let done = c.in_ok-cover_regions.ensures i is.geometry (c.as_slice.ensures.value ∙ is.regions) (c.as_slice-2.ensures.value ∙ is.words) start in
    each_exact i (map (λ (v : Vec ℕ Global). v.items) c.cover_regions.new.remembered.items) done
