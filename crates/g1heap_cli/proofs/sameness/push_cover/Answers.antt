use Rattle.std.proofs.Common.{◌∙◌, inl, inr, sym, subst}
use Rattle.g1_image.specs.Dirty.{dirtied}
use Rattle.g1_image.specs.Image.{Image}
use Rattle.g1heap_cli.specs.Young.{young_cards}
use Rattle.g1heap_cli.specs.SameReasons.{IsCoverFault, LacksCover}
use Rattle.g1heap_cli.proofs.sameness.push_cover.Goals as goal

-- the image that was asked for cover is the one whose young cards are dirty
pub returns-clause-refused : goal.returns-clause-refused
returns-clause-refused g c =
    let same = c.args.job.now.same.now in
    let dirty = dirtied c.args.after.image (young_cards c.args.after.image.heap same.young.items) in
    let e = c.in-Err-verify.ensures in
    let r = c.refuse_cover.result in
    let of : IsCoverFault c.in-Err-verify.image c.in-Err-verify.fault = subst (λ (i : Image). IsCoverFault i c.in-Err-verify.fault) (sym e.same) e.fault in
    let lacks : LacksCover c.as_str-name.result.now dirty r =
    subst (λ (i : Image). LacksCover c.as_str-name.result.now i r) (e.same ∙ c.in-Ok.ensures.image) (c.refuse_cover.ensures of) in
    inl (inr (subst (λ n. LacksCover n dirty r) c.as_str-name.ensures.value lacks))
