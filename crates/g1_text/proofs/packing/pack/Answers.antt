use Rattle.std.proofs.Common.{◌≡◌, map, sym, subst}
use Rattle.std.specs.Prelude.{IfOk, unwrap_or}
use Rattle.g1_image.specs.declared.cursor.Version.TheVariants.{Two}
use Rattle.g1_image.specs.declared.file_parts.FileParts.{FileParts}
use Rattle.g1_image.specs.Text.{file_text}
use Rattle.g1_image.specs.Image.{entry_of}
use Rattle.g1_image.specs.Parts.{file_of_parts, CountsFit}
use Rattle.g1_text.specs.Content.{file_with}
use Rattle.g1_text.specs.Drafts.{content}
use Rattle.g1_text.proofs.packing.pack.Goals as goal

pub returns : goal.returns
returns c = λ fit.
    let d = c.args.draft.now in
    let parts : FileParts = record {
      geometry = d.geometry;
      current = d.current;
      regions = c.as_slice.result;
      roots = c.as_slice-2.result;
      log = c.as_slice-3.result;
      remembered = c.as_slice-4.result;
    } in
    let same : file_of_parts parts c.as_slice-5.result.now ≡ file_with (content d) = λ t. record {
      version = Two;
      w = d.geometry.w;
      k = d.geometry.k;
      n = d.geometry.n;
      current = unwrap_or d.current d.geometry.n;
      table = map entry_of (c.as_slice.ensures.value t);
      roots = c.as_slice-2.ensures.value t;
      log = c.as_slice-3.ensures.value t;
      remembered = map (λ s. s.items) (c.as_slice-4.ensures.value t);
      words = c.as_slice-5.ensures.value t;
    } in
    subst (λ f. IfOk c.encode_parts.result (λ v. v.items ≡ file_text f)) same (c.encode_parts.ensures (subst CountsFit (sym same) fit))
