use Rattle.std.proofs.Common.{◌≡◌, ◌++◌, ◌∙◌, map, ap, sym, subst}
use Rattle.std.specs.Prelude.{unwrap_or}
use Rattle.g1_words.specs.Heap.{Heap}
use Rattle.g1_image.specs.declared.cursor.Version.TheVariants.{Two}
use Rattle.g1_image.specs.declared.file_parts.FileParts.{FileParts}
use Rattle.g1_image.specs.Text.{file_text}
use Rattle.g1_image.specs.Image.{entry_of, file_of}
use Rattle.g1_image.specs.Parts.{file_of_parts, CountsFit}
use Rattle.g1_image.proofs.Images.{file_fits}
use Rattle.g1_image.proofs.file_parts.encode_front.Goals as goal

pub returns : goal.returns
returns c =
    let i = c.args.image.now in
    let words = (file_of Two i).words in
    let parts : FileParts = record {
      geometry = c.geometry.result;
      current = c.current.result;
      regions = c.regions.result;
      roots = c.roots.result;
      log = c.as_slice.result;
      remembered = c.remembered.result;
    } in
    let heap : c.heap-heap.result.now ≡ i.heap = c.heap-heap.ensures.same in
    let geometry : c.geometry.result ≡ i.heap.geometry = c.geometry.ensures.same ∙ ap (λ (h : Heap). h.geometry) heap in
    let current : c.current.result ≡ i.heap.current = c.current.ensures ∙ ap (λ (h : Heap). h.current) heap in
    let regions : c.regions.result.now ≡ i.heap.regions = c.regions.ensures ∙ ap (λ (h : Heap). h.regions) heap in
    let roots : c.roots.result.now ≡ i.heap.roots = c.roots.ensures ∙ ap (λ (h : Heap). h.roots) heap in
    let log : c.as_slice.result.now ≡ i.log = c.as_slice.ensures.keys ∙ c.log.ensures in
    let remembered : map (λ s. s.items) c.remembered.result.now ≡ i.remembered = c.remembered.ensures in
    let same : file_of_parts parts words ≡ file_of Two i = λ t. record {
      version = Two;
      w = (geometry t).w;
      k = (geometry t).k;
      n = (geometry t).n;
      current = unwrap_or (current t) (geometry t).n;
      table = map entry_of (regions t);
      roots = roots t;
      log = log t;
      remembered = remembered t;
      words = words;
    } in
    let fits : CountsFit (file_of_parts parts words) = subst CountsFit (sym same) (file_fits i c.heap-heap.ensures.valid) in
    (c.heap-heap.ensures.valid, tt, c.in_ok-push_parts.ensures words fits ∙ (λ t. c.new-out.ensures.items t ++ file_text (same t)))
