use Rattle.std.proofs.Common.{◌≡◌, ◌∙◌, sym, ap, subst}
use Rattle.g1_words.specs.Heap.{Heap}
use Rattle.g1_words.specs.Valid.{IsValid}
use Rattle.g1_words.specs.Words.{AreLaid}
use Rattle.g1_image.proofs.copying.copy_heap.Goals as goal

pub invariant_of-result : goal.invariant_of-result
invariant_of-result c =
    let old : Heap = c.args.heap.now in
    let regions = c.in_ok-from_slice.ensures.items ∙ c.regions.ensures in
    let h : Heap = record {
      geometry = c.geometry.result;
      words = c.in_ok-copy.field-0.items;
      regions = c.in_ok-from_slice.field-0.items;
      roots = c.in_ok-from_slice-2.field-0.items;
      current = c.current.result;
    } in
    let same : h ≡ old = λ t. record {
      geometry = c.geometry.ensures.same t;
      words = (ap (λ w. w.items) c.in_ok-copy.ensures ∙ c.words.ensures.same) t;
      regions = regions t;
      roots = (c.in_ok-from_slice-2.ensures.items ∙ c.roots.ensures) t;
      current = c.current.ensures t;
    } in (
      subst IsValid (sym same) c.geometry.ensures.valid,
      subst (λ n. AreLaid c.geometry.result.w c.in_ok-from_slice.field-0.items n) (sym (ap (λ w. w.laid) c.in_ok-copy.ensures))
          (subst (λ (x : Heap). AreLaid x.geometry.w x.regions c.words.result.now.laid) (sym same) c.words.ensures.laid),
    )
