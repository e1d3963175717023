use Rattle.std.proofs.Common.{◌≡◌, List, ℕ, inl, inr, sym, ◌∙◌, ap, subst}
use Rattle.std.proofs.lemmas.List.{length-map}
use Rattle.g1_words.specs.declared.limits.Limits.TheVariants.{Wide}
use Rattle.g1_words.specs.declared.fault.Fault.{Fault}
use Rattle.g1_words.specs.declared.fault.Fault.TheVariants.{Memory}
use Rattle.g1_image.specs.declared.cursor.Version.TheVariants.{Two}
use Rattle.g1_image.specs.Text.{file_text}
use Rattle.g1_image.specs.Image.{Image, IsTextIn, IsTextWithin}
use Rattle.g1_image.specs.Parts.{CountsFit}
use Rattle.g1_image.specs.Faults.{MayFailWithin}
use Rattle.g1_image.proofs.Images.{file_fits}
use Rattle.g1_image.proofs.NoFault.{no_fault}
use Rattle.g1_text.specs.Content.{Content, IsContentOf, file_with}
use Rattle.g1_text.specs.Drafts.{content, numbers, line_of_object, address_of_object}
use Rattle.g1_text.proofs.Counted.{made}
use Rattle.g1_text.proofs.Refusing.{faulty_late}
use Rattle.g1_text.proofs.making.check_and_pack.Goals as goal

module _ (s : Content) (i : Image) (is : IsContentOf s i) where
  fits : CountsFit (file_with s)
  fits = subst CountsFit (sym is.same) (file_fits i is.image)

  pub packed : (bytes : List ℕ) → (CountsFit (file_with s) → bytes ≡ file_text (file_with s)) → IsTextIn Two bytes i
  packed bytes text = (is.image, tt, text fits ∙ ap file_text is.same)

  pub memory : (bytes seen : List ℕ) (e : Fault) → seen ≡ bytes → (CountsFit (file_with s) → bytes ≡ file_text (file_with s)) → MayFailWithin Wide seen e → e ≡ Memory
  memory bytes seen e same text (inl m) = m
  memory bytes seen e same text (inr f) = absurd (no_fault Wide seen i e (Two, subst (λ b. IsTextIn Two b i) (sym same) (packed bytes text), is.image.heap.limits) f)

pub returns-in-Ok-clause-text : goal.returns-in-Ok-clause-text
returns-in-Ok-clause-text c = λ i is. packed (content c.args.draft.now) i is c.in_ok-bytes.bytes.items (λ fit. c.in_ok-bytes.ensures fit)

pub returns-in-Err-clause-text : goal.returns-in-Err-clause-text
returns-in-Err-clause-text c = λ i is.
    c.trace.ensures.memory (memory (content c.args.draft.now) i is c.in_ok-bytes.bytes.items c.as_slice.result.now c.in-Err.fault c.as_slice.ensures.value
    (λ fit. c.in_ok-bytes.ensures fit) c.in-Err.ensures.err)

pub returns-in-Ok-clause-only : goal.returns-in-Ok-clause-only
returns-in-Ok-clause-only c = λ fit.
    made (content c.args.draft.now) c.in_ok-bytes.bytes.items c.in_ok-settle.ensures.only (c.in_ok-bytes.ensures fit)
    (subst (λ b. (i : Image) × IsTextWithin Wide b i) c.as_slice.ensures.value c.in-Ok.ensures.ok)

pub returns-in-Err-clause-late : goal.returns-in-Err-clause-late
returns-in-Err-clause-late c = λ same stands.
    let d = c.args.draft.now in
    let many = length-map d.objects.items line_of_object ∙ sym (length-map d.objects.items address_of_object) in
    let s = content c.args.draft.now in
    faulty_late (numbers c.args.draft.now) s c.trace.result c.in-Err.fault same stands many c.in_ok-settle.ensures.only c.trace.ensures.line c.trace.ensures.memory
    (λ fit. subst (λ b. MayFailWithin Wide b c.in-Err.fault) (c.as_slice.ensures.value ∙ c.in_ok-bytes.ensures fit) c.in-Err.ensures.err) c.trace.ensures.root c.trace.ensures.dirty c.trace.ensures.region c.trace.ensures.slot
