-- A text says at most one image.
use Rattle.std.proofs.Common.{◌≡◌, ℕ, List, [], ◌∷◌, refl, sym, ◌∙◌, ap, subst}
use Rattle.std.specs.Prelude.{Option, Some, None}
use Rattle.g1_words.specs.declared.limits.Limits.TheVariants.{Wide}
use Rattle.g1_image.specs.declared.cursor.Version.TheVariants.{Two}
use Rattle.g1_image.specs.Text.{file_text}
use Rattle.g1_image.specs.Image.{Image, file_of}
use Rattle.g1_image.proofs.FileOf.{one_image}
use Rattle.g1_text.specs.Content.{Content, SaysAll, IsContentOf}
use Rattle.g1_text.specs.Laws.{TextsSayOne}
use Rattle.g1_text.proofs.OneLine.{says_one}

-- lines say at most one content
all_one : (before c d : Option Content) (lines : List (List (List ℕ))) → SaysAll before lines c → SaysAll before lines d → c ≡ d
all_one before c d [] a b = sym a ∙ b
all_one before c d (line ∷ lines) a b =
    let first = says_one before line a.0 b.0 a.1 b.1 in
    all_one (Some a.0) c d lines a.2 (subst (λ x. SaysAll (Some x) lines d) (sym first) b.2)

abbrev content_or : Content → Option Content → Content
content_or d None = d
content_or d (Some c) = c

-- what was read is the content of one image
content_one : (c : Content) (i j : Image) → IsContentOf c i → IsContentOf c j → i ≡ j
content_one c i j a b = one_image Wide (file_text (file_of Two i)) i j (Two, (a.image, tt, refl), a.image.heap.limits)
    (Two, (b.image, tt, ap file_text (sym a.same ∙ b.same)), b.image.heap.limits)

-- A TEXT SAYS at most one image
pub texts_say_one : TextsSayOne
texts_say_one text i j a b =
    let lines : b.lines ≡ a.lines = sym b.has.same ∙ a.has.same in
    let all = all_one None (Some a.content) (Some b.content) a.lines a.says (subst (λ ls. SaysAll None ls (Some b.content)) lines b.says) in
    let same : a.content ≡ b.content = ap (content_or a.content) all in
    content_one a.content i j a.is (subst (λ c. IsContentOf c j) (sym same) b.is)
