-- The full text of an image says the image.
use Rattle.std.proofs.Common.{◌≡◌, ℕ, List, length, subst, sym}
use Rattle.std.specs.Prelude.{Some, None}
use Rattle.g1_image.specs.Image.{Image, IsImage}
use Rattle.g1_text.specs.Lines.{heading, image_lines, image_text}
use Rattle.g1_text.specs.Content.{SaysAll, SaysImage, begun}
use Rattle.g1_text.specs.Laws.{TextsSayImage}
use Rattle.g1_text.proofs.Parts.{full_lines}
use Rattle.g1_text.proofs.Statements.{all_statements, all_said}
use Rattle.g1_text.proofs.Whole.{content_of, said_image, image_words, heading_begins, image_adds, is_content, all_closed}

-- the lines of an image say its content
lines_say : (i : Image) → IsImage i → SaysAll None (image_lines i) (Some (content_of i))
lines_say i good =
    subst (λ ls. SaysAll None ls (Some (content_of i))) (sym (image_words i good))
    (all_said (heading i) (said_image i) (begun i.heap.geometry i.heap.current (Some (length i.heap.roots)) (Some (length i.log))) (content_of i) (heading_begins i good) (image_adds i good))

-- A TEXT WITH THESE LINES says the image
pub texts_say_image : TextsSayImage
texts_say_image i text good has = record { lines = image_lines i; content = content_of i; has = has; says = lines_say i good; closed = all_closed i good; is = is_content i good }

-- THE FULL TEXT says the image
pub full_text_says : (i : Image) → IsImage i → (text : List ℕ) → text ≡ image_text i → SaysImage text i
full_text_says i good text e = texts_say_image i text good (full_lines (image_lines i) text (all_statements None (Some (content_of i)) (image_lines i) (lines_say i good)) e)
