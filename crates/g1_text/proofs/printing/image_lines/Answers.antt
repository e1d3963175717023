use Rattle.std.proofs.Common.{◌++◌, ◌∙◌, ap, string_bytes}
use Rattle.g1_words.specs.Heap.{Heap}
use Rattle.g1_text.specs.Lines.{text_of, root_lines, log_lines}
use Rattle.g1_text.proofs.Printed.{image_end}
use Rattle.g1_text.proofs.printing.image_lines.Goals as goal

pub returns-clause-text : goal.returns-clause-text
returns-clause-text c =
    let first = string_bytes c.push_heading.new.text in
    let middle = string_bytes c.push_roots.new.text in
    image_end c.args.image.now (string_bytes c.new-text.result) first middle (string_bytes c.push_log.new.text) (string_bytes c.push_regions.new.text)
    c.new-text.ensures.bytes c.in_ok-push_heading.ensures
    (c.in_ok-push_roots.ensures ∙ ap (λ xs. first ++ text_of (root_lines xs)) (c.roots.ensures ∙ ap (λ (h : Heap). h.roots) c.heap.ensures.same))
    (c.in_ok-push_log.ensures ∙ ap (λ xs. middle ++ text_of (log_lines xs)) (c.as_slice.ensures.keys ∙ c.log.ensures)) c.in_ok-push_regions.ensures.text
