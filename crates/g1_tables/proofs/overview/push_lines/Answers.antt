use Rattle.std.proofs.Common.{◌≡◌, ◌∙◌, ◌++◌, ◌-◌, ◌^◌, [], ◌∷◌, ap, subst, string_bytes}
use Rattle.std.specs.Prelude.{min, codes, OnOk}
use Rattle.g1_words.specs.Heap.{Heap}
use Rattle.g1_work.specs.Ranges.{used}
use Rattle.g1_text.specs.Lines.{text_of}
use Rattle.g1_tables.specs.Summary.{cards_line, regions_line, roots_line, sizes_line, words_line}
use Rattle.g1_tables.proofs.Summing.{used_whole, seven_lines}
use Rattle.g1_tables.proofs.overview.push_lines.Goals as goal

pub returns : goal.returns
returns c =
    let i = c.args.image.now in
    let live = c.args.live in
    let heap = c.heap-heap.ensures.same in
    let of_heap = ap (λ (h : Heap). h.regions) heap in
    let regions = c.regions-2.ensures ∙ of_heap in
    let words = c.used_words-used.ensures ∙ ap (λ l. min (used l) (2 ^ 64 - 1)) (c.regions.ensures ∙ of_heap) ∙ used_whole i.heap c.heap-heap.ensures.valid.heap in
    let garbage = c.saturating_sub.ensures ∙ ap (λ n. n - live) words in
    let roots = c.roots.ensures ∙ ap (λ (h : Heap). h.roots) heap in
    subst (λ ls. OnOk c.writeln.result (string_bytes c.writeln.new.self ≡ string_bytes c.args.text.now ++ text_of ls))
    (λ t. sizes_line (heap t).geometry ∷ regions_line (regions t) ∷ words_line (codes "used") (words t) ∷ words_line (codes "live") live ∷ words_line (codes "garbage") (garbage t) ∷ cards_line i ∷ roots_line (roots t) ∷ [])
    (seven_lines c.writeln.result (string_bytes c.args.text.now) (string_bytes c.push_sizes.new.text) (string_bytes c.push_regions.new.text) (string_bytes c.push_words.new.text)
    (string_bytes c.push_words-2.new.text) (string_bytes c.push_words-3.new.text) (string_bytes c.push_cards.new.text) (string_bytes c.writeln.new.self) (sizes_line c.heap-heap.result.now.geometry)
    (regions_line c.regions-2.result.now) (words_line (codes "used") c.used_words-used.result) (words_line (codes "live") live) (words_line (codes "garbage") c.saturating_sub.result) (cards_line i)
    (roots_line c.roots.result.now) c.in_ok-push_sizes.ensures c.in_ok-push_regions.ensures c.in_ok-push_words.ensures c.in_ok-push_words-2.ensures c.in_ok-push_words-3.ensures
    c.in_ok-push_cards.ensures c.writeln.ensures.bytes)
