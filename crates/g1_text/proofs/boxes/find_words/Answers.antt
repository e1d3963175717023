use Rattle.std.proofs.Common.{List, ℕ, Bor, [], length, map, ◌∙◌, ap, subst, ◌≡◌}
use Rattle.std.specs.Prelude.{flat_map}
use Rattle.std.specs.List.{list_all}
use Rattle.std.specs.Str.{is_utf8}
use Rattle.g1_text.specs.Reading.{words_in, parts_of}
use Rattle.g1_text.specs.Boxes.{names_in, slot_words_of}
use Rattle.g1_text.specs.Marked.{names_found, words_found, with_all, with_marked}
use Rattle.g1_text.proofs.Turns.{parts_left, split_off}
use Rattle.g1_text.proofs.Boxing.{no_text, text_more, names_more, words_more}
use Rattle.g1_text.proofs.boxes.find_words.Goals as goal

pub returns-in_default-from_utf8-clause-utf8 : goal.returns-in_default-from_utf8-clause-utf8
returns-in_default-from_utf8-clause-utf8 c =
    let text = parts_of c.args.text.now in
    let left = c.in-Some.left.now in
    let behind = c.first_line.result.1 in
    let line = c.first_line.result.0.now in
    let is = split_off (parts_of left) line (length left) behind c.first_line.ensures in
    let so_far = subst (λ r. list_all is_utf8 (parts_left r) ≡ list_all is_utf8 text) c.in-Some.is c.lines.invariant.utf8 in
    no_text text (parts_of left) (parts_left behind) line is c.in_default-from_utf8.ensures.cases.0 so_far

pub lines-preserved : goal.lines-preserved
lines-preserved c =
    let text = parts_of c.args.text.now in
    let left = c.in-Some.left.now in
    let behind = c.first_line.result.1 in
    let line = c.first_line.result.0.now in
    let is = split_off (parts_of left) line (length left) behind c.first_line.ensures in
    let words : map (λ (t : Bor (List ℕ)). t.now) c.as_slice.result.now ≡ words_in line =
    ap (map (λ (t : Bor (List ℕ)). t.now)) c.as_slice.ensures.value ∙ c.in_ok-cut_words.ensures ∙ ap words_in c.in-Ok.ensures.cases.0 in
    let all_names = with_all [] (flat_map names_in (map words_in text)) in
    let all_words = with_marked [] (flat_map slot_words_of (map words_in text)) in
    let utf8 = subst (λ r. list_all is_utf8 (parts_left r) ≡ list_all is_utf8 text) c.in-Some.is c.lines.invariant.utf8 in
    let names = subst (λ r. with_all (names_found c.lines.found)
    (flat_map names_in (map words_in (parts_left r))) ≡ all_names) c.in-Some.is c.lines.invariant.names in
    let marked = subst (λ r. with_marked (words_found c.lines.found)
    (flat_map slot_words_of (map words_in (parts_left r))) ≡ all_words) c.in-Some.is c.lines.invariant.words in
    record {
      utf8 = text_more text (parts_of left) (parts_left behind) line is c.in-Ok.ensures.cases.1 utf8;
      names = names_more (names_found c.lines.found) (names_found c.add_line.new.self) all_names (parts_of left) (parts_left behind) line is
          (c.in_ok-add_line.ensures.names ∙ ap (λ ws. with_all (names_found c.lines.found) (names_in ws)) words) names;
      words = words_more (words_found c.lines.found) (words_found c.add_line.new.self) all_words (parts_of left) (parts_left behind) line is
          (c.in_ok-add_line.ensures.words ∙ ap (λ ws. with_marked (words_found c.lines.found) (slot_words_of ws)) words) marked;
    }
