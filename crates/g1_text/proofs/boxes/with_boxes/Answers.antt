use Rattle.std.proofs.Common.{◌≡◌, [], true, false, map, sym, ◌∙◌, subst}
use Rattle.std.specs.Prelude.{MatchOption, IfSome, flat_map}
use Rattle.std.specs.List.{list_all}
use Rattle.std.specs.Str.{is_utf8}
use Rattle.g1_text.specs.Reading.{words_in, parts_of}
use Rattle.g1_text.specs.Boxes.{names_in, slot_words_of}
use Rattle.g1_text.specs.Marked.{names_found, words_found, with_all, with_marked}
use Rattle.g1_text.proofs.Signs.{no_boxes, boxed_with, with_none, with_some}
use Rattle.g1_text.proofs.boxes.with_boxes.Goals as goal

pub returns-then-not-has_mark : goal.returns-then-not-has_mark
returns-then-not-has_mark c = no_boxes c.args.text.now (sym c.if-not-has_mark.ensures)

pub returns-then-is_empty : goal.returns-then-is_empty
returns-then-is_empty c =
    let text = c.args.text.now in
    let lines = map words_in (parts_of text) in
    let found = c.in-Some.found in
    let utf8 = subst (λ r. MatchOption r (list_all is_utf8 (parts_of text) ≡ false)
    (λ f. list_all is_utf8 (parts_of text) ≡ true)) c.in-Some.is c.in_ok-found.ensures.utf8 in
    let names = subst (λ r. IfSome r (λ f. names_found f ≡ with_all [] (flat_map names_in lines))) c.in-Some.is c.in_ok-found.ensures.names in
    let words = subst (λ r. IfSome r (λ f. words_found f ≡ with_marked [] (flat_map slot_words_of lines))) c.in-Some.is c.in_ok-found.ensures.words in
    boxed_with text (names_found found) (words_found found) c.as_bytes-bytes.result.now utf8 names words
    (c.as_bytes-bytes.ensures.value ∙ c.in_ok-lines.ensures)
    ∙ with_none text c.as_bytes-bytes.result.now (sym c.if-is_empty.ensures)

pub returns : goal.returns
returns c =
    let text = c.args.text.now in
    let lines = map words_in (parts_of text) in
    let found = c.in-Some.found in
    let utf8 = subst (λ r. MatchOption r (list_all is_utf8 (parts_of text) ≡ false)
    (λ f. list_all is_utf8 (parts_of text) ≡ true)) c.in-Some.is c.in_ok-found.ensures.utf8 in
    let names = subst (λ r. IfSome r (λ f. names_found f ≡ with_all [] (flat_map names_in lines))) c.in-Some.is c.in_ok-found.ensures.names in
    let words = subst (λ r. IfSome r (λ f. words_found f ≡ with_marked [] (flat_map slot_words_of lines))) c.in-Some.is c.in_ok-found.ensures.words in
    sym (boxed_with text (names_found found) (words_found found) c.as_bytes-bytes.result.now utf8 names words
    (c.as_bytes-bytes.ensures.value ∙ c.in_ok-lines.ensures)
    ∙ with_some text c.as_bytes-bytes.result.now (sym c.if-is_empty.ensures)
    ∙ sym c.in_ok-join.ensures)
