use Rattle.std.proofs.Common.{◌≡◌, [], map}
use Rattle.std.specs.Prelude.{flat_map}
use Rattle.std.specs.List.{list_all}
use Rattle.std.specs.Str.{is_utf8}
use Rattle.g1_text.specs.Reading.{words_in, parts_of}
use Rattle.g1_text.specs.Boxes.{names_in, slot_words_of}
use Rattle.g1_text.specs.Marked.{names_found, words_found, with_all, with_marked}
use Rattle.g1_text.proofs.Turns.{parts_left, size_left}
use Rattle.g1_text.proofs.boxes.find_words.Given as goal

abbrev pub decreases-lines : goal.decreases-lines
decreases-lines l = size_left l.rest

abbrev pub invariant-lines : goal.invariant-lines
invariant-lines l = record {
  utf8 : list_all is_utf8 (parts_left l.rest) ≡ list_all is_utf8 (parts_of l.fn.text);
  names : with_all (names_found l.found) (flat_map names_in (map words_in (parts_left l.rest))) ≡ with_all []
      (flat_map names_in (map words_in (parts_of l.fn.text)));
  words : with_marked (words_found l.found) (flat_map slot_words_of (map words_in (parts_left l.rest)))
      ≡ with_marked [] (flat_map slot_words_of (map words_in (parts_of l.fn.text)));
}
