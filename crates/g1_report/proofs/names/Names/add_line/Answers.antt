use Rattle.std.proofs.Common.{◌≡◌, ◌∷◌, ◌-◌, subst, length, take, drop}
use Rattle.g1_report.specs.NamesText.{SaysNothing, has_word}
use Rattle.g1_report.proofs.SaysNothing.{either_way}
use Rattle.std.proofs.Common.{ℕ, ◌-◌, List, [], length, get_or, take, drop, sym, ap, ◌∙◌, Ok}
use Rattle.std.specs.Borrow.{Bor}
use Rattle.std.proofs.lemmas.Iterator.Consumers.{map_from_collect}
use Rattle.g1_text.specs.Reading.{words_in}
use Rattle.g1_text.proofs.White.{YieldsList-from_words}
use Rattle.g1_same.proofs.Steps.{on_ok}
use Rattle.g1_report.specs.Program.{program_of, texts}
use Rattle.g1_report.proofs.NamesText.{blank_said, line_said}
use Rattle.g1_report.proofs.Sayings.{no_words, word_and_rest}
use Rattle.g1_report.proofs.names.Names.add_line.Goals as goal

pub returns-in-empty : goal.returns-in-empty
returns-in-empty c =
    let same = map_from_collect {E = Unit {0}} (Ok c.in_ok-words.words) c.in_ok-words.ensures.ran (YieldsList-from_words c.args.line.now c.split_ascii_whitespace.ensures.text) in
    blank_said _ (words_in c.args.line.now) (program_of c.args.self.now) (no_words (words_in c.args.line.now) c.in_ok-words.words.items c.as_slice.result.now same c.as_slice.ensures.value c.in-empty.len_below)

pub returns : goal.returns
returns c =
    let none : Bor (List ℕ) = record { ref_ptr = (0, 0); now = [] } in
    let same = map_from_collect {E = Unit {0}} (Ok c.in_ok-words.words) c.in_ok-words.ensures.ran (YieldsList-from_words c.args.line.now c.split_ascii_whitespace.ensures.text) in
    let l = c.as_slice.result.now in
    let is : words_in c.args.line.now ≡ (get_or l 0 none).now ∷ texts (take (length l - 1) (drop 1 l)) = sym same ∙ ap texts (sym c.as_slice.ensures.value) ∙ word_and_rest l none c.in-len1-up.len_at_least in
    on_ok c.add.result _ _ (λ r h. either_way r _ _ _ _ (λ t. line_said (words_in c.args.line.now) (get_or l 0 none).now (texts (take (length l - 1) (drop 1 l))) (program_of c.args.self.now) _ is t)
    (λ nothing. (ap has_word is, subst (SaysNothing (program_of c.args.self.now).labels_before) (sym is) nothing)) h) c.add.ensures
