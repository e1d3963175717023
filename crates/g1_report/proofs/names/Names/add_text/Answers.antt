use Rattle.std.proofs.Common.{ℕ, ◌-◌, List, [], ◌∷◌, length, get_or, take, drop, map, codes, sym, ap, ◌∙◌}
use Rattle.std.specs.Borrow.{Bor}
use Rattle.g1_report.specs.Program.{program_of, texts}
use Rattle.g1_report.proofs.Sayings.{text_taken, pushed, word_and_rest, some_left}
use Rattle.g1_report.proofs.names.Names.add_text.Goals as goal

pub returns-in_ok-push-in-len1-up : goal.returns-in_ok-push-in-len1-up
returns-in_ok-push-in-len1-up c =
    let none : Bor (List ℕ) = record { ref_ptr = (0, 0); now = [] } in
    let words = c.args.words.now in
    let word = get_or words 0 none in
    let rest = take (length words - 1) (drop 1 words) in
    let text = c.in_ok-from_slice-in-len1-up.field-0 in
    text_taken (program_of c.args.self.now) (codes "text" ∷ texts words) (map (λ line. (line.0, texts line.1.items)) c.push.new.self.items) c.in-Some.number word.now (texts text.items)
    (pushed (λ line. (line.0, texts line.1.items)) c.push.new.self.items c.args.self.now.texts.items (c.in-Some.number, text) c.in_ok-push-in-len1-up.ensures.items)
    (ap (λ l. codes "text" ∷ l) (word_and_rest words none c.in-len1-up.len_at_least) ∙ ap (λ r. codes "text" ∷ word.now ∷ texts r) (sym c.in_ok-from_slice-in-len1-up.ensures.items))
    (some_left rest text.items c.is_empty.result c.is_empty.ensures c.if-not-is_empty.true c.in_ok-from_slice-in-len1-up.ensures.items) c.in-Some.ensures.form
