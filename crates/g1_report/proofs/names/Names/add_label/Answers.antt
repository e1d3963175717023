use Rattle.std.proofs.Common.{ℕ, List, [], ◌∷◌, get_or, codes, ap}
use Rattle.std.specs.Borrow.{Bor}
use Rattle.g1_report.specs.Program.{program_of, texts, text_lines}
use Rattle.g1_report.proofs.Sayings.{label_taken, pushed, two_words}
use Rattle.g1_report.proofs.names.Names.add_label.Goals as goal

pub returns : goal.returns
returns c =
    let none : Bor (List ℕ) = record { ref_ptr = (0, 0); now = [] } in
    let words = c.args.words.now in
    let name = get_or words 1 none in
    label_taken (program_of c.args.self.now) (codes "label" ∷ texts words) (text_lines c.push.new.self.items) c.in-Some.word (get_or words 0 none).now name.now
    (pushed (λ line. (line.0, line.1.now)) c.push.new.self.items c.args.self.now.labels.items (c.in-Some.word, name) c.in_ok-push.ensures.items)
    (ap (λ l. codes "label" ∷ l) (two_words words none none c.in-len2.len_at_least c.in-len2.len_below)) c.in-Some.ensures.form
