use Rattle.std.proofs.Common.{◌++◌, ◌∙◌, sym, ap, string_bytes}
use Rattle.std.specs.Prelude.{codes, decimal}
use Rattle.std.specs.List.{join_with_byte}
use Rattle.std.specs.Str.{byte}
use Rattle.std.proofs.lemmas.Result.{on_ok_weaker}
use Rattle.g1_report.specs.Program.{texts}
use Rattle.g1_report.proofs.Joined.{joined}
use Rattle.g1_words.proofs.Lists.{in_front}
use Rattle.g1_report.proofs.comparing.push_text.Goals as goal

pub returns : goal.returns
returns c =
    let old = string_bytes c.args.text.now in
    let first = string_bytes c.push_str.new.self in
    let second = string_bytes c.push_apart.new.text in
    let last = string_bytes c.write.new.self in
    let words = join_with_byte (byte " ") (texts c.args.said.now) in
    let rest = codes " (" ++ (decimal c.args.word ++ codes ")") in
    on_ok_weaker c.write.result
    (λ e. joined old first last (codes "\"") (words ++ (codes "\"" ++ rest)) c.in_ok-push_str.ensures.bytes (joined first second last words (codes "\"" ++ rest) c.in_ok-push_apart.ensures e)
    ∙ ap (λ xs. old ++ xs) (sym (in_front (codes "\"") words (codes "\"") rest)))
    c.write.ensures.bytes
