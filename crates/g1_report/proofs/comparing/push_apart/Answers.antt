use Rattle.std.proofs.Common.{ℕ, List, ◌++◌, ◌∙◌, flat_map, sym, ap, string_bytes}
use Rattle.std.specs.Prelude.{codes}
use Rattle.std.specs.Borrow.{Bor}
use Rattle.std.specs.List.{join_with_byte}
use Rattle.std.specs.Str.{byte}
use Rattle.std.proofs.lemmas.Result.{on_ok_weaker}
use Rattle.g1_report.specs.Program.{texts}
use Rattle.g1_report.proofs.Joined.{joined}
use Rattle.g1_report.proofs.Apart.{joined_apart}
use Rattle.g1_report.proofs.comparing.push_apart.Goals as goal

pub returns-in_ok-push_str-in-Some : goal.returns-in_ok-push_str-in-Some
returns-in_ok-push_str-in-Some c =
    let old = string_bytes c.args.text.now in
    let now = string_bytes c.push_str.new.self in
    let new = string_bytes c.push_behind.new.text in
    let x : Bor (List ℕ) = c.in-Some.first.now in
    let xs : List (Bor (List ℕ)) = c.in-Some.rest.now in
    on_ok_weaker c.push_behind.result
    (λ e. joined old now new x.now (flat_map (λ (word : Bor (List ℕ)). codes " " ++ word.now) xs) c.in_ok-push_str-in-Some.ensures.bytes e
    ∙ ap (λ ws. old ++ ws) (joined_apart x xs) ∙ ap (λ ws. old ++ join_with_byte (byte " ") (texts ws)) (sym c.in-Some.ensures.cases.0))
    c.push_behind.ensures
