use Rattle.std.proofs.Common.{ℕ, ◌+◌, List, drop, sym, ap, ◌∙◌}
use Rattle.std.specs.Borrow.{Bor}
use Rattle.std.proofs.lemmas.List.{drop-map}
use Rattle.g1_report.specs.Program.{texts}
use Rattle.g1_report.proofs.Border.{drop_one}
use Rattle.g1_report.proofs.names.data_names.Goals as goal

pub returns : goal.returns
returns c =
    let l = c.args.words.now in
    let now : Bor (List ℕ) → List ℕ = λ b. b.now in
    let rest = c.split_at.result.1.now in
    ap texts (c.split_at-2.ensures.back ∙ (λ i. drop (c.min.ensures i) rest) ∙ drop_one c.border.result l rest c.split_at.ensures.back)
    ∙ sym (drop-map now (c.border.result + 1) l) ∙ ap (λ n. drop (n + 1) (texts l)) c.border.ensures.value
