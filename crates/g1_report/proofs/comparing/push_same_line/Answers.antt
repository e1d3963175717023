use Rattle.std.proofs.Common.{ℕ, ◌++◌, ◌∙◌, ap, length, sum_by, string_bytes}
use Rattle.std.specs.Prelude.{codes, decimal}
use Rattle.std.proofs.lemmas.Result.{on_ok_weaker}
use Rattle.g1_words.specs.Heap.{object_at}
use Rattle.g1_report.proofs.comparing.push_same_line.Goals as goal

pub returns : goal.returns
returns c =
    let old = string_bytes c.args.text.now in
    let size : ℕ → ℕ = λ a. (object_at c.args.before.now a).size in
    let many = ap length c.as_slice-addresses.ensures.value in
    let words = c.words_of-words.ensures ∙ ap (sum_by size) c.as_slice-addresses.ensures.value in
    on_ok_weaker c.write.result
    (λ e. e ∙ (λ i. old ++ (codes "same objects " ++ (decimal (many i) ++ (codes " words " ++ (decimal (words i) ++ codes "\n"))))))
    c.write.ensures.bytes
