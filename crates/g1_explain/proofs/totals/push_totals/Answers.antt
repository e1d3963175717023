use Rattle.std.proofs.Common.{rules, ◌≡◌, ◌∙◌, ◌++◌, ◌*◌, ℕ, List, length, filter, ap, string_bytes}
use Rattle.std.proofs.lemmas.Result.{on_ok_weaker}
use Rattle.g1_words.specs.Heap.{is_free}
use Rattle.g1_text.specs.Lines.{line_text}
use Rattle.g1_explain.specs.Places.{within_64}
use Rattle.g1_explain.specs.Totals.{counts_words, totals_line}
use Rattle.g1_explain.proofs.TotalsLine.{totals_end}
use Rattle.g1_explain.proofs.totals.push_totals.Goals as goal

pub returns : goal.returns
returns c =
    let w = c.args.written.now in
    let old = string_bytes c.args.text.now in
    let new = string_bytes c.push_counts.new.text in
    let counts : List (List ℕ) = counts_words w.cards w.slots (length (filter (λ q. is_free q.kind) c.args.heap.now.regions)) (length (filter (λ q. is_free q.kind) w.prepared.now.regions)) in
    let product : c.saturating_mul-bytes.result ≡ within_64 (c.words.result * 8) = search rules in
    let bytes : c.saturating_mul-bytes.result ≡ within_64 (w.plan.now.words * 8) = product ∙ ap (λ n. within_64 (n * 8)) c.words.ensures in
    on_ok_weaker c.push_counts.result
    (λ e. totals_end old (string_bytes c.write.new.self) (string_bytes c.write-2.new.self) new (length c.set.result.now) (length c.humongous.result.now) (length c.survivors.result.now) c.saturating_mul-bytes.result counts
    c.in_ok-write.ensures.bytes c.in_ok-write-2.ensures.bytes e
    ∙ (λ t. old ++ line_text (totals_line (length (c.set.ensures t)) (length (c.humongous.ensures t)) (length (c.survivors.ensures t)) (bytes t) counts))) c.push_counts.ensures
