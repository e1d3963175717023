use Rattle.std.proofs.Common.{◌≡◌, ◌∙◌, ◌++◌, ℕ, List, length, filter, ap, string_bytes}
use Rattle.std.proofs.lemmas.Result.{on_ok_weaker}
use Rattle.g1_words.specs.declared.region.Region.{Region}
use Rattle.g1_words.specs.Heap.{is_free}
use Rattle.g1_text.specs.Lines.{further}
use Rattle.g1_explain.specs.Totals.{counts_words}
use Rattle.g1_explain.proofs.totals.push_counts.Goals as goal

pub returns : goal.returns
returns c =
    let w = c.args.written.now in
    let old = string_bytes c.args.text.now in
    let new = string_bytes c.writeln.new.self in
    let before : c.free_count-before.result ≡ length (filter (λ q. is_free q.kind) c.args.heap.now.regions) =
    c.free_count-before.ensures ∙ ap (λ (l : List Region). length (filter (λ q. is_free q.kind) l)) c.regions.ensures in
    let after : c.free_count-after.result ≡ length (filter (λ q. is_free q.kind) w.prepared.now.regions) =
    c.free_count-after.ensures ∙ ap (λ (l : List Region). length (filter (λ q. is_free q.kind) l)) c.regions-2.ensures in
    let counted : List (List ℕ) = counts_words w.cards w.slots c.free_count-before.result c.free_count-after.result in
    let counts : List (List ℕ) = counts_words w.cards w.slots (length (filter (λ q. is_free q.kind) c.args.heap.now.regions)) (length (filter (λ q. is_free q.kind) w.prepared.now.regions)) in
    let same : counted ≡ counts = λ t. counts_words w.cards w.slots (before t) (after t) in
    let line : new ≡ old ++ further counted → new ≡ old ++ further counts = λ e. e ∙ ap (λ l. old ++ further l) same in
    on_ok_weaker c.writeln.result line c.writeln.ensures.bytes
