use Rattle.std.proofs.Common.{◌≡◌, drop, ◌∙◌, ap, arith}
use Rattle.std.proofs.lemmas.Result.{on_ok_weaker}
use Rattle.g1_text.specs.Drafts.{content}
use Rattle.g1_text.specs.Reading.{words_in}
use Rattle.g1_text.proofs.NamedWords.{behind_size, texts}
use Rattle.g1_text.proofs.filling.fill_object.Goals as goal

pub returns-clause-words : goal.returns-clause-words
returns-clause-words c = λ g o located is small.
    let all = c.as_slice-whole.result.now in
    let line : texts c.split_at.result.1.now ≡ drop 3 (words_in c.args.entry.now.line.now) =
    behind_size all (words_in c.args.entry.now.line.now) c.min.result c.split_at.result.1.now (ap texts c.as_slice-whole.ensures.value ∙ c.in_ok-cut_words.ensures) (omega (arith, c.min.ensures)) c.split_at.ensures.back in
    on_ok_weaker c.fill_words.result (λ r. (r.0, r.1, (λ i. record (content c.args.draft.now) { words = r.2 i }))) (c.fill_words.ensures.words g o located is line)

pub returns-clause-stale : goal.returns-clause-stale
returns-clause-stale c = λ g o located is small.
    let all = c.as_slice-whole.result.now in
    let line : texts c.split_at.result.1.now ≡ drop 3 (words_in c.args.entry.now.line.now) =
    behind_size all (words_in c.args.entry.now.line.now) c.min.result c.split_at.result.1.now (ap texts c.as_slice-whole.ensures.value ∙ c.in_ok-cut_words.ensures) (omega (arith, c.min.ensures)) c.split_at.ensures.back in
    c.fill_words.ensures.stale g o located is small line
