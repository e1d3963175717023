use Rattle.std.proofs.Common.{◌++◌, ◌∙◌, ap, sym, arith, flat_map, string_bytes}
use Rattle.g1_text.specs.Lines.{line_text}
use Rattle.g1_text.proofs.Printed.{take_all, text_map}
use Rattle.g1_tables.specs.Tables.{line_of}
use Rattle.g1_tables.proofs.listing.push_candidates.Goals as goal

pub returns : goal.returns
returns c =
    let old = string_bytes c.args.text.now in
    let word = c.args.word.now in
    let all = c.args.candidates.now in
    c.loop-candidate.invariant ∙ ap (λ xs. old ++ flat_map (λ x. line_text (line_of word x)) xs) (take_all c.loop-candidate.candidate-index all (omega (arith, c.loop-candidate-test.false)))
    ∙ ap (λ ys. old ++ ys) (sym (text_map (line_of word) all))
