use Rattle.std.proofs.Common.{List, ℕ, Bor, length, sym, ◌∙◌, ap, arith}
use Rattle.std.specs.Prelude.{flat_map}
use Rattle.std.proofs.lemmas.List.{take_all}
use Rattle.std.proofs.lemmas.List.Folds.{flat_map-map}
use Rattle.g1_text.specs.Boxes.{box_line}
use Rattle.g1_text.specs.Marked.{names_found}
use Rattle.g1_text.proofs.boxes.box_lines.Goals as goal

pub returns : goal.returns
returns c =
    let f = box_line (names_found c.args.found.now) in
    let keys = c.args.found.now.words.keys in
    let long = ap length c.as_slice-word-items.ensures.keys in
    c.loop-word.invariant ∙ ap (flat_map (λ (k : Bor (List ℕ)). f k.now)) (take_all c.loop-word.word-index keys (omega (arith, long, c.loop-word-test.false)))
    ∙ sym (flat_map-map f (λ (k : Bor (List ℕ)). k.now) keys)
