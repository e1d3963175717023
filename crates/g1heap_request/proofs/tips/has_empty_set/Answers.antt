use Rattle.std.proofs.Common.{◌≡◌, ◌∙◌, true≢false, eq-or-lt_of_le, ⊎_elim, ap, arith, bytes_eq, codes, map, slice_index_or, sym}
use Rattle.std.proofs.lemmas.List.{get_or-map}
use Rattle.g1heap_request.proofs.tips.has_empty_set.Goals as goal

pub loop-word-preserved : goal.loop-word-preserved
loop-word-preserved c = λ k l e.
    let words = c.args.words.now in
    let here : k ≡ c.loop-word.word-index → ⊥ = λ same.
    let word : c.as_str.result.now ≡ codes "--set" =
    c.as_str.ensures.value ∙ ap (λ w. w.bytes.items) c.word-item.is ∙ sym (get_or-map (λ w. w.bytes.items) words c.loop-word.word-index c.word-item.result (codes "--set") c.loop-word-test.true)
    ∙ ap (λ i. slice_index_or (map (λ w. w.bytes.items) words) i (codes "--set")) (sym same) ∙ e in
    true≢false (ap (λ t. bytes_eq t (codes "--set")) (sym word) ∙ sym c.eq.ensures ∙ c.if-eq.false) in
    ⊎_elim here (λ below. c.loop-word.invariant k below e) (eq-or-lt_of_le (omega (arith, l)))
