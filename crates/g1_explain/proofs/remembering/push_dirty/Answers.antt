use Rattle.std.proofs.Common.{◌∙◌, ◌≡◌, ℕ, List, All, map, sym, ap, subst, string_bytes}
use Rattle.std.specs.List.Sorted.{IsStrictlyIncreasing, IsNonDecreasingBy}
use Rattle.std.proofs.lemmas.Result.{on_ok_weaker}
use Rattle.g1_explain.proofs.DirtyLines.{dirty_end, sets_rise}
use Rattle.g1_explain.proofs.StepLines.{refined_rise}
use Rattle.g1_explain.proofs.remembering.push_dirty.Goals as goal

pub returns : goal.returns
returns c = λ same.
    let i = c.args.image.now in
    let old : All IsStrictlyIncreasing (map (λ s. s.items) c.remembered.result.now) = subst (All IsStrictlyIncreasing) (sym c.remembered.ensures) (sets_rise i c.heap.ensures.valid) in
    let new : All IsStrictlyIncreasing (map (λ s. s.items) c.args.after.now) = subst (All IsStrictlyIncreasing) (sym same) (refined_rise i) in
    let ps : List (ℕ × ℕ) = c.in_ok-gained.gained.items in
    let rise : IsNonDecreasingBy (λ (x : ℕ × ℕ). x.0) c.deref.result.now = subst (IsNonDecreasingBy (λ (x : ℕ × ℕ). x.0)) (sym c.deref.ensures.value) c.in_ok-gained.ensures.rise in
    on_ok_weaker c.push_dirty_cards.result
    (λ e. dirty_end i (map (λ s. s.items) c.remembered.result.now) (map (λ s. s.items) c.args.after.now) c.as_slice-cards.result.now c.deref.result.now (string_bytes c.args.text.now) (string_bytes c.push_dirty_cards.new.text)
    c.remembered.ensures same (c.as_slice-cards.ensures.keys ∙ c.log.ensures)
    (λ x. ap (λ (l : List (ℕ × ℕ)). map (λ y. y.1) (Rattle.std.specs.List.filter (λ y. Rattle.std.proofs.Common.eqb y.0 x) l)) c.deref.ensures.value ∙ c.in_ok-gained.ensures.each old new x) e)
    (c.push_dirty_cards.ensures rise)
