use Rattle.std.proofs.Common.{ℕ, ◌+◌, ◌++◌, ◌∷◌, [], ◌∙◌, map, slice_index, append-nil, ap, sym, arith}
use Rattle.std.proofs.lemmas.List.{append_assoc}
use Rattle.g1_copy.specs.Links.{cards_by_region}
use Rattle.g1_copy.proofs.CopiedWords.{filled_slot, first_below, first_slots, null_slot}
use Rattle.g1_copy.proofs.copied_cards.add_object.Goals as goal
use Rattle.g1_copy.proofs.copied_cards.add_object.Goals.{then-word-ne0+in_ok-add_slot, else-word-ne0}

pub loop-k-init : goal.loop-k-init
loop-k-init c = λ before low e. e ∙ ap (cards_by_region c.args.heap.now) (sym (append-nil before))

pub loop-k-preserved : goal.loop-k-preserved
loop-k-preserved c =
    let h = c.args.heap.now in
    let xs = c.args.words.now in
    let k = c.loop-k.k in
    elim c.if-word-ne0.branch [
      | then-word-ne0+in_ok-add_slot w ↦ λ before low e.
          let next : ℕ × ℕ = (c.args.place + c.loop-k.k + 1, slice_index c.args.words.now (c.args.at + c.loop-k.k + 1)) in
          ap (map (λ s. s.items)) w.lists-is
          ∙ w.in_ok-add_slot.ensures (before ++ first_slots xs c.args.at c.args.place k) (first_below xs c.args.at c.args.place before k low) (c.loop-k.invariant before low e)
          ∙ ap (cards_by_region h) (append_assoc before (first_slots xs c.args.at c.args.place k) (next ∷ [])
          ∙ ap (λ ys. before ++ ys) (sym (filled_slot xs c.args.at c.args.place k w.if-word-ne0.true)))
      | else-word-ne0 w ↦ λ before low e.
          ap (map (λ s. s.items)) w.lists-is ∙ c.loop-k.invariant before low e ∙ ap (λ ys. cards_by_region h (before ++ ys)) (sym (null_slot xs c.args.at c.args.place k w.if-word-ne0.false))
    ]

pub loop-k-smaller : goal.loop-k-smaller
loop-k-smaller c = omega (arith, c.loop-k-test.true)
