use Rattle.std.proofs.Common.{◌≡◌, ◌<◌, ◌∙◌, ◌*◌, ◌/◌, ◌∷◌, ℕ, List, [], length, arith, eqb-true, refl, ap, sym, subst, Contains}
use Rattle.g1_words.specs.Heap.{Heap}
use Rattle.g1_words.specs.Lists.{has}
use Rattle.g1_words.specs.Marks.{AreMarked}
use Rattle.g1_rem.specs.Starts.{card_count}
use Rattle.g1_rem.proofs.Dirty.{dirty_told, dirty_inside, none_dirty}
use Rattle.g1_rem.proofs.cover.dirty_marks.Goals as goal
use Rattle.g1_rem.proofs.cover.dirty_marks.Goals.{then-is_empty, else-is_empty}

pub returns : goal.returns
returns c =
    let i = c.args.image.now in
    let log : c.as_slice-log.result.now ≡ c.args.image.now.log = c.as_slice-log.ensures.keys ∙ c.log.ensures in
    let below : (x : ℕ) → Contains c.args.image.now.log x → x < c.if-is_empty.cards =
    elim c.if-is_empty.branch [
      | then-is_empty w ↦ (λ x k. none_dirty c.args.image.now.log x c.if-is_empty.cards (sym log
          ∙ no_items c.as_slice-log.result.now (eqb-true (length c.as_slice-log.result.now) 0 (sym c.is_empty.ensures ∙ w.if-is_empty.true))) k)
      | else-is_empty w ↦ (λ x k.
          let count : w.cards-cards.result ≡ card_count c.args.image.now.heap =
          w.cards-cards.ensures.value ∙ ap (λ g. g.n * g.w / g.k) w.geometry.ensures.same ∙ ap (λ (h : Heap). h.geometry.n * h.geometry.w / h.geometry.k) w.heap.ensures.same in
          let inside = dirty_inside i x w.heap.ensures.valid k in
          omega (arith, inside, count, w.cards-is))
    ] in
    let marked : AreMarked (has c.args.image.now.log) c.in_ok-dirty.dirty c.set_each.new.self =
    subst (λ l. AreMarked (has l) c.in_ok-dirty.dirty c.set_each.new.self) log c.set_each.ensures in
    dirty_told i c.if-is_empty.cards c.in_ok-dirty.dirty c.set_each.new.self c.in_ok-dirty.ensures marked below
  where
    no_items : (xs : List ℕ) → length xs ≡ 0 → xs ≡ []
    no_items [] e = refl
    no_items (x ∷ xs) e = absurd (omega (arith, e))
