use Rattle.std.proofs.Common.{◌≡◌, ◌∙◌, ◌<◌, ◌++◌, ℕ, true, false, ◌||◌, [], ◌∷◌, length, slice_index_or, set, sym, ap, eqb, arith}
use Rattle.std.proofs.Common.{length-set}
use Rattle.std.proofs.lemmas.Cmp.{nat_eq_equiv}
use Rattle.std.proofs.lemmas.Map.Keys.{IsDistinct-push}
use Rattle.g1_words.specs.Lists.{has}
use Rattle.g1_words.proofs.Marked.{any_more, marked_one}
use Rattle.g1_command.specs.declared.lists.Named.{Named}
use Rattle.g1_command.specs.Lists.{IsNamed}
use Rattle.g1_command.proofs.lists.push_region.Goals as goal
use Rattle.g1_command.proofs.lists.push_region.Goals.{then-at-len-via-then-at-len, then-at-len-via-else-at-len+then-is_set}

named_more : (old new : Named) (r : ℕ) → IsNamed old → r < 4096 → slice_index_or old.seen r false ≡ false → new.seen ≡ set old.seen r true → new.regions.items ≡ old.regions.items ++ r ∷ [] → IsNamed new
named_more old new r named low free marks pushed = record {
  once = rw pushed (IsDistinct-push nat_eq_equiv old.regions.items r named.once (sym (named.marked r low) ∙ free));
  room = ap length marks ∙ length-set old.seen r true ∙ named.room;
  marked = λ x lt.
      let within : x < length old.seen = omega (arith, lt, named.room) in
      let here : r < length old.seen = omega (arith, low, named.room) in
      ap (λ m. slice_index_or m x false) marks ∙ (marked_one old.seen r here).each x within ∙ ap (λ b. b || eqb x r) (named.marked x lt)
      ∙ sym (any_more (λ y. eqb x y) old.regions.items r) ∙ ap (λ xs. has xs x) (sym pushed);
}

pub returns-then-at-len : goal.returns-then-at-len
returns-then-at-len c =
    elim c.then-at-len.branch [
      | then-at-len-via-then-at-len w ↦ absurd (omega (arith, w.if-at-len.true, c.len.ensures, c.requires.named.room, c.requires.low))
      | then-at-len-via-else-at-len+then-is_set w ↦ sym (c.requires.named.marked c.args.region c.requires.low) ∙ sym w.is_set.ensures ∙ w.if-is_set.true
    ]

pub returns : goal.returns
returns c =
    (c.in_ok-push.ensures.items, named_more c.args.named.now _ c.args.region c.requires.named c.requires.low (sym c.is_set.ensures ∙ c.if-is_set.false) c.set.ensures c.in_ok-push.ensures.items)
