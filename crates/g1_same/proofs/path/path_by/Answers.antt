use Rattle.std.proofs.Common.{arith, ap, subst, sym, suc, ℕ, [], ◌∷◌, ◌++◌, ◌≡◌, ◌<◌, ◌-◌, ◌∙◌, length, reverse, slice_index, append_assoc}
use Rattle.std.proofs.lemmas.List.{get_or_read, reverse-append}
use Rattle.g1_same.specs.declared.walk.Walk.{Walk}
use Rattle.g1_same.specs.Walk.{IsRoute, root, slot}
use Rattle.g1_same.proofs.path.path_by.Goals as goal

pub loop-from-preserved : goal.loop-from-preserved
loop-from-preserved c =
    let w : Walk = c.args.walk.now in
    let j : ℕ = c.loop-from.from - 1 in
    let is : suc j ≡ c.loop-from.from = omega (arith, c.loop-from-test.true) in
    let lt : j < length w.before.items = omega (arith, c.loop-from-test.true, c.loop-from.invariant.within) in
    let f : c.index-from.result.now ≡ slice_index w.from.items j = get_or_read w.from.items j c.index-from.result.now (omega (arith, lt, c.requires.ways.froms)) c.index-from.ensures 0 in
    let n : c.index-number.result.now ≡ slice_index w.number.items j = get_or_read w.number.items j c.index-number.result.now (omega (arith, lt, c.requires.ways.numbers)) c.index-number.ensures 0 in
    let back = c.requires.ways.backward j lt in
    record {
      within = omega (arith, back, f, lt);
      route = λ p r.
          let r' : IsRoute w (slice_index w.from.items j) (slice_index w.number.items j) p =
          subst (λ z. IsRoute w z (slice_index w.number.items j) p) f (subst (λ z. IsRoute w c.index-from.result.now z p) n r) in
          let s : IsRoute w (suc j) c.loop-from.number (p ++ c.loop-from.number ∷ []) = slot j c.loop-from.number p lt r' in
          let u = c.loop-from.invariant.route (p ++ c.loop-from.number ∷ []) (subst (λ z. IsRoute w z c.loop-from.number (p ++ c.loop-from.number ∷ [])) is s) in
          let e : (p ++ c.loop-from.number ∷ []) ++ reverse c.loop-from.slots.items ≡ p ++ reverse c.push.new.self.items =
          append_assoc p (c.loop-from.number ∷ []) (reverse c.loop-from.slots.items)
          ∙ ap (λ l. p ++ l) (sym (ap reverse c.in_ok-push.ensures.items ∙ reverse-append c.loop-from.slots.items (c.loop-from.number ∷ []))) in
          subst (IsRoute w c.args.way.from c.args.way.number) e u;
    }

pub returns : goal.returns
returns c =
    let w : Walk = c.args.walk.now in
    let n : ℕ = c.loop-from.number in
    let none : 0 ≡ c.loop-from.from = omega (arith, c.loop-from-test.false) in
    let u = c.loop-from.invariant.route (n ∷ []) (subst (λ z. IsRoute w z n (n ∷ [])) none (root n)) in
    subst (λ l. IsRoute w c.args.way.from c.args.way.number (n ∷ l)) (sym c.reverse.ensures.items) u
