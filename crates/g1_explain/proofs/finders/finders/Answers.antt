use Rattle.std.proofs.Common.{◌≡◌, ◌∙◌, ◌++◌, inl, inr, [], ap, sym, subst}
use Rattle.g1_words.specs.Heap.{Heap}
use Rattle.g1_explain.specs.Finders.{root_leads, found_leads}
use Rattle.g1_explain.specs.Searched.{met, card_leads, AreObjects}
use Rattle.g1_explain.proofs.Meets.{three_met}
use Rattle.g1_explain.proofs.finders.finders.Goals as goal

pub returns-clause-met : goal.returns-clause-met
returns-clause-met c = λ are.
    let same = c.heap-heap.ensures.same in
    let o = c.in_ok-meet_objects.ensures (subst (λ (g : Heap). AreObjects g c.args.found.now) (sym same) are) in (
      o.0,
      o.1,
      three_met c.args.found.now c.in_ok-finders.finders.items c.meet_roots.new.finders.items c.meet_cards.new.finders.items c.meet_objects.new.finders.items
          (root_leads c.heap-heap.result.now) (card_leads c.args.walkable.now.heap c.args.cards.now) (found_leads c.heap-heap.result.now c.args.found.now o.0)
          c.in_ok-finders.ensures.items c.in_ok-meet_roots.ensures c.in_ok-meet_cards.ensures o.3
          ∙ ap (λ (g : Heap). met c.args.found.now [] (root_leads g ++ (card_leads c.args.walkable.now.heap c.args.cards.now ++ found_leads g c.args.found.now o.0))) same,
    )

pub returns-clause-enough : goal.returns-clause-enough
returns-clause-enough c = λ are.
    let same = c.heap-heap.ensures.same in
    let h : Heap = c.args.walkable.now.heap in
    let o = c.in_ok-meet_objects.ensures (subst (λ (g : Heap). AreObjects g c.args.found.now) (sym same) are) in
    let all : c.meet_objects.new.finders.items ≡ met c.args.found.now [] (root_leads h ++ (card_leads h c.args.cards.now ++ found_leads h c.args.found.now o.0)) =
    three_met c.args.found.now c.in_ok-finders.finders.items c.meet_roots.new.finders.items c.meet_cards.new.finders.items c.meet_objects.new.finders.items
    (root_leads c.heap-heap.result.now) (card_leads h c.args.cards.now) (found_leads c.heap-heap.result.now c.args.found.now o.0)
    c.in_ok-finders.ensures.items c.in_ok-meet_roots.ensures c.in_ok-meet_cards.ensures o.3
    ∙ ap (λ (g : Heap). met c.args.found.now [] (root_leads g ++ (card_leads h c.args.cards.now ++ found_leads g c.args.found.now o.0))) same in
    elim o.2 [
      | inl e ↦ inr (subst (λ m. c.meet_objects.new.finders.items ≡ met c.args.found.now [] (root_leads h ++ (card_leads h c.args.cards.now ++ found_leads h c.args.found.now m))) e all)
      | inr l ↦ inl l
    ]
