use Rattle.std.proofs.Common.{◌∷◌, [], sym, subst, refl}
use Rattle.std.specs.Prelude.{IfSome}
use Rattle.g1_words.specs.Heap.{Heap}
use Rattle.g1_words.specs.Survivors.{Survivors}
use Rattle.g1_explain.specs.Searched.{IsFoundPath}
use Rattle.g1_explain.proofs.Reasons.{found_objects, kept_legs, kept_reason}
use Rattle.g1_explain.proofs.Searched.{region_cards}
use Rattle.g1_explain.proofs.keeping.ordinary_reason.Goals as goal

pub discover-requires-clause-cards : goal.discover-requires-clause-cards
discover-requires-clause-cards g c κs within = (region_cards c.args.walkable.now.heap c.heap.result.now c.heap.ensures.same c.heap.ensures.valid.heap c.args.region c.args.cards.now c.args.cards.now refl c.requires.cards).0

pub discover-requires-clause-outside : goal.discover-requires-clause-outside
discover-requires-clause-outside g c κs within = (region_cards c.args.walkable.now.heap c.heap.result.now c.heap.ensures.same c.heap.ensures.valid.heap c.args.region c.args.cards.now c.args.cards.now refl c.requires.cards).1

pub discover-requires-clause-lead_in : goal.discover-requires-clause-lead_in
discover-requires-clause-lead_in g c κs within = (region_cards c.args.walkable.now.heap c.heap.result.now c.heap.ensures.same c.heap.ensures.valid.heap c.args.region c.args.cards.now c.args.cards.now refl c.requires.cards).2

pub path_to-requires : goal.path_to-requires
path_to-requires g c =
    let h : Heap = c.args.walkable.now.heap in
    let found : Survivors h (c.args.region ∷ []) c.deref.result.now =
    subst (Survivors h (c.args.region ∷ [])) (sym c.deref.ensures.value) (subst (λ (g : Heap). Survivors g (c.args.region ∷ []) c.in_ok-found.found.items) c.heap.ensures.same c.in_ok-found.ensures.ok) in
    let cards = region_cards h h refl c.heap.ensures.valid.heap c.args.region c.args.cards.now c.args.cards.now refl c.requires.cards in
    record {
      objects = found_objects h (c.args.region ∷ []) c.deref.result.now c.heap.ensures.valid.heap found;
      search = (c.args.region ∷ [], record { rising = cards.0; outside = cards.1; lead_in = cards.2; survivors = found });
    }

pub kept_by-requires : goal.kept_by-requires
kept_by-requires g c =
    let h : Heap = c.args.walkable.now.heap in
    let found : Survivors h (c.args.region ∷ []) c.deref.result.now =
    subst (Survivors h (c.args.region ∷ [])) (sym c.deref.ensures.value) (subst (λ (g : Heap). Survivors g (c.args.region ∷ []) c.in_ok-found.found.items) c.heap.ensures.same c.in_ok-found.ensures.ok) in
    let cards = region_cards h h refl c.heap.ensures.valid.heap c.args.region c.args.cards.now c.args.cards.now refl c.requires.cards in
    kept_legs c.args.walkable.now c.heap.ensures.valid.heap c.args.at c.args.region c.requires.region c.requires.unrooted c.requires.plain c.args.cards.now c.deref.result.now
    (record { rising = cards.0; outside = cards.1; lead_in = cards.2; survivors = found }) c.in-Some.path.items
    (subst (λ o. IfSome o (λ v. IsFoundPath h c.args.cards.now c.deref.result.now c.args.at v.items)) c.in-Some.is c.in_ok-path.ensures.some)

pub returns-in-Some-clause-reason : goal.returns-in-Some-clause-reason
returns-in-Some-clause-reason g c =
    let h : Heap = c.args.walkable.now.heap in
    let found : Survivors h (c.args.region ∷ []) c.deref.result.now =
    subst (Survivors h (c.args.region ∷ [])) (sym c.deref.ensures.value) (subst (λ (g : Heap). Survivors g (c.args.region ∷ []) c.in_ok-found.found.items) c.heap.ensures.same c.in_ok-found.ensures.ok) in
    let cards = region_cards h h refl c.heap.ensures.valid.heap c.args.region c.args.cards.now c.args.cards.now refl c.requires.cards in
    kept_reason c.args.walkable.now c.heap.ensures.valid.heap c.args.at c.args.region c.requires.region c.requires.unrooted c.requires.plain c.args.cards.now c.deref.result.now
    (record { rising = cards.0; outside = cards.1; lead_in = cards.2; survivors = found }) c.in-Some.path c.kept_by.result
    (subst (λ o. IfSome o (λ v. IsFoundPath h c.args.cards.now c.deref.result.now c.args.at v.items)) c.in-Some.is c.in_ok-path.ensures.some) c.kept_by.ensures
