use Rattle.std.proofs.Common.{◌≡◌, refl, sym, ◌∙◌, ap, map}
use Rattle.g1_words.specs.Heap.{Heap}
use Rattle.g1_image.specs.Image.{Image}
use Rattle.g1_rem.specs.EntryCards.{cards_into}
use Rattle.g1_pause.proofs.Planning.{cards_there, set_there, set_leads}
use Rattle.g1_pause.proofs.steps.find_survivors.Given.{Over}
use Rattle.g1_pause.proofs.steps.find_survivors.Goals as goal
use Rattle.g1_pause.proofs.steps.find_survivors.Goals.{After-deref}

the_cards : (g : Over) (c : After-deref g) → c.deref.result.now ≡ cards_into c.heap-heap.result.now (map (λ s. s.items) c.remembered.result.now) c.args.set.now
the_cards g c = c.deref.ensures.value ∙ c.in_ok-cards.ensures.ok

pub cards_into-requires-clause-remembered : goal.cards_into-requires-clause-remembered
cards_into-requires-clause-remembered g c = c.remembered.ensures.one_each ∙ sym (ap (λ (h : Heap). h.geometry.n) (c.heap-heap.ensures.same ∙ ap (λ (j : Image). j.heap) c.image.ensures.same))

pub cards_into-requires-clause-set : goal.cards_into-requires-clause-set
cards_into-requires-clause-set g c =
    let he : c.heap-heap.result.now ≡ c.args.before.now.heap = c.heap-heap.ensures.same ∙ ap (λ (j : Image). j.heap) c.image.ensures.same in
    (set_there c.args.settings.now.cost c.args.settings.now.choice c.args.before.now c.heap-heap.result.now he c.args.set.now c.requires c.args.set.now refl).below

pub discover_seen-requires-clause-window : goal.discover_seen-requires-clause-window
discover_seen-requires-clause-window g c κs within =
    let he : c.heap-heap.result.now ≡ c.args.before.now.heap = c.heap-heap.ensures.same ∙ ap (λ (j : Image). j.heap) c.image.ensures.same in
    set_there c.args.settings.now.cost c.args.settings.now.choice c.args.before.now c.heap-heap.result.now he c.args.set.now c.requires c.args.set.now refl

pub discover_seen-requires-clause-cards : goal.discover_seen-requires-clause-cards
discover_seen-requires-clause-cards g c κs within =
    cards_there c.heap-heap.result.now c.deref.result.now c.args.set.now (map (λ s. s.items) c.remembered.result.now)
    c.cards_lead_in.ensures.outside (the_cards g (goal.at.discover_seen-requires-clause-cards g c).After-deref)

pub discover_seen-requires-clause-outside : goal.discover_seen-requires-clause-outside
discover_seen-requires-clause-outside g c κs within =
    let he : c.heap-heap.result.now ≡ c.args.before.now.heap = c.heap-heap.ensures.same ∙ ap (λ (j : Image). j.heap) c.image.ensures.same in
    (set_leads c.args.settings.now.cost c.args.settings.now.choice c.args.before.now c.heap-heap.result.now he c.args.set.now c.requires
    c.deref.result.now c.args.set.now c.args.set.now (map (λ s. s.items) c.remembered.result.now) c.image.ensures.tracked c.cards_lead_in.ensures.refined c.refined_lead_in.ensures.window
    (the_cards g (goal.at.discover_seen-requires-clause-outside g c).After-deref) refl refl c.remembered.ensures.refined).0

pub discover_seen-requires-clause-lead_in : goal.discover_seen-requires-clause-lead_in
discover_seen-requires-clause-lead_in g c κs within =
    let he : c.heap-heap.result.now ≡ c.args.before.now.heap = c.heap-heap.ensures.same ∙ ap (λ (j : Image). j.heap) c.image.ensures.same in
    (set_leads c.args.settings.now.cost c.args.settings.now.choice c.args.before.now c.heap-heap.result.now he c.args.set.now c.requires
    c.deref.result.now c.args.set.now c.args.set.now (map (λ s. s.items) c.remembered.result.now) c.image.ensures.tracked c.cards_lead_in.ensures.refined c.refined_lead_in.ensures.window
    (the_cards g (goal.at.discover_seen-requires-clause-lead_in g c).After-deref) refl refl c.remembered.ensures.refined).1
