use Rattle.std.proofs.Common.{map, ◌∙◌}
use Rattle.g1_frontier.proofs.Leading.{remembered_one_each}
use Rattle.g1_pause.proofs.Planning.{cards_there}
use Rattle.g1_pause.proofs.NamedPauses.{set_leads}
use Rattle.g1_rows.proofs.copying.found.Goals as goal

pub cards_into-requires-clause-remembered : goal.cards_into-requires-clause-remembered
cards_into-requires-clause-remembered g c =
    remembered_one_each (λ s. s.items) c.args.tracked.now c.image.result.now c.heap-heap.result.now c.args.remembered.now c.image.ensures.same c.heap-heap.ensures.same c.requires.remembered

pub searched-requires-clause-cards : goal.searched-requires-clause-cards
searched-requires-clause-cards g c κs within =
    cards_there c.heap-heap.result.now c.as_slice-cards.result.now c.args.set.now (map (λ s. s.items) c.args.remembered.now)
    c.cards_lead_in.ensures.outside (c.as_slice-cards.ensures.value ∙ c.in_ok-into.ensures.ok)

pub searched-requires-clause-outside : goal.searched-requires-clause-outside
searched-requires-clause-outside g c κs within =
    (set_leads c.image.result.now c.args.tracked.now c.image.ensures.same c.heap-heap.result.now c.heap-heap.ensures.same c.heap-heap.ensures.valid c.image.ensures.covered
    c.args.set.now c.requires.regions c.requires.ordinary
    c.as_slice-cards.result.now (map (λ s. s.items) c.args.remembered.now) c.cards_lead_in.ensures.refined c.refined_lead_in.ensures.window
    (c.as_slice-cards.ensures.value ∙ c.in_ok-into.ensures.ok) c.requires.remembered).0

pub searched-requires-clause-lead_in : goal.searched-requires-clause-lead_in
searched-requires-clause-lead_in g c κs within =
    (set_leads c.image.result.now c.args.tracked.now c.image.ensures.same c.heap-heap.result.now c.heap-heap.ensures.same c.heap-heap.ensures.valid c.image.ensures.covered
    c.args.set.now c.requires.regions c.requires.ordinary
    c.as_slice-cards.result.now (map (λ s. s.items) c.args.remembered.now) c.cards_lead_in.ensures.refined c.refined_lead_in.ensures.window
    (c.as_slice-cards.ensures.value ∙ c.in_ok-into.ensures.ok) c.requires.remembered).1
