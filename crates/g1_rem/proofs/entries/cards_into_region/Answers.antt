use Rattle.std.proofs.Common.{◌≡◌, ◌∙◌, [], ap, arith}
use Rattle.g1_words.specs.Heap.{Heap}
use Rattle.g1_rem.specs.Ahead.{LeadAhead}
use Rattle.g1_rem.proofs.Leading.{all_covered, all_exact, lead_start, lead_end}
use Rattle.g1_rem.proofs.entries.cards_into_region.Goals as goal
use Rattle.g1_rem.proofs.entries.cards_into_region.Goals.{After-loop-other}

-- after the last region no slot is ahead
none_ahead : (c : After-loop-other) → LeadAhead c.args.image.now c.args.region [] c.loop-other.cards.items
none_ahead c =
    let n : c.regions-other-end.result ≡ c.args.image.now.heap.geometry.n =
    c.regions-other-end.ensures.value ∙ ap (λ g. g.n) c.geometry.ensures.same ∙ ap (λ (h : Heap). h.geometry.n) c.heap.ensures.same in
    lead_end c.args.image.now c.heap.ensures.valid c.args.region c.loop-other.other c.loop-other.cards.items (omega (
      arith,
      c.loop-other-test.false,
      n,
    )) c.loop-other.invariant

pub loop-other-init : goal.loop-other-init
loop-other-init c = lead_start c.args.image.now c.heap.ensures.valid c.args.region c.new-cards.result.items c.new-cards.ensures.items

pub returns-clause-cards : goal.returns-clause-cards
returns-clause-cards c =
    all_exact c.args.image.now c.heap.ensures.valid c.args.region c.loop-other.cards.items (none_ahead (goal.at.returns-clause-cards c).After-loop-other)

pub returns-clause-covered : goal.returns-clause-covered
returns-clause-covered c =
    all_covered c.args.image.now c.heap.ensures.valid c.args.region c.loop-other.cards.items (none_ahead (goal.at.returns-clause-covered c).After-loop-other)
