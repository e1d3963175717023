use Rattle.std.proofs.Common.{◌≡◌, ◌<◌, ℕ, All, IfOk, filter, length, map, sym, ◌∙◌, ap, subst}
use Rattle.std.proofs.lemmas.List.{length-map}
use Rattle.std.proofs.lemmas.List.FromFn.{length-map-range_with_len}
use Rattle.g1_words.specs.Heap.{Heap, region_of, regions}
use Rattle.g1_image.specs.Cards.{IsTracked}
use Rattle.g1_words.specs.Layout.{HasRoom}
use Rattle.g1_after.specs.Made.{heap_moved}
use Rattle.g1_after.specs.Moved.{remembered_moved}
use Rattle.g1_after.specs.Unnamed.{unnamed}
use Rattle.g1_rem.specs.Starts.{card_count}
use Rattle.g1_copy.specs.Plans.{IsPauseOf, Pausing}
use Rattle.g1_copy.specs.Remembered.{cards_at}
use Rattle.g1_copy.specs.Unnamed.{is_unnamed}
use Rattle.g1_copy.proofs.Ground.{room_of}
use Rattle.g1_copy.proofs.UnnamedFirsts.{cards_there, firsts_are}
use Rattle.g1_copy.proofs.unnamed.unnamed.Goals as goal
use Rattle.g1_copy.proofs.unnamed.unnamed.Goals.{After-heap_of-heap}

the_tracked : (c : After-heap_of-heap) → IsTracked c.args.pausing.now.image
the_tracked c = subst (λ (v : Pausing). IsTracked v.image) c.pausing.view_is c.heap_of-heap.ensures.tracked

the_heap : (c : After-heap_of-heap) → c.heap_of-heap.result.now ≡ c.args.pausing.now.image.heap
the_heap c = c.heap_of-heap.ensures.same ∙ ap (λ (v : Pausing). v.image.heap) c.pausing.view_is

room : (c : After-heap_of-heap) → HasRoom c.args.pausing.now.image.heap c.args.pausing.now.plan.set c.args.pausing.now.plan.survivors
room c =
    let v : Pausing = c.args.pausing.now in
    let pause : IsPauseOf v.image.heap v.set v.plan = subst (λ (v : Pausing). IsPauseOf v.image.heap v.set v.plan) c.pausing.view_is c.pausing.invariant.plan in
    subst (λ s. HasRoom v.image.heap s v.plan.survivors) (sym pause.same) (room_of v.image.heap v.set v.plan pause)

pub unnamed_firsts-requires-clause-one_each : goal.unnamed_firsts-requires-clause-one_each
unnamed_firsts-requires-clause-one_each c =
    let i = c.args.pausing.now.image in
    let p = c.args.pausing.now.plan in
    let he = the_heap (goal.at.unnamed_firsts-requires-clause-one_each c).After-heap_of-heap in
    sym (length-map c.args.remembered.now (λ s. s.items)) ∙ ap length c.requires.remembered
    ∙ length-map-range_with_len (remembered_moved i p.set p.survivors (heap_moved i.heap p.set p.survivors)) 0 i.heap.geometry.n
    ∙ ap (λ (h : Heap). h.geometry.n) (sym he)

pub unnamed_firsts-requires-clause-cards : goal.unnamed_firsts-requires-clause-cards
unnamed_firsts-requires-clause-cards c =
    let i = c.args.pausing.now.image in
    let p = c.args.pausing.now.plan in
    let b = (goal.at.unnamed_firsts-requires-clause-cards c).After-heap_of-heap in
    subst (λ (h : Heap). (r : ℕ) → r < h.geometry.n → All (λ x. x < card_count h) (cards_at (map (λ s. s.items) c.args.remembered.now) r)) (sym (the_heap b))
    (cards_there i p.set p.survivors (the_tracked b) (room b) (map (λ s. s.items) c.args.remembered.now) c.requires.remembered)

pub returns : goal.returns
returns c =
    let i = c.args.pausing.now.image in
    let p = c.args.pausing.now.plan in
    let b = (goal.at.returns c).After-heap_of-heap in
    let same : filter (is_unnamed c.heap_of-heap.result.now c.args.fates.now (map (λ s. s.items) c.args.remembered.now)) (regions c.heap_of-heap.result.now)
    ≡ map (λ o. region_of c.args.pausing.now.image.heap o.at) (unnamed (heap_moved c.args.pausing.now.image.heap c.args.pausing.now.plan.set c.args.pausing.now.plan.survivors)) =
    ap (λ h. filter (is_unnamed h c.args.fates.now (map (λ s. s.items) c.args.remembered.now)) (regions h)) (the_heap b)
    ∙ firsts_are i p.set p.survivors (the_tracked b) (room b) c.named_by_cards.ensures c.survivors_moved.ensures.stays
    c.args.fates.now c.requires.fates (map (λ s. s.items) c.args.remembered.now) c.requires.remembered in
    subst (λ xs. IfOk c.unnamed_firsts.result (λ v. v.items ≡ xs)) same c.unnamed_firsts.ensures
