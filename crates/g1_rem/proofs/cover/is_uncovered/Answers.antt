use Rattle.std.proofs.Common.{◌≡◌, ◌<◌, ◌≤◌, ◌/◌, ◌∙◌, Bool, true, false, length, slice_index, slice_set, arith, refl, ap, sym, subst}
use Rattle.std.specs.Prelude.{Some}
use Rattle.std.proofs.lemmas.List.{get_or_default}
use Rattle.std.specs.List.Sorted.{IsStrictlyIncreasing}
use Rattle.g1_words.specs.Heap.{Heap, card_of}
use Rattle.g1_words.specs.Valid.{IsReference}
use Rattle.g1_words.specs.Lists.{has}
use Rattle.g1_image.specs.Image.{remembered_of}
use Rattle.g1_rem.specs.Leads.{IsLedInto}
use Rattle.g1_rem.specs.Places.{IsBehind, AreBehind}
use Rattle.g1_rem.proofs.Bare.{bare_some, set_read}
use Rattle.g1_rem.proofs.Places.{has_here, has_not, behind_set}
use Rattle.g1_rem.proofs.cover.is_uncovered.Goals as goal
use Rattle.g1_rem.proofs.cover.is_uncovered.Goals.{After-place_of-place, else-place-len-via-then-place-len+else-index-card, else-place-len-via-else-place-len}

pub led_into-requires-clause-slot : goal.led_into-requires-clause-slot
led_into-requires-clause-slot c = subst (λ (h : Heap). c.args.p < length h.words) (sym c.heap-heap.ensures.same) c.requires.slot

pub led_into-requires-clause-reference : goal.led_into-requires-clause-reference
led_into-requires-clause-reference c = subst (λ (h : Heap). IsReference h (slice_index h.words c.args.p)) (sym c.heap-heap.ensures.same) c.requires.reference

led : (c : After-place_of-place) → IsLedInto c.args.image.now.heap c.args.p (Some c.in-Some.region)
led c = subst (λ h. IsLedInto h c.args.p (Some c.in-Some.region)) c.heap-heap.ensures.same c.in-Some.ensures

the_set : (c : After-place_of-place) → c.index-remembered-region.result.items ≡ remembered_of c.args.image.now c.in-Some.region
the_set c = set_read (λ s. s.items) c.args.image.now c.remembered.result.now c.in-Some.region c.index-remembered-region.result
    c.heap-heap.ensures.valid c.remembered.ensures (led c).4 c.index-remembered-region.is

the_card : (c : After-place_of-place) → c.card_of-card.result ≡ card_of c.args.image.now.heap c.args.p
the_card c = c.card_of-card.ensures ∙ ap (λ g. c.args.p / g.k) c.geometry.ensures.same ∙ ap (λ (h : Heap). c.args.p / h.geometry.k) c.heap-heap.ensures.same

behind : (c : After-place_of-place) → IsBehind c.index-remembered-region.result.items c.place_of-place.result c.card_of-card.result
behind c = subst (λ l. IsBehind l c.place_of-place.result c.card_of-card.result) c.deref.ensures.value c.place_of-place.ensures.behind

moved : (c : After-place_of-place) → AreBehind c.args.image.now (slice_set c.args.places.now c.in-Some.region c.place_of-place.result) c.args.p
moved c =
    behind_set c.args.image.now c.args.places.now c.args.p c.in-Some.region c.place_of-place.result (led c).4 c.requires.behind
    (subst (λ l. IsBehind l c.place_of-place.result (card_of c.args.image.now.heap c.args.p)) (the_set c)
    (subst (λ x. IsBehind c.index-remembered-region.result.items c.place_of-place.result x) (the_card c) (behind c)))

pub returns-then-index-card-clause-behind : goal.returns-then-index-card-clause-behind
returns-then-index-card-clause-behind c = moved (goal.at.returns-then-index-card-clause-behind c).After-place_of-place

pub returns-else-place-len-clause-behind : goal.returns-else-place-len-clause-behind
returns-else-place-len-clause-behind c = moved (goal.at.returns-else-place-len-clause-behind c).After-place_of-place

-- whether the set has the card, told of the list that was read
read_has : (c : After-place_of-place) (b : Bool) → has c.index-remembered-region.result.items c.card_of-card.result ≡ b →
    has (remembered_of c.args.image.now c.in-Some.region) (card_of c.args.image.now.heap c.args.p) ≡ b
read_has c b e = ap (λ x. has (remembered_of c.args.image.now c.in-Some.region) x) (sym (the_card c)) ∙ ap (λ l. has l c.card_of-card.result) (sym (the_set c)) ∙ e

pub returns-then-index-card-clause-uncovered : goal.returns-then-index-card-clause-uncovered
returns-then-index-card-clause-uncovered c =
    let b = (goal.at.returns-then-index-card-clause-uncovered c).After-place_of-place in
    let items = c.index-remembered-region.result.items in
    let len : length c.index-remembered-region.result.items ≡ length c.deref.result.now = ap length (sym c.deref.ensures.value) in
    let there : has c.index-remembered-region.result.items c.card_of-card.result ≡ true =
    subst (λ x. has c.index-remembered-region.result.items x ≡ true) c.if-index-card.true
    (has_here c.index-remembered-region.result.items c.place_of-place.result c.index.result.now (omega (arith, len, c.if-place-len.true, c.len.ensures, c.deref.ensures.len)) c.index.ensures) in
    sym (bare_some c.args.image.now c.args.p c.in-Some.region true (has c.args.image.now.log (card_of c.args.image.now.heap c.args.p)) (led b) (read_has b true there) refl)

pub returns-else-place-len-clause-uncovered : goal.returns-else-place-len-clause-uncovered
returns-else-place-len-clause-uncovered c =
    let b = (goal.at.returns-else-place-len-clause-uncovered c).After-place_of-place in
    let items = c.index-remembered-region.result.items in
    let place = c.place_of-place.result in
    let card = c.card_of-card.result in
    let len : length c.index-remembered-region.result.items ≡ length c.deref.result.now = ap length (sym c.deref.ensures.value) in
    let rising : IsStrictlyIncreasing c.index-remembered-region.result.items =
    subst (λ l. IsStrictlyIncreasing l) (sym (the_set b)) (c.heap-heap.ensures.valid.remembered c.in-Some.region (led b).4).rising in
    let next : c.place_of-place.result < length c.index-remembered-region.result.items → c.card_of-card.result ≤ slice_index c.index-remembered-region.result.items c.place_of-place.result =
    subst (λ l. c.place_of-place.result < length l → c.card_of-card.result ≤ slice_index l c.place_of-place.result) c.deref.ensures.value c.place_of-place.ensures.next in
    let other : c.place_of-place.result < length c.index-remembered-region.result.items → slice_index c.index-remembered-region.result.items c.place_of-place.result ≡ c.card_of-card.result → ⊥ =
    elim c.else-place-len.branch [
      | else-place-len-via-then-place-len+else-index-card w ↦ (λ lt e. w.if-index-card.false (w.index.ensures ∙ get_or_default items place w.index.result.now 0 lt ∙ e))
      | else-place-len-via-else-place-len w ↦ (λ lt e. omega (arith, lt, len, w.if-place-len.false, c.len.ensures, c.deref.ensures.len))
    ] in
    let none : has c.index-remembered-region.result.items c.card_of-card.result ≡ false = has_not items place card rising (behind b) next other in
    let logged : has c.args.image.now.log (card_of c.args.image.now.heap c.args.p) ≡ c.has.result =
    ap (λ x. has c.args.image.now.log x) (sym (the_card b)) ∙ sym (c.requires.dirty c.card_of-card.result) ∙ sym c.has.ensures in
    sym (bare_some c.args.image.now c.args.p c.in-Some.region false c.has.result (led b) (read_has b false none) logged)
