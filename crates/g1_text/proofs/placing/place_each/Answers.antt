use Rattle.std.proofs.Common.{◌≡◌, ◌<◌, ◌+◌, ◌*◌, ◌++◌, List, [], ◌∷◌, length, map, slice_index, ltb, sym, ◌∙◌, ap, subst, arith}
use Rattle.std.specs.Prelude.{All}
use Rattle.std.proofs.lemmas.List.{length-set, get_or-map}
use Rattle.std.proofs.lemmas.List.Elements.{All-set}
use Rattle.std.proofs.lemmas.Bool.Decides.{when_true}
use Rattle.g1_words.specs.declared.object.Object.{Object}
use Rattle.g1_text.specs.declared.placing.Entry.{Entry}
use Rattle.g1_text.specs.Content.{Content}
use Rattle.g1_text.specs.Drafts.{content}
use Rattle.g1_text.specs.Laid.{ArePassed, IsAddress, IsLaid, placed, is_large, size_at}
use Rattle.g1_text.proofs.Rooms.{none_passed, one_passed_by, one_passed, is_fresh, more_placed, decided, not_same, when_false}
use Rattle.g1_text.proofs.placing.place_each.Goals as goal

pub loop-place-init : goal.loop-place-init
loop-place-init c = record { count = c.requires; passed = λ g bounds others small laid. (none_passed g c.args.entries.now c.args.humongous c.args.places.now.order.items, small, laid) }

pub loop-place-preserved-then-not-belongs : goal.loop-place-preserved-then-not-belongs
loop-place-preserved-then-not-belongs c = record {
  count = c.loop-place.invariant.count;
  passed = λ g bounds others small laid.
      let entries = c.args.entries.now in
      let i = c.loop-place.place in
      let so_far = c.loop-place.invariant.passed g bounds others small laid in
      let lt : i < length entries = omega (arith, c.loop-place-test.true) in
      let size : c.from-size.result ≡ size_at entries i = c.from-size.ensures ∙ sym (get_or-map (λ (e : Entry). e.size) entries i _ 0 lt) in
      let width : c.loop-place.draft.geometry.w ≡ g.w = ap (λ (x : Content). x.geometry.w) so_far.2.2 in
      let test = sym (λ t. ltb (3 * width t) (4 * size t)) ∙ when_false _ _ c.if-not-belongs.true c.belongs.ensures in
      (one_passed_by g entries c.args.humongous c.args.places.now.order.items i c.loop-place.places.order.items so_far.0 (not_same (is_large g entries i) c.args.humongous test), so_far.1, so_far.2);
}

pub loop-place-preserved : goal.loop-place-preserved
loop-place-preserved c =
    let entries = c.args.entries.now in
    let i = c.loop-place.place in
    let ats = c.loop-place.places.addresses.items in
    let order = c.loop-place.places.order.items in
    let before = c.args.places.now.order.items in
    let set_to = c.set_address.ensures in
    record {
      count = ap length set_to ∙ length-set ats i c.in_ok-at.at ∙ c.loop-place.invariant.count;
      passed = λ g bounds others small laid.
          let so_far = c.loop-place.invariant.passed g bounds others small laid in
          let lt : i < length entries = omega (arith, c.loop-place-test.true) in
          let size : c.from-size.result ≡ size_at entries i = c.from-size.ensures ∙ sym (get_or-map (λ (e : Entry). e.size) entries i _ 0 lt) in
          let width : c.loop-place.draft.geometry.w ≡ g.w = ap (λ (x : Content). x.geometry.w) so_far.2.2 in
          let test = when_true _ _ c.if-not-belongs.false c.belongs.ensures in
          let large : is_large g entries i ≡ c.args.humongous = sym (λ t. ltb (3 * width t) (4 * size t)) ∙ test in
          let chosen = decided (3 * g.w) (4 * c.from-size.result) c.args.humongous (sym (λ t. ltb (3 * width t) (4 * c.from-size.result)) ∙ test) in
          let room = c.in_ok-at.ensures g (map (placed entries ats) order) (slice_index (map (λ (e : Entry). e.slots) entries) i) bounds so_far.2 chosen in
          let fresh = is_fresh g entries c.args.humongous before i order so_far.0 large others in
          let more = more_placed entries ats i c.in_ok-at.at order c.from-size.result fresh (omega (arith, lt, c.loop-place.invariant.count)) size in
          let all : map (placed entries c.set_address.new.addresses.items) c.push.new.self.items ≡ map (placed entries ats) order ++ record { at = c.in_ok-at.at; size = c.from-size.result; refs = slice_index (map (λ (e : Entry). e.slots) entries) i } ∷ [] =
          (λ t. map (placed entries (set_to t)) (c.in_ok-push.ensures.items t)) ∙ more in (
            subst (λ l. ArePassed g entries c.args.humongous (i + 1) before l) (sym c.in_ok-push.ensures.items) (one_passed g entries c.args.humongous before i order so_far.0 large),
            subst (λ l. All IsAddress l) (sym set_to) (All-set IsAddress ats i c.in_ok-at.at room.0 so_far.1),
            subst (λ (os : List Object). IsLaid g os (content c.make_room.new.draft)) (sym all) room.1,
          );
    }
