use Rattle.std.proofs.Common.{◌≡◌, ◌++◌, ℕ, List, [], length, map, flat_map, refl, sym, ◌∙◌, ap, subst, arith}
use Rattle.std.proofs.lemmas.List.{length-map}
use Rattle.g1_image.specs.Text.{file_text}
use Rattle.g1_text.specs.Content.{Content, file_with}
use Rattle.g1_text.specs.Drafts.{content}
use Rattle.g1_text.specs.ByName.{read_holder}
use Rattle.g1_text.specs.Filled.{AreLocated, located}
use Rattle.g1_text.specs.Carried.{root_value, root_targets, stale_from, stale_slots, named_at}
use Rattle.g1_text.proofs.Holding.{filled_is, filled_content, carries, are_listed, are_located, below, none_stale, same_heap}
use Rattle.g1_text.proofs.named.fill.Goals as goal

pub returns-clause-carried : goal.returns-clause-carried
returns-clause-carried c = λ g geometry read places sizes.
    let lines = c.args.lines in
    let ats = c.args.places.addresses.items in
    let order = c.args.places.order.items in
    let first = content c.args.draft in
    let they = located g ats order in
    let lie = are_located lines g read geometry ats order first places in
    let lent : AreLocated lines g c.as_slice-addresses.result.now = subst (AreLocated lines g) (sym c.as_slice-addresses.ensures.value) lie in
    let under = below lines g read geometry ats order first places in
    let objects = c.in_ok-fill_objects.ensures.words g lie under in
    let second = content c.fill_objects.new.draft in
    let roots = c.in_ok-fill_roots.ensures.words g lent ∙ ap (λ a. c.args.draft.roots.items ++ map (root_value g a) g.roots) c.as_slice-addresses.ensures.value in
    let filled : (sets : List (List ℕ)) → record second { remembered = sets } ≡ filled_content geometry places.laid.0 (map (root_value g ats) g.roots) (flat_map (λ ws. ws) objects.0) sets = λ sets.
    filled_is geometry places.laid.0 (map (root_value g ats) g.roots) c.fill_roots.new.roots.items (flat_map (λ ws. ws) objects.0) first second (record second { remembered = sets }) places.laid.3 roots objects.2 refl in
    let root_count = ap (λ (x : Content). length x.roots) (filled []) in
    let log_count = ap (λ (x : Content). length x.log) (filled []) in
    let packed = c.in_ok-text.ensures.text (omega (arith, root_count, length-map g.roots (root_value g ats), read.few)) (omega (arith, log_count)) in
    let sets = packed.0 in
    let names : map read_holder c.in_ok-named.named.items ≡ map named_at they =
    c.in_ok-named.ensures g (ap (map (λ k. k.now)) c.as_slice.ensures.keys ∙ read.names) lie.count under in
    let stale_roots : map read_holder c.fill_roots.new.stale.names.items ≡ stale_from g 0 (root_targets g) = c.in_ok-fill_roots.ensures.stale g lent ∙ ap (λ l. map read_holder l ++ stale_from g 0 (root_targets g)) c.new-roots.ensures in
    let slots : map read_holder c.fill_objects.new.stale.names.items ≡ flat_map (stale_slots g) they = c.in_ok-fill_objects.ensures.stale g lie under ∙ ap (λ l. map read_holder l ++ flat_map (stale_slots g) they) c.new-slots.ensures in
    let text = packed.1 ∙ ap (λ x. file_text (file_with x)) (filled sets) in
    record {
      ats = ats;
      file = file_with (filled_content geometry places.laid.0 (map (root_value g ats) g.roots) (flat_map (λ ws. ws) objects.0) sets);
      text = text;
      carries = carries lines g read geometry ats order first places sizes objects.0 objects.1 sets;
      image = same_heap lines g read geometry ats order first places sizes objects.0 objects.1 sets c.in_ok-text.text.items text;
      listed = are_listed lines g read geometry ats order first places sizes objects.0 objects.1 sets (map read_holder c.in_ok-named.named.items) (map read_holder c.fill_roots.new.stale.names.items)
          (map read_holder c.fill_objects.new.stale.names.items) names stale_roots slots;
      noted = λ none.
          let both = c.earlier.ensures none in
          none_stale lines g read geometry ats order first places (sym stale_roots ∙ ap (map read_holder) (c.in_ok-fill_roots.ensures.noted (λ _. c.new-roots.ensures) both.0))
          (sym slots ∙ ap (map read_holder) (c.in_ok-fill_objects.ensures.noted (λ _. c.new-slots.ensures) both.1));
    }
