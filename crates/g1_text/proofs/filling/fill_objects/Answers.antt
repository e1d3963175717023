use Rattle.std.proofs.Common.{◌≡◌, ◌<◌, ◌+◌, ◌++◌, ℕ, List, [], ◌∷◌, length, get_or, slice_index, map, flat_map, take, sym, ◌∙◌, ap, subst, arith}
use Rattle.std.specs.Prelude.{All}
use Rattle.std.specs.List.{AllZip}
use Rattle.std.proofs.lemmas.List.{flat_map_more, get_or_read}
use Rattle.std.proofs.lemmas.Slice.Zip.{AllZip-long, all_zipped_more}
use Rattle.g1_text.specs.declared.placing.Entry.{Entry}
use Rattle.g1_text.specs.Laid.{IsAddress}
use Rattle.g1_text.specs.Graphs.{NamedObject, NamedGraph}
use Rattle.g1_text.specs.ByName.{IsEntryOf, read_holder}
use Rattle.g1_text.specs.Drafts.{content}
use Rattle.g1_text.specs.Carried.{stale_slots, stale_from}
use Rattle.g1_text.specs.Filled.{AreLocated, AreWordsOf, located, object_of}
use Rattle.g1_text.proofs.Pushing.{located_more, zip_at}
use Rattle.g1_text.proofs.filling.fill_objects.Goals as goal

abbrev no_object : NamedObject
no_object = record { name = []; slots = []; written = [] }

pub loop-place-preserved-then-place-count : goal.loop-place-preserved-then-place-count
loop-place-preserved-then-place-count c =
    let order = c.args.places.now.order.items in
    let i = c.loop-place.place-index in
    let lt : i < length order = omega (arith, c.loop-place-test.true, ap length c.deref-place-items.ensures.value) in
    let here = ap (λ l. get_or l i 0) c.deref-place-items.ensures.value in
    let past : (g : NamedGraph) → AreLocated c.args.lines.now g c.args.places.now.addresses.items → All (λ k. k < length g.objects) order → ⊥ = λ g lie under.
    let k = under i 0 lt in
    omega (arith, k, here, c.if-place-count.true, c.min-count.ensures, c.len.ensures, c.len-in-loop-place.ensures, c.args.lines.now.entries.ok.0, c.args.places.now.addresses.ok.0, lie.count, AllZip-long IsEntryOf c.args.lines.now.entries.items g.objects lie.read.entries) in
    record { words = λ g lie under. absurd (past g lie under); stale = λ g lie under. absurd (past g lie under); noted = c.loop-place.invariant.noted }

pub loop-place-preserved : goal.loop-place-preserved
loop-place-preserved c =
    let entries = c.args.lines.now.entries.items in
    let ats = c.args.places.now.addresses.items in
    let order = c.args.places.now.order.items in
    let i = c.loop-place.place-index in
    let k = get_or order i 0 in
    let lt : i < length order = omega (arith, c.loop-place-test.true, ap length c.deref-place-items.ensures.value) in
    let here = ap (λ l. get_or l i 0) c.deref-place-items.ensures.value in
    let entry = c.index-entry.result.now in
    let many : (g : NamedGraph) → AreLocated c.args.lines.now g ats → length g.objects ≡ length entries = λ g lie. AllZip-long IsEntryOf entries g.objects lie.read.entries in
    let within : (g : NamedGraph) → AreLocated c.args.lines.now g ats → All (λ k. k < length g.objects) order → k < length entries = λ g lie under. let few = under i 0 lt in let all = many g lie in omega (arith, few, all) in
    let is : (g : NamedGraph) → AreLocated c.args.lines.now g ats → All (λ k. k < length g.objects) order → IsEntryOf entry (object_of g k) = λ g lie under.
    subst (λ (e : Entry). IsEntryOf e (object_of g k)) (sym (c.index-entry.ensures ∙ ap (λ j. get_or entries j entry) here)) (zip_at IsEntryOf entries g.objects k entry no_object lie.read.entries (within g lie under)) in
    let at_is : (g : NamedGraph) → AreLocated c.args.lines.now g ats → All (λ k. k < length g.objects) order → c.index-at.result.now ≡ slice_index ats k = λ g lie under.
    get_or_read ats k c.index-at.result.now (let few = within g lie under in let all = many g lie in omega (arith, few, all, lie.count)) (c.index-at.ensures ∙ ap (λ j. get_or ats j c.index-at.result.now) here) 0 in
    let small : (g : NamedGraph) → AreLocated c.args.lines.now g ats → All (λ k. k < length g.objects) order → IsAddress c.index-at.result.now = λ g lie under.
    subst IsAddress (sym (at_is g lie under)) (lie.small k 0 (let few = within g lie under in let all = many g lie in omega (arith, few, all, lie.count))) in
    let addresses = c.as_slice-addresses.ensures.value in
    record {
      words = λ g lie under.
          let before = c.loop-place.invariant.words g lie under in
          let lent : AreLocated c.args.lines.now g c.as_slice-addresses.result.now = subst (AreLocated c.args.lines.now g) (sym addresses) lie in
          let new = c.in_default.ensures.words g (object_of g k) lent (is g lie under) (small g lie under) in
          let R : NamedObject × ℕ → List ℕ → Type 0 = λ o ws. AreWordsOf g ats o.0 ws in (
            before.0 ++ new.0 ∷ [],
            subst (λ os. AllZip (λ (o : NamedObject × ℕ) ws. AreWordsOf g ats o.0 ws) os (before.0 ++ new.0 ∷ [])) (sym (located_more g ats order i lt))
                (all_zipped_more (λ (o : NamedObject × ℕ) ws. AreWordsOf g ats o.0 ws) (located g ats (take i order)) before.0 (object_of g k, slice_index ats k) new.0 before.1 (subst (λ a. AreWordsOf g a (object_of g k) new.0) addresses new.1)),
            new.2 ∙ (λ t. record (before.2 t) { words = (before.2 t).words ++ new.0 })
                ∙ (λ t. record (content c.args.draft.now) { words = flat_map_more (λ ws. ws) (content c.args.draft.now).words before.0 new.0 t }),
          );
      stale = λ g lie under.
          let lent : AreLocated c.args.lines.now g c.as_slice-addresses.result.now = subst (AreLocated c.args.lines.now g) (sym addresses) lie in
          let first = map read_holder c.args.stale.now.names.items in
          let so_far = located g ats (take i order) in
          c.in_default.ensures.stale g (object_of g k) lent (is g lie under) (small g lie under) ∙ ap (λ a. map read_holder c.loop-place.stale.names.items ++ stale_from g (a + 1) (object_of g k).slots) (at_is g lie under) ∙ ap (λ l. l ++ stale_slots g (object_of g k, slice_index ats k)) (c.loop-place.invariant.stale g lie under)
          ∙ flat_map_more (stale_slots g) first so_far (object_of g k, slice_index ats k) ∙ ap (λ l. first ++ flat_map (stale_slots g) l) (sym (located_more g ats order i lt));
      noted = λ n. c.in_default.ensures.noted (c.loop-place.invariant.noted n);
    }
