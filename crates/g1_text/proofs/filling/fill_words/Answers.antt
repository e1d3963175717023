use Rattle.std.proofs.Common.{◌≡◌, ◌<◌, ◌+◌, ◌-◌, ◌*◌, ◌^◌, ◌++◌, [], ◌∷◌, length, map, take, drop, replicate, refl, sym, ◌∙◌, ap, arith}
use Rattle.g1_text.specs.ByName.{read_holder}
use Rattle.g1_text.specs.Carried.{word_for}
use Rattle.g1_text.proofs.NamedWords.{names_are, are_targets, stale_is, are_words, cut_at, front_is_rest, four_parts, texts}
use Rattle.g1_text.proofs.filling.fill_words.Goals as goal

pub returns-clause-words : goal.returns-clause-words
returns-clause-words c = λ g o located is line.
    let e = c.args.entry.now in
    let cs = c.args.content.now in
    let words = c.new.result in
    let new = c.given_words.new.words in
    let slots = c.from-slots.result in
    let data_count = c.saturating_sub-data.result in
    let given = c.in_ok-given.given in
    let missing = c.in_ok-given.missing in
    let named = c.min-named.result in
    let slot_count : slots ≡ e.slots = c.from-slots.ensures in
    let value_count : data_count ≡ e.size - e.slots - 1 = omega (arith, c.saturating_sub-data.ensures, c.saturating_sub.ensures, c.from-size.ensures, c.from-slots.ensures) in
    let told = c.in_ok-given.ensures.form (omega (arith, value_count, slot_count, is.size, is.slots, is.line.fits)) in
    let cut = cut_at cs new c.min.result named words (sym c.new.ensures) c.given_words.ensures.open (omega (arith, c.min.ensures)) (omega (arith, c.min-named.ensures, told.0)) in
    let refs = texts c.split_at.result.0.now in
    let first : refs ≡ take named new = ap texts c.split_at.ensures.front ∙ cut.0 in
    let read = c.in_ok-add_data.ensures.stands in
    let rest : drop named new ++ cut.1.0 ≡ read.1.0 ++ c.add_data.new.words = sym (c.new-2.ensures ∙ ap texts c.split_at.ensures.back ∙ cut.1.1) ∙ read.1.1 in
    let second = front_is_rest read.1.0 c.add_data.new.words (drop named new) cut.1.0 named new rest read.1.2 c.saturating_sub-2.ensures told.0 refl in
    let content = c.new.ensures ∙ line in
    let targets = take named o.slots in
    let names = names_are e o is words new slots data_count given missing named content slot_count value_count told.0 told.1 told.2 c.given_words.ensures.open c.min-named.ensures refs read.1.0 read.0 first second read.1.3 in
    let are = are_targets e o is words new slots data_count given missing named content slot_count value_count told.0 told.1 told.2 c.given_words.ensures.open c.min-named.ensures refs read.1.0 read.0 first second read.1.3 in
    let slot_words = c.in_ok-fill_slots.ensures.words g targets located are names in
    let header : c.header_word.result ≡ e.size * 2 ^ 32 + e.slots = c.header_word.ensures ∙ (λ i. c.from-size.ensures i * 2 ^ 32 + c.from-slots.ensures i) in (
      (e.size * 2 ^ 32 + e.slots) ∷ (map (word_for g c.args.addresses.now) targets ++ (read.0 ++ replicate missing 0)),
      are_words e o is words new slots data_count given missing named content slot_count value_count told.0 told.1 told.2 c.given_words.ensures.open c.min-named.ensures refs read.1.0 read.0 first second read.1.3 g
          c.args.addresses.now,
      four_parts c.args.out.now.items (e.size * 2 ^ 32 + e.slots) (map (word_for g c.args.addresses.now) targets) read.0 (replicate missing 0) c.push.new.self.items c.fill_slots.new.out.items c.add_data.new.content.items
          c.add_zeros.new.content.items (c.in_ok-push.ensures.items ∙ ap (λ x. c.args.out.now.items ++ x ∷ []) header) slot_words read.2 c.in_ok-add_zeros.ensures,
    )

pub returns-clause-stale : goal.returns-clause-stale
returns-clause-stale c = λ g o located is small line.
    let e = c.args.entry.now in
    let cs = c.args.content.now in
    let words = c.new.result in
    let new = c.given_words.new.words in
    let slots = c.from-slots.result in
    let data_count = c.saturating_sub-data.result in
    let given = c.in_ok-given.given in
    let missing = c.in_ok-given.missing in
    let named = c.min-named.result in
    let slot_count : slots ≡ e.slots = c.from-slots.ensures in
    let value_count : data_count ≡ e.size - e.slots - 1 = omega (arith, c.saturating_sub-data.ensures, c.saturating_sub.ensures, c.from-size.ensures, c.from-slots.ensures) in
    let told = c.in_ok-given.ensures.form (omega (arith, value_count, slot_count, is.size, is.slots, is.line.fits)) in
    let cut = cut_at cs new c.min.result named words (sym c.new.ensures) c.given_words.ensures.open (omega (arith, c.min.ensures)) (omega (arith, c.min-named.ensures, told.0)) in
    let refs = texts c.split_at.result.0.now in
    let first : refs ≡ take named new = ap texts c.split_at.ensures.front ∙ cut.0 in
    let read = c.in_ok-add_data.ensures.stands in
    let rest : drop named new ++ cut.1.0 ≡ read.1.0 ++ c.add_data.new.words = sym (c.new-2.ensures ∙ ap texts c.split_at.ensures.back ∙ cut.1.1) ∙ read.1.1 in
    let second = front_is_rest read.1.0 c.add_data.new.words (drop named new) cut.1.0 named new rest read.1.2 c.saturating_sub-2.ensures told.0 refl in
    let content = c.new.ensures ∙ line in
    let targets = take named o.slots in
    let names = names_are e o is words new slots data_count given missing named content slot_count value_count told.0 told.1 told.2 c.given_words.ensures.open c.min-named.ensures refs read.1.0 read.0 first second read.1.3 in
    let are = are_targets e o is words new slots data_count given missing named content slot_count value_count told.0 told.1 told.2 c.given_words.ensures.open c.min-named.ensures refs read.1.0 read.0 first second read.1.3 in
    let few : length c.split_at.result.0.now < 2 ^ 32 = omega (arith, c.split_at.ensures.front_len, c.min.ensures, c.min-named.ensures, slot_count, is.slots, is.line.fits) in
    c.in_ok-fill_slots.ensures.stale g targets located are names small few
    ∙ ap (λ l. map read_holder c.args.stale.now.names.items ++ l)
    (sym (stale_is e o is words new slots data_count given missing named content slot_count value_count told.0 told.1 told.2 c.given_words.ensures.open c.min-named.ensures refs read.1.0 read.0 first second read.1.3 g (c.args.at + 1)))
