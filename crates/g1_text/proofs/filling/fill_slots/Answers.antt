use Rattle.std.proofs.Common.{◌≡◌, ◌<◌, ◌+◌, ◌++◌, [], ◌∷◌, length, get_or, map, ◌∙◌, ap, arith}
use Rattle.std.specs.Prelude.{None}
use Rattle.std.proofs.lemmas.List.{take_all}
use Rattle.g1_text.specs.ByName.{read_holder}
use Rattle.g1_text.specs.Carried.{word_for, stale_from}
use Rattle.g1_text.proofs.Pushing.{push_mapped, push_stale, slot_read, slot_count}
use Rattle.g1_text.proofs.filling.fill_slots.Goals as goal

pub loop-slot-preserved : goal.loop-slot-preserved
loop-slot-preserved c =
    let names = c.args.names.now in
    let ats = c.args.addresses.now in
    let i = c.loop-slot.slot in
    let lt : i < length names = omega (arith, c.loop-slot-test.true) in
    record {
      words = λ g targets located are same.
          let count = slot_count names targets same in
          let under : i < length targets = omega (arith, lt, count) in
          let is = c.in_ok-word.ensures.word g (get_or targets i None) located (are i None under) (slot_read names targets i _ same lt) in
          push_mapped (word_for g ats) targets None i under c.args.out.now.items c.loop-slot.out.items c.push.new.self.items (c.loop-slot.invariant.words g targets located are same)
          (c.in_ok-push.ensures.items ∙ ap (λ x. c.loop-slot.out.items ++ x ∷ []) is);
      stale = λ g targets located are same small few.
          let count = slot_count names targets same in
          let under : i < length targets = omega (arith, lt, count) in
          let number : c.saturating_add-number.result ≡ c.args.at + 1 + i = omega (arith, c.saturating_add-number.ensures, c.saturating_add.ensures, small, few, lt) in
          let is = c.in_ok-word.ensures.stale g (get_or targets i None) located (are i None under) (slot_read names targets i _ same lt) in
          push_stale g (c.args.at + 1) c.saturating_add-number.result i targets (map read_holder c.args.stale.now.names.items) (map read_holder c.loop-slot.stale.names.items) (map read_holder c.word.new.stale.names.items)
          under number (c.loop-slot.invariant.stale g targets located are same small few) is;
      noted = λ n. c.in_ok-word.ensures.noted (c.loop-slot.invariant.noted n);
    }

pub returns-clause-words : goal.returns-clause-words
returns-clause-words c = λ g targets located are same.
    let count = slot_count c.args.names.now targets same in
    c.loop-slot.invariant.words g targets located are same ∙ ap (λ l. c.args.out.now.items ++ map (word_for g c.args.addresses.now) l) (take_all c.loop-slot.slot targets (omega (arith, c.loop-slot-test.false, count)))

pub returns-clause-stale : goal.returns-clause-stale
returns-clause-stale c = λ g targets located are same small few.
    let count = slot_count c.args.names.now targets same in
    c.loop-slot.invariant.stale g targets located are same small few
    ∙ ap (λ l. map read_holder c.args.stale.now.names.items ++ stale_from g (c.args.at + 1) l) (take_all c.loop-slot.slot targets (omega (arith, c.loop-slot-test.false, count)))
