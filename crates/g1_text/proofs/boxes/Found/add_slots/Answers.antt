use Rattle.std.proofs.Common.{◌≡◌, List, ℕ, Bor, map, sym, ap, subst}
use Rattle.std.specs.Prelude.{OnOk}
use Rattle.g1_text.specs.Marked.{words_found, with_marked}
use Rattle.g1_text.proofs.Slots.{slots_taken, no_slots_taken}
use Rattle.g1_text.proofs.boxes.Found.add_slots.Goals as goal

pub returns-in-Some-size_and_slots-clause-words : goal.returns-in-Some-size_and_slots-clause-words
returns-in-Some-size_and_slots-clause-words c =
    let texts = map (λ (t : Bor (List ℕ)). t.now) in
    subst (λ ws. OnOk c.add_targets.result (words_found c.add_targets.new.self ≡ with_marked (words_found c.args.self.now) ws))
    (sym (slots_taken c.in-Some.size.now.now (texts c.in-Some.content.now)
    (texts c.args.words.now) c.in-Some-size_and_slots.field-0-0 c.in-Some-size_and_slots.slots
    c.in-Some-size_and_slots.ensures.digits (ap texts c.in-Some.ensures.cases.0)))
    c.add_targets.ensures.words

pub returns-in-None-clause-words : goal.returns-in-None-clause-words
returns-in-None-clause-words c =
    let texts = map (λ (t : Bor (List ℕ)). t.now) in
    ap (with_marked (words_found c.args.self.now))
    (sym (no_slots_taken c.in-Some.size.now.now (texts c.in-Some.content.now) (texts c.args.words.now) c.in-None.ensures.digits
    (ap texts c.in-Some.ensures.cases.0)))
