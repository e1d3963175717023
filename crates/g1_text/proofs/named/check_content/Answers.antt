use Rattle.std.proofs.Common.{◌≡◌, ◌-◌, ℕ, List, map, Bor, arith}
use Rattle.std.proofs.lemmas.Result.{on_ok_weaker}
use Rattle.g1_text.specs.Forms.{IsTarget}
use Rattle.g1_text.proofs.Fronts.{holding, filling, held_as, fills_as, dash_is_target}
use Rattle.g1_text.proofs.named.check_content.Goals as goal

pub returns-clause-form : goal.returns-clause-form
returns-clause-form c = λ lt.
    let slots = c.from-slots.result in
    let count = c.saturating_sub-data.result in
    let same : count ≡ c.args.size - c.args.slots - 1 = omega (arith, c.saturating_sub-data.ensures, c.saturating_sub.ensures, c.from.ensures, c.from-slots.ensures) in
    let told = c.in_ok-given.ensures.form (omega (arith, same, c.from-slots.ensures, lt, c.ranges.size.fits)) in
    on_ok_weaker c.check_data.result
    (λ last. held_as IsTarget slots count c.args.slots (c.args.size - c.args.slots - 1) c.new-words.result (map (λ (t : Bor (List ℕ)). t.now) c.args.content.now) c.from-slots.ensures same c.new-words.ensures
    (holding IsTarget dash_is_target slots count c.in_ok-given.given _ c.min-names.result told c.min-names.ensures c.in_ok-check_names.ensures.form last))
    c.check_data.ensures.form

pub returns-clause-fills : goal.returns-clause-fills
returns-clause-fills c = λ lt.
    let slots = c.from-slots.result in
    let count = c.saturating_sub-data.result in
    let same : count ≡ c.args.size - c.args.slots - 1 = omega (arith, c.saturating_sub-data.ensures, c.saturating_sub.ensures, c.from.ensures, c.from-slots.ensures) in
    let told = c.in_ok-given.ensures.form (omega (arith, same, c.from-slots.ensures, lt, c.ranges.size.fits)) in
    on_ok_weaker c.check_data.result
    (λ last. fills_as slots count c.args.slots (c.args.size - c.args.slots - 1) c.new-words.result (map (λ (t : Bor (List ℕ)). t.now) c.args.content.now) c.from-slots.ensures same c.new-words.ensures
    (filling slots count c.in_ok-given.given _ c.min-names.result told c.min-names.ensures c.in_ok-check_names.ensures.form last))
    c.check_data.ensures.form
