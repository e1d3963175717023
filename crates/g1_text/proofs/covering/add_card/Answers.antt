use Rattle.std.proofs.Common.{◌≡◌, ℕ, [], map, get_or, arith, sym, ap, subst, ◌∙◌, Vec, Global}
use Rattle.std.proofs.lemmas.List.{length-map, get_or_default}
use Rattle.g1_text.specs.Covered.{IsLastNow}
use Rattle.g1_text.proofs.Gathering.{map_set, map_at}
use Rattle.g1_text.proofs.Results.{on_ok_then}
use Rattle.g1_text.proofs.covering.add_card.Goals as goal

pub returns : goal.returns
returns c = λ lt small.
    let sets = c.args.remembered.now.items in
    let old = c.in-Some.set.now in
    let new = c.push_new.new.set in
    let count = length-map c.args.remembered.now.items (λ (v : Vec ℕ Global). v.items) in
    let there : old.items ≡ get_or (map (λ (v : Vec ℕ Global). v.items) c.args.remembered.now.items) c.args.region [] =
    ap (λ (v : Vec ℕ Global). v.items) c.in-Some.ensures.value ∙ sym (map_at (λ (v : Vec ℕ Global). v.items) sets c.args.region old)
    ∙ get_or_default (map (λ (v : Vec ℕ Global). v.items) sets) c.args.region old.items [] (omega (arith, lt, count)) in
    let written = map_set (λ (v : Vec ℕ Global). v.items) sets c.args.region new in
    on_ok_then c.push_new.result (λ last. (new.items, subst (λ x. IsLastNow x c.args.card new.items) there (subst (λ n. IsLastNow old.items n new.items) c.in-Ok.ensures.1 last), written))
    c.push_new.ensures
