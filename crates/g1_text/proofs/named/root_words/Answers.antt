use Rattle.std.proofs.Common.{ℕ, List, [], ◌∷◌, map, Bor, refl, ap}
use Rattle.std.specs.Prelude.{codes}
use Rattle.g1_text.proofs.Fronts.{not_word}
use Rattle.g1_text.proofs.named.root_words.Goals as goal

pub returns-in_ok-holder-in-Some-clause-form : goal.returns-in_ok-holder-in-Some-clause-form
returns-in_ok-holder-in-Some-clause-form c =
    let texts = map (λ (t : Bor (List ℕ)). t.now) in
    let name = c.in-Some.name.now.now in
    (name ∷ [], texts c.in-Some.rest.now, ap texts c.in-Some.ensures.cases.0, (name, refl, not_word name (codes "..") c.if-ne.ensures), c.in_ok-holder-in-Some.ensures.form)
