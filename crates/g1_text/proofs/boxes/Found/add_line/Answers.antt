use Rattle.std.proofs.Common.{◌≡◌, List, ℕ, Bor, ◌∷◌, map, ◌∙◌, ap, subst}
use Rattle.std.specs.Prelude.{OnOk}
use Rattle.g1_text.specs.Marked.{names_found}
use Rattle.g1_text.proofs.Boxing.{name_put}
use Rattle.g1_text.proofs.boxes.Found.add_line.Goals as goal

pub returns-in_ok-insert-in-object-clause-names : goal.returns-in_ok-insert-in-object-clause-names
returns-in_ok-insert-in-object-clause-names c =
    let texts = map (λ (t : Bor (List ℕ)). t.now) in
    let first = c.in-Some.first.now.now in
    let words = ap texts c.in-Some.ensures.cases.0 ∙ ap (λ ws. first ∷ ws) (ap texts c.in-Some-split_first.ensures.cases.0) in
    subst (λ ns. OnOk c.add_slots.result (names_found c.add_slots.new.self ≡ ns))
    (name_put c.args.self.now.names.keys c.insert.new.self.keys c.in-Some-split_first.name.now first (texts c.in-Some-split_first.rest.now)
    (texts c.args.words.now)
    words c.in-object.is c.in_ok-insert-in-object.ensures.keys)
    c.add_slots.ensures.names
