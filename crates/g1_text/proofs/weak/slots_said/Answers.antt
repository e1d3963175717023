use Rattle.std.proofs.Common.{◌≡◌, ℕ, List, ◌∷◌, get_or, [], inl, inr, refl, sym, ◌∙◌, ap, subst}
use Rattle.std.specs.Prelude.{codes}
use Rattle.std.proofs.lemmas.Slice.Eq.{bytes_eq-Decides}
use Rattle.g1_text.specs.Forms.{HasSize}
use Rattle.g1_text.specs.Marking.{texts}
use Rattle.g1_text.proofs.weak.slots_said.Goals as goal

pub returns-in-Some-size_and_slots : goal.returns-in-Some-size_and_slots
returns-in-Some-size_and_slots c =
    let kind = c.in-Some.kind.now.now in
    let name = c.in-Some-split_first.field-0-0.now.now in
    let size = c.in-Some-split_first-2.size.now.now in
    let rest = texts c.in-Some-split_first-2.field-0-1.now in
    let object : kind ≡ codes "object" = (bytes_eq-Decides kind (codes "object")).0 (sym c.eq.ensures ∙ c.if-eq.true) in
    let words : texts c.args.words.now ≡ codes "object" ∷ name ∷ size ∷ rest = ap texts c.in-Some.ensures.cases.0 ∙ ap (λ ws. kind ∷ texts ws) c.in-Some-split_first.ensures.cases.0
    ∙ ap (λ ws. kind ∷ name ∷ texts ws) c.in-Some-split_first-2.ensures.cases.0 ∙ ap (λ k. k ∷ name ∷ size ∷ rest) object in
    inl (name, size, rest, c.in-Some-size_and_slots.field-0-0, words, c.in-Some-size_and_slots.ensures.digits)

pub returns-in-None : goal.returns-in-None
returns-in-None c =
    let kind = c.in-Some.kind.now.now in
    let name = c.in-Some-split_first.field-0-0.now.now in
    let size = c.in-Some-split_first-2.size.now.now in
    let rest = texts c.in-Some-split_first-2.field-0-1.now in
    let words : texts c.args.words.now ≡ kind ∷ name ∷ size ∷ rest = ap texts c.in-Some.ensures.cases.0 ∙ ap (λ ws. kind ∷ texts ws) c.in-Some-split_first.ensures.cases.0
    ∙ ap (λ ws. kind ∷ name ∷ texts ws) c.in-Some-split_first-2.ensures.cases.0 in
    inr (refl, λ m s. c.in-None.ensures.digits s.3 m (subst (HasSize s.3 m) (ap (λ (ws : List (List ℕ)). get_or ws 2 []) (sym s.4 ∙ words)) s.5))
