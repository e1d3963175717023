use Rattle.std.proofs.Common.{◌≡◌, ◌^◌, ℕ, List, [], ◌∷◌, ◌++◌, get_or, set, sym, ◌∙◌, ap, subst, arith, Vec, Global}
use Rattle.std.proofs.lemmas.List.{length-map, get_or_default}
use Rattle.std.proofs.lemmas.Result.{err_from_is_err_and}
use Rattle.g1_text.specs.Short.{RememberedAs, TellsCards, IsShortLine}
use Rattle.g1_text.proofs.Spelled.{front_and_rest, behind_word, one_front}
use Rattle.g1_text.specs.Drafts.{content}
use Rattle.g1_text.proofs.Results.{ok_one, not_both}
use Rattle.g1_text.proofs.Gathering.{map_set, map_at}
use Rattle.std.specs.Prelude.{codes}
use Rattle.g1_text.specs.Forms.{Number, Cards, Single, Spells, IsBelow, ◌▸◌, HasFirst}
use Rattle.g1_text.proofs.Fronts.{begins_with, then_all, read_one}
use Rattle.g1_text.proofs.draft.Draft.add_remembered.Goals as goal

-- the number of the region, and the cards behind it
told : (r : ℕ) (cards : List ℕ) {words : List (List ℕ)} → IsShortLine (RememberedAs r cards) (codes "remembered" ∷ words)
    → (middle : List (List ℕ)) × HasFirst (Spells (2 ^ 64) r) words middle × TellsCards cards middle
told r cards h =
    let parts = front_and_rest (Single (Spells (2 ^ 64) r)) (TellsCards cards) (behind_word (codes "remembered") (codes "remembered") (Single (Spells (2 ^ 64) r) ▸ TellsCards cards) h) in
    (parts.0, one_front (Spells (2 ^ 64) r) parts.1, parts.2)

pub returns-in_err-region-clause-short : goal.returns-in_err-region-clause-short
returns-in_err-region-clause-short c = λ r cards after e takes.
    let parts = told r cards e in
    let number = c.number.ensures.full r parts.1.0 parts.0 parts.1.2 parts.1.1 in
    absurd (not_both c.in_err-region.was number.0)

pub returns-in_default-clause-short : goal.returns-in_default-clause-short
returns-in_default-clause-short c = λ r cards after e takes.
    let parts = told r cards e in
    let number = c.number.ensures.full r parts.1.0 parts.0 parts.1.2 parts.1.1 in
    let same = ok_one c.in_ok-region.was number.0 in
    let sets = length-map c.args.self.now.remembered.items (λ (v : Vec ℕ Global). v.items) in
    absurd (omega (arith, same, sets, takes.0, c.in_default.ensures))

pub returns-in_err-add_cards-clause-short : goal.returns-in_err-add_cards-clause-short
returns-in_err-add_cards-clause-short c = λ r cards after e takes.
    let parts = told r cards e in
    let number = c.number.ensures.full r parts.1.0 parts.0 parts.1.2 parts.1.1 in
    let left = err_from_is_err_and c.from_residual-in_err-add_cards.result c.from_residual-in_err-add_cards.ensures.1 in
    rw (left.1, left.2) (c.in_err-add_cards.ensures.short cards (subst (TellsCards cards) (sym number.1) parts.2))

pub returns-clause-short : goal.returns-clause-short
returns-clause-short c = λ r cards after e takes.
    let s = content c.args.self.now in
    let sets = c.args.self.now.remembered.items in
    let parts = told r cards e in
    let number = c.number.ensures.full r parts.1.0 parts.0 parts.1.2 parts.1.1 in
    let same = ok_one c.in_ok-region.was number.0 in
    let added = c.in_ok-add_cards.ensures.short cards (subst (TellsCards cards) (sym number.1) parts.2) in
    let old = c.in-Some.set.now in
    let seen : old.items ≡ get_or s.remembered c.in_ok-region.region old.items =
    ap (λ (v : Vec ℕ Global). v.items) c.in-Some.ensures.value ∙ sym (map_at (λ (v : Vec ℕ Global). v.items) sets c.in_ok-region.region old) in
    let there : old.items ≡ get_or s.remembered r [] = seen ∙ ap (λ n. get_or s.remembered n old.items) same ∙ get_or_default s.remembered r old.items [] takes.0 in
    let written = map_set (λ (v : Vec ℕ Global). v.items) sets c.in_ok-region.region c.add_cards.new.cards ∙ (λ i. set s.remembered (same i) (added i))
    ∙ ap (λ xs. set s.remembered r (xs ++ cards)) there in
    (λ i. record s { remembered = written i }) ∙ sym takes.3

pub returns-clause-form : goal.returns-clause-form
returns-clause-form c =
    let read = c.in_ok-region.ensures.digits in
    begins_with (codes "remembered") (Number ▸ Cards) c.args.words
    (then_all Number Cards (read_one (IsBelow (2 ^ 64)) (read.0, read.1, (c.in_ok-region.region, read.2))) c.in_ok-add_cards.ensures.form)
