use Rattle.std.proofs.Common.{◌≡◌, Some, None, MatchOption, ◌&&◌, sym, ap, subst}
use Rattle.g1_text.specs.Boxes.{cut_at_plus, with_digits, place_of_word, is_numeral}
use Rattle.g1_text.specs.Reading.{has_byte}
use Rattle.g1_text.proofs.Signs.{cut_last, no_place, is_place, named, nameless}
use Rattle.std.proofs.lemmas.Bool.{and_right}
use Rattle.g1_text.proofs.boxes.place_in.Goals as goal
use Rattle.g1_text.proofs.boxes.place_in.Goals.{then-is_empty-via-then-is_empty, then-is_empty-via-else-is_empty+then-not-is_digits}

pub returns-in_err-name : goal.returns-in_err-name
returns-in_err-name c =
    let w = c.args.word.now in
    let cut = subst (λ r. MatchOption r (cut_at_plus w ≡ None) (λ x. cut_at_plus w ≡ Some (x.0.now, x.1.now))) c.in_err-name.was
    (cut_last w c.rsplit_once.result c.rsplit_once.ensures.cases) in
    subst (λ o. MatchOption o (place_of_word w ≡ None) (λ r. place_of_word w ≡ Some (r.0.now, r.1.now))) (sym c.from_residual.ensures) (ap with_digits cut)

pub returns-then-is_empty : goal.returns-then-is_empty
returns-then-is_empty c =
    let w = c.args.word.now in
    let name = c.in_ok-name.name.now in
    let distance = c.in_ok-name.distance.now in
    let cut = subst (λ r. MatchOption r (cut_at_plus w ≡ None) (λ x. cut_at_plus w ≡ Some (x.0.now, x.1.now))) c.in_ok-name.was
    (cut_last w c.rsplit_once.result c.rsplit_once.ensures.cases) in
    elim c.then-is_empty.branch [
      | then-is_empty-via-then-is_empty v ↦ no_place w name distance cut (ap (λ b. b && is_numeral distance) (nameless name (sym v.if-is_empty.ensures)))
      | then-is_empty-via-else-is_empty+then-not-is_digits v ↦ no_place w name distance cut
          (and_right (has_byte name) (is_numeral distance) (sym v.if-not-is_digits.ensures))
    ]

pub returns : goal.returns
returns c =
    let w = c.args.word.now in
    let name = c.in_ok-name.name.now in
    let distance = c.in_ok-name.distance.now in
    let cut = subst (λ r. MatchOption r (cut_at_plus w ≡ None) (λ x. cut_at_plus w ≡ Some (x.0.now, x.1.now))) c.in_ok-name.was
    (cut_last w c.rsplit_once.result c.rsplit_once.ensures.cases) in
    is_place w name distance cut (named name (sym c.if-is_empty.ensures)) (sym c.if-not-is_digits.ensures)
