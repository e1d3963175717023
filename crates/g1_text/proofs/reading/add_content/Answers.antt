use Rattle.std.proofs.Common.{◌-◌, [], ◌++◌, length, take, replicate, append-nil, refl, sym, ◌∙◌, ap, arith}
use Rattle.std.proofs.lemmas.List.{length-take}
use Rattle.std.proofs.lemmas.Result.{err_from_is_err_and}
use Rattle.g1_text.specs.Forms.{Denotes, StandsFor, IsReferenceWord}
use Rattle.g1_text.proofs.Fronts.{holding}
use Rattle.g1_text.proofs.Abridging.{has_words, not_refused, zip_take, filled_up}
use Rattle.g1_text.proofs.reading.add_content.Goals as goal

pub returns-in_err-given-clause-short : goal.returns-in_err-given-clause-short
returns-in_err-given-clause-short c = λ refs values given slots count fit zero held.
    let new = c.given_words.new.words in
    let has = has_words refs values held.0 held.1 c.args.words new held.2 held.3 given zero held.4 c.given_words.ensures.open in
    absurd (not_refused refs values held.0 held.1 c.args.words new c.args.slots c.args.count has slots count (c.in_err-given.ensures.refused fit))

pub returns-in_err-add_references-clause-short : goal.returns-in_err-add_references-clause-short
returns-in_err-add_references-clause-short c = λ refs values given slots count fit zero held.
    let new = c.given_words.new.words in
    let n = length new in
    let has = has_words refs values held.0 held.1 c.args.words new held.2 held.3 given zero held.4 c.given_words.ensures.open in
    let told = c.in_ok-given.ensures.form fit in
    let long = length-take n refs in
    let left = err_from_is_err_and c.from_residual-in_err-add_references.result c.from_residual-in_err-add_references.ensures.1 in
    rw (left.1, left.2) (c.in_err-add_references.ensures.full (take n refs) (take n held.0) (take (n - length refs) held.1) (omega (arith, c.min-references.ensures, told.0, slots, long)) (zip_take Denotes n refs held.0 held.2) has.first)

pub returns-in_err-add_data-clause-short : goal.returns-in_err-add_data-clause-short
returns-in_err-add_data-clause-short c = λ refs values given slots count fit zero held.
    let new = c.given_words.new.words in
    let n = length new in
    let has = has_words refs values held.0 held.1 c.args.words new held.2 held.3 given zero held.4 c.given_words.ensures.open in
    let told = c.in_ok-given.ensures.form fit in
    let long = length-take n refs in
    let rest = take (n - length refs) values in
    let behind = take (n - length refs) held.1 in
    let more = length-take (n - length refs) values in
    let read = c.in_ok-add_references.ensures.full (take n refs) (take n held.0) behind (omega (arith, c.min-references.ensures, told.0, slots, long)) (zip_take Denotes n refs held.0 held.2) has.first in
    let left = err_from_is_err_and c.from_residual-in_err-add_data.result c.from_residual-in_err-add_data.ensures.1 in
    rw (left.1, left.2)
    (c.in_err-add_data.ensures.full rest behind [] (omega (arith, c.min-references.ensures, told.0, slots, count, more, has.fewer)) (zip_take StandsFor (n - length refs) values held.1 held.3) (read.0 ∙ sym (append-nil behind)))

pub returns-clause-short : goal.returns-clause-short
returns-clause-short c = λ refs values given slots count fit zero held.
    let new = c.given_words.new.words in
    let n = length new in
    let has = has_words refs values held.0 held.1 c.args.words new held.2 held.3 given zero held.4 c.given_words.ensures.open in
    let told = c.in_ok-given.ensures.form fit in
    let long = length-take n refs in
    let rest = take (n - length refs) values in
    let behind = take (n - length refs) held.1 in
    let more = length-take (n - length refs) values in
    let read = c.in_ok-add_references.ensures.full (take n refs) (take n held.0) behind (omega (arith, c.min-references.ensures, told.0, slots, long)) (zip_take Denotes n refs held.0 held.2) has.first in
    let last = c.in_ok-add_data.ensures.full rest behind [] (omega (arith, c.min-references.ensures, told.0, slots, count, more, has.fewer)) (zip_take StandsFor (n - length refs) values held.1 held.3) (read.0 ∙ sym (append-nil behind)) in
    c.in_ok-add_zeros.ensures ∙ ap (λ xs. xs ++ replicate c.in_ok-given.missing 0) (last.1 ∙ ap (λ xs. xs ++ rest) read.1)
    ∙ filled_up c.args.content.now.items refs values n c.in_ok-given.missing has.zeros (omega (arith, told.0, told.1, slots, count))

pub returns-clause-form : goal.returns-clause-form
returns-clause-form c = λ fits.
    holding IsReferenceWord (0, refl) c.args.slots c.args.count c.in_ok-given.given c.in_ok-given.missing c.min-references.result (c.in_ok-given.ensures.form fits) c.min-references.ensures
    c.in_ok-add_references.ensures.form c.in_ok-add_data.ensures.form
