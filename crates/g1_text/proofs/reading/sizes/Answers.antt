use Rattle.std.proofs.Common.{ℕ, ◌^◌, ◌∙◌}
use Rattle.std.specs.Prelude.{Ok}
use Rattle.g1_text.proofs.Results.{ok_one, not_both}
use Rattle.g1_text.specs.Forms.{Form, Spells, Single, ◌▸◌}
use Rattle.g1_text.proofs.Fronts.{read_one, read_then}
use Rattle.g1_text.proofs.Spelled.{two_fronts, one_front}
use Rattle.g1_text.proofs.reading.sizes.Goals as goal

abbrev Says : ℕ → Form
Says n = Single (Spells (2 ^ 64) n)

pub returns-in_err-w-clause-full : goal.returns-in_err-w-clause-full
returns-in_err-w-clause-full c = λ w k n rest told.
    let parts = two_fronts (Says w) (Says k ▸ Says n) told in
    let word = one_front (Spells (2 ^ 64) w) parts.1 in
    absurd (not_both c.in_err-w.was (c.number.ensures.full w word.0 parts.0 word.2 word.1).0)

pub returns-in_err-k-clause-full : goal.returns-in_err-k-clause-full
returns-in_err-k-clause-full c = λ w k n rest told.
    let parts = two_fronts (Says w) (Says k ▸ Says n) told in
    let word = one_front (Spells (2 ^ 64) w) parts.1 in
    let first = c.number.ensures.full w word.0 parts.0 word.2 word.1 in
    let behind = two_fronts (Says k) (Says n) parts.2 in
    let next = one_front (Spells (2 ^ 64) k) behind.1 in
    absurd (not_both c.in_err-k.was (c.number-2.ensures.full k next.0 behind.0 next.2 (first.1 ∙ next.1)).0)

pub returns-in_err-n-clause-full : goal.returns-in_err-n-clause-full
returns-in_err-n-clause-full c = λ w k n rest told.
    let parts = two_fronts (Says w) (Says k ▸ Says n) told in
    let word = one_front (Spells (2 ^ 64) w) parts.1 in
    let first = c.number.ensures.full w word.0 parts.0 word.2 word.1 in
    let behind = two_fronts (Says k) (Says n) parts.2 in
    let next = one_front (Spells (2 ^ 64) k) behind.1 in
    let second = c.number-2.ensures.full k next.0 behind.0 next.2 (first.1 ∙ next.1) in
    let last = one_front (Spells (2 ^ 64) n) behind.2 in
    absurd (not_both c.in_err-n.was (c.number-3.ensures.full n last.0 rest last.2 (second.1 ∙ last.1)).0)

pub returns-clause-full : goal.returns-clause-full
returns-clause-full c = λ w k n rest told.
    let parts = two_fronts (Says w) (Says k ▸ Says n) told in
    let word = one_front (Spells (2 ^ 64) w) parts.1 in
    let first = c.number.ensures.full w word.0 parts.0 word.2 word.1 in
    let behind = two_fronts (Says k) (Says n) parts.2 in
    let next = one_front (Spells (2 ^ 64) k) behind.1 in
    let second = c.number-2.ensures.full k next.0 behind.0 next.2 (first.1 ∙ next.1) in
    let last = one_front (Spells (2 ^ 64) n) behind.2 in
    let third = c.number-3.ensures.full n last.0 rest last.2 (second.1 ∙ last.1) in
    let a = ok_one c.in_ok-w.was first.0 in
    let b = ok_one c.in_ok-k.was second.0 in
    let d = ok_one c.in_ok-n.was third.0 in
    ((λ t. Ok (record { w = a t; k = b t; n = d t })), third.1)

pub returns-clause-digits : goal.returns-clause-digits
returns-clause-digits c =
    read_then (Single (Spells (2 ^ 64) c.in_ok-w.w)) (Single (Spells (2 ^ 64) c.in_ok-k.k) ▸ Single (Spells (2 ^ 64) c.in_ok-n.n)) (read_one (Spells (2 ^ 64) c.in_ok-w.w) c.in_ok-w.ensures.digits)
    (read_then (Single (Spells (2 ^ 64) c.in_ok-k.k)) (Single (Spells (2 ^ 64) c.in_ok-n.n)) (read_one (Spells (2 ^ 64) c.in_ok-k.k) c.in_ok-k.ensures.digits)
    (read_one (Spells (2 ^ 64) c.in_ok-n.n) c.in_ok-n.ensures.digits))
