use Rattle.std.proofs.Common.{[], get_or, drop, sym, ◌∙◌, ap, subst, arith}
use Rattle.std.specs.Prelude.{Ok}
use Rattle.g1_text.specs.Forms.{HasSize}
use Rattle.g1_text.proofs.OneGraph.{size_one}
use Rattle.g1_text.proofs.reading.size.Goals as goal
use Rattle.g1_text.proofs.reading.size.Goals.{in_default-size_and_slots-via-in-Some-size_and_slots+else-slots-size, in_default-size_and_slots-via-in_default-size_and_slots}

pub returns-in-Some-size_and_slots-clause-full : goal.returns-in-Some-size_and_slots-clause-full
returns-in-Some-size_and_slots-clause-full c = λ size slots word rest lt says e.
    let words = sym c.in-Some.ensures ∙ e in
    let read = c.in-Some-size_and_slots in
    let same = size_one read.size read.slots size slots c.in-Some.word.now word read.ensures.digits says (ap (λ ws. get_or ws 0 []) words) in
    ((λ i. Ok (same.0 i, same.1 i)), ap (drop 1) words)

pub returns-in_default-size_and_slots-clause-full : goal.returns-in_default-size_and_slots-clause-full
returns-in_default-size_and_slots-clause-full c = λ size slots word rest lt says e.
    let words = sym c.in-Some.ensures ∙ e in
    let first = ap (λ ws. get_or ws 0 []) words in
    absurd (elim (c.in_default-size_and_slots.branch) [
      | in_default-size_and_slots-via-in-Some-size_and_slots+else-slots-size w ↦
          (let read = w.in-Some-size_and_slots in
          let same = size_one read.size read.slots size slots c.in-Some.word.now word read.ensures.digits says first in
          omega (arith, lt, same.0, same.1, w.if-slots-size.false))
      | in_default-size_and_slots-via-in_default-size_and_slots w ↦ w.in_default-size_and_slots.ensures.digits size slots (subst (HasSize size slots) (sym first) says)
    ])
