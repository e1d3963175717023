use Rattle.std.proofs.Common.{arith, ap, Ok}
use Rattle.g1_text.proofs.draft.overhang.Goals as goal

pub returns-then-size-most-clause-room : goal.returns-then-size-most-clause-room
returns-then-size-most-clause-room c = λ _ fits. absurd (omega (arith, c.if-size-most.true, c.saturating_sub-most.ensures, c.words.ensures.value, fits))

pub returns-else-size-most-clause-small : goal.returns-else-size-most-clause-small
returns-else-size-most-clause-small c =
    omega (arith, c.if-size-most.false, c.saturating_sub-most.ensures, c.words.ensures.value, c.words.ensures.limits.words_most)

pub returns-else-size-most-clause-room : goal.returns-else-size-most-clause-room
returns-else-size-most-clause-room c = λ _ _. ap Ok (omega (arith, c.saturating_sub.ensures, c.region_words.ensures.value))
