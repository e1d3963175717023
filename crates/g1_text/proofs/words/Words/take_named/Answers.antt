use Rattle.std.proofs.lemmas.Bool.Decides.{when_true}
use Rattle.g1_text.proofs.Fronts.{labelled, named}
use Rattle.g1_text.proofs.words.Words.take_named.Goals as goal

pub returns-in-Some-clause-digits : goal.returns-in-Some-clause-digits
returns-in-Some-clause-digits c = named c.args.word.now c.in-Some.number (when_true _ _ c.if-not-take.false c.take.ensures) c.in-Some.ensures.digits

pub returns-in-Some-clause-form : goal.returns-in-Some-clause-form
returns-in-Some-clause-form c = labelled c.args.word.now c.in-Some.number (when_true _ _ c.if-not-take.false c.take.ensures) c.in-Some.ensures.digits

pub returns-in-Some-clause-absent : goal.returns-in-Some-clause-absent
returns-in-Some-clause-absent c = λ none. absurd (none c.take.new.self (when_true _ _ c.if-not-take.false c.take.ensures))
