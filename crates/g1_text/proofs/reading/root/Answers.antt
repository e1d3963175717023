use Rattle.std.proofs.Common.{sym, subst}
use Rattle.g1_text.specs.Forms.{Number, Maybe, Single, IsReferenceWord, HasFront}
use Rattle.g1_text.proofs.Fronts.{then_all, read_all, read_one, maybe_number, no_number}
use Rattle.g1_text.proofs.reading.root.Goals as goal
use Rattle.g1_text.proofs.reading.root.Goals.{then-len-gt1+in_ok-follows, else-len-gt1}

pub returns-clause-form : goal.returns-clause-form
returns-clause-form c =
    let told : HasFront (Maybe Number) c.args.words c.if-len-gt1.words = elim (c.if-len-gt1.branch) [
      | then-len-gt1+in_ok-follows w ↦ subst (HasFront (Maybe Number) c.args.words) (sym w.words-is) (maybe_number w.take_number-told.result _ w.take_number-told.ensures.digits)
      | else-len-gt1 w ↦ subst (HasFront (Maybe Number) c.args.words) (sym w.words-is) (no_number c.args.words)
    ] in
    let read = c.in_ok-reference.ensures.digits in
    then_all (Maybe Number) (Single IsReferenceWord) told (read_all (Single IsReferenceWord) (read_one IsReferenceWord (read.0, read.1, (c.in_ok-reference.reference, read.2))) c.in_ok-end.ensures.none)
