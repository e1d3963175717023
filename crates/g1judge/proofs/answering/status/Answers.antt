use Rattle.std.proofs.Common.{ap, sym}
use Rattle.g1judge.specs.Answered.{status_of}
use Rattle.g1judge.proofs.answering.status.Goals as goal

pub returns-in-Differ : goal.returns-in-Differ
returns-in-Differ c = ap status_of (sym c.in-Differ.is)

pub returns-in-Loss : goal.returns-in-Loss
returns-in-Loss c = ap status_of (sym c.in-Loss.is)

pub returns-in-NoImage : goal.returns-in-NoImage
returns-in-NoImage c = ap status_of (sym c.in-NoImage.is)
