use Rattle.std.proofs.Common.{arith, inl, inr, refl}
use Rattle.g1_image.proofs.Tests.{never}
use Rattle.g1_image.proofs.Rows.{past_marks}
use Rattle.g1_image.proofs.refs.is_reference.Goals as goal

pub returns-then-x-len : goal.returns-then-x-len
returns-then-x-len c = never (λ r. elim r [
  | inl z ↦ omega (arith, z, c.if-x-len.true, c.len.ensures)
  | inr p ↦ past_marks c.args.marks.now p.0.at (c.requires.each.whole p.0.at (p.0, p.1, refl)) (omega (arith, p.2, c.if-x-len.true, c.len.ensures))
])
