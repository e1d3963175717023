use Rattle.std.proofs.Common.{length, sym, ap, ◌∙◌}
use Rattle.g1_words.proofs.Bits.{length-marks_of}
use Rattle.g1_words.proofs.marks.Marks.len.Goals as goal

pub returns : goal.returns
returns c = sym (length-marks_of c.self.inside.count c.self.inside.bits.items) ∙ ap length c.self.view_is
