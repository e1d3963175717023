use Rattle.std.proofs.Common.{◌∙◌}
use Rattle.g1_text.proofs.Signs.{mark_found}
use Rattle.g1_text.proofs.boxes.has_mark.Goals as goal

pub returns : goal.returns
returns c = c.is_some.ensures ∙ mark_found c.args.bytes.now c.memchr2.result c.memchr2.ensures
