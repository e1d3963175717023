use Rattle.std.proofs.Common.{arith, string_bytes}
use Rattle.g1_explain.specs.Lines.{leg_line}
use Rattle.g1_explain.proofs.Texts.{all_lines}
use Rattle.g1_explain.proofs.paths.push_path.Goals as goal

pub returns : goal.returns
returns c =
    all_lines leg_line (string_bytes c.args.text.now) (string_bytes c.loop-leg.text) c.args.path.now c.loop-leg.leg-index (omega (arith, c.loop-leg-test.false)) c.loop-leg.invariant
