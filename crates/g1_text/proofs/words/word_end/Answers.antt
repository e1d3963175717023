use Rattle.std.proofs.Common.{sym, ap, ◌∙◌, arith}
use Rattle.std.specs.Char.{is_ascii_whitespace}
use Rattle.g1_text.proofs.Lanes.{run_through, run_stops}
use lib.Count.{count_trailing_zeros}
use Rattle.g1_text.proofs.words.word_end.Goals as goal

pub returns-then-found-ne0 : goal.returns-then-found-ne0
returns-then-found-ne0 c =
    let found = c.white_among-found in
    let run = run_stops is_ascii_whitespace c.args.bytes.now c.loop-at.at 16 (omega arith) (omega arith) (omega (arith, found.ensures)) ∙ ap (count_trailing_zeros 64) (sym found.ensures) in
    omega (arith, run, c.loop-at.invariant.0)

pub loop-at-preserved : goal.loop-at-preserved
loop-at-preserved c =
    let run = run_through is_ascii_whitespace c.args.bytes.now c.loop-at.at 16 (omega arith) (omega (arith, c.white_among-found.ensures)) in
    (omega (arith, run, c.loop-at.invariant.0), omega arith)
