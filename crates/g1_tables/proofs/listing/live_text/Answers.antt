use Rattle.std.proofs.Common.{ℕ, Vec, Global, ◌∙◌, [], ap, arith, string_bytes}
use Rattle.std.specs.Prelude.{slice_index}
use Rattle.g1_text.specs.Lines.{line_text}
use Rattle.g1_text.proofs.Printed.{one_number_more}
use Rattle.g1_tables.specs.Tables.{live_line}
use Rattle.g1_tables.proofs.Choosing.{live_end}
use Rattle.g1_tables.proofs.listing.live_text.Goals as goal

pub loop-region-preserved : goal.loop-region-preserved
loop-region-preserved c =
    one_number_more (λ r. line_text (live_line r (slice_index c.args.live.now r))) [] (string_bytes c.loop-region.text)
    (string_bytes c.writeln.new.self) c.loop-region.region-counter c.loop-region.invariant c.in_ok-writeln.ensures.bytes

pub returns : goal.returns
returns c =
    ap (λ (v : Vec ℕ Global). v.items) c.into_bytes.ensures.value ∙ live_end c.args.live.now (string_bytes c.loop-region.text)
    c.loop-region.region-counter (omega (arith, c.loop-region-test.false, c.loop-region.auto.region-counter-end)) c.loop-region.invariant
