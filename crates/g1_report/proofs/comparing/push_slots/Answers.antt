use Rattle.std.proofs.Common.{◌++◌, string_bytes}
use Rattle.std.specs.Prelude.{codes, decimal}
use Rattle.g1_text.proofs.Printed.{one_more}
use Rattle.g1_report.proofs.comparing.push_slots.Goals as goal

pub loop-slot-preserved : goal.loop-slot-preserved
loop-slot-preserved c =
    one_more (λ slot. codes " slot " ++ decimal slot) (string_bytes c.args.text.now) (string_bytes c.loop-slot.text) (string_bytes c.write.new.self) c.args.slots.now
    c.loop-slot.slot-index 0 c.loop-slot-test.true c.loop-slot.invariant c.in_ok-write.ensures.bytes
