use Rattle.std.proofs.Common.{[], ℕ, List, ◌++◌, string_bytes}
use Rattle.std.specs.Prelude.{codes}
use Rattle.std.specs.Borrow.{Bor}
use Rattle.g1_text.proofs.Printed.{one_more}
use Rattle.g1_report.proofs.comparing.push_behind.Goals as goal

pub loop-word-preserved : goal.loop-word-preserved
loop-word-preserved c =
    let none : Bor (List ℕ) = record { ref_ptr = (0, 0); now = [] } in
    one_more (λ (word : Bor (List ℕ)). codes " " ++ word.now) (string_bytes c.args.text.now) (string_bytes c.loop-word.text) (string_bytes c.write.new.self) c.args.words.now
    c.loop-word.word-index none c.loop-word-test.true c.loop-word.invariant c.in_ok-write.ensures.bytes
