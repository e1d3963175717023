use Rattle.std.proofs.Common.{◌≡◌, ℕ, ◌++◌, codes, decimal, subst}
use Rattle.std.specs.Prelude.{IfOk}
use Rattle.g1_words.specs.Fault.{fault_text}
use Rattle.g1_words.specs.declared.fault.Fault.TheVariants as fault
use Rattle.g1_words.specs.declared.fault.Device.TheVariants as device
use Rattle.g1heap_cli.specs.Refusals.{output_line, cause_line}
use Rattle.g1heap_cli.proofs.Told.{some_line}
use Rattle.g1heap_cli.proofs.refusal.output_text.Goals as goal

pub returns : goal.returns
returns c =
    let why = c.in_ok-reason.reason.bytes.items in
    let line = λ (n : ℕ). codes "g1heap: fault " ++ (decimal n ++ (codes ": " ++ (fault_text (fault.Device device.Output) ++ (codes "\n" ++ cause_line why)))) in
    some_line c.format-2.result (λ s. s.bytes.items) (λ x. output_line (cause_line x)) why
    (subst (λ n. IfOk c.format-2.result (λ s. s.bytes.items ≡ line n)) c.number-number.ensures c.format-2.ensures.ok)
