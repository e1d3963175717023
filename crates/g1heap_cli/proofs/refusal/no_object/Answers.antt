use Rattle.std.proofs.Common.{◌≡◌, ℕ, List, ◌++◌, codes, decimal, refl}
use Rattle.g1_command.specs.declared.refusal.Refusal.TheVariants as refusal
use Rattle.g1heap_cli.specs.Refusals.{Tells, told_line, ended}
use Rattle.g1heap_cli.proofs.Told.{some_line, reported, beside}
use Rattle.g1heap_cli.proofs.refusal.no_object.Goals as goal

pub returns-in-Ok : goal.returns-in-Ok
returns-in-Ok c =
    let line = λ (what : List ℕ). told_line c.args.name.now (codes "no object starts at " ++ (decimal c.args.address ++ (codes ": " ++ ended what))) in
    let text = c.format-text.result in
    reported (Tells 2 (λ t. (what : List ℕ) × t ≡ line what)) text (λ s. refusal.Told 2 s) c.refusal.result refl
    (beside text 2 (λ s. (what : List ℕ) × s.bytes.items ≡ line what) (some_line text (λ s. s.bytes.items) line c.in-Ok.what.bytes.items c.format-text.ensures.ok))
    c.refusal.ensures.told c.refusal.ensures.memory
