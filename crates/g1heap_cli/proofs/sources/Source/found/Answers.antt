use Rattle.std.proofs.Common.{◌≡◌, ◌∙◌, rules, sym, subst, IfSome, option_map}
use Rattle.g1_image.specs.Faults.{FaultWithin}
use Rattle.g1heap_cli.proofs.Found.{of_bytes}
use Rattle.g1heap_cli.proofs.sources.Source.found.Goals as goal

-- the fault of the bytes
pub returns : goal.returns
returns g c =
    let found = of_bytes _ _ c.in-Err-read_within.fault (sym c.is_of_machine.ensures ∙ c.if-is_of_machine.false) c.in-Err-read_within.ensures.err in
    let same : IfSome (option_map (λ v. v.items) c.args.self.now.kept) (λ xs. xs ≡ found.0) = search rules in
    let within = subst (λ l. FaultWithin l found.0 c.in-Err-read_within.fault) c.limits.ensures found.1 in
    record { found = (found.0, within, same); refused = tt }
