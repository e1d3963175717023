use Rattle.std.proofs.Common.{◌∙◌, ℕ, Vec, Global, subst, ap}
use Rattle.g1_image.specs.Image.{IsTextWithin}
use Rattle.g1_image.specs.Faults.{FaultWithin}
use Rattle.g1heap_cli.specs.Refusals.{RefusesFile}
use Rattle.g1heap_cli.specs.Found.{IsFoundIn}
use Rattle.g1heap_cli.specs.Reasons.{MayLack}
use Rattle.g1heap_cli.specs.Streams.{HoldsOfKept}
use Rattle.g1heap_cli.proofs.Unanswered.{no_part, no_image_of}
use Rattle.g1heap_cli.proofs.commands.print_part.Goals as goal

-- the part is not there
pub returns-in-Ok-Ok-clause-refused : goal.returns-in-Ok-Ok-clause-refused
returns-in-Ok-Ok-clause-refused g c =
    let image = c.args.image.now in
    let source = c.in-Ok in
    let i = c.in-Ok-Ok.image in
    let r = c.in-Err-print_lines.refusal in
    no_part {V = Vec ℕ Global} (λ v. v.items) image.name.bytes.items (g.R.Read.remaining c.args.reader.now) source.source.kept source.ensures.kept image.limits c.args.part i r
    (subst (λ m. HoldsOfKept {V = Vec ℕ Global} (λ v. v.items) source.source.kept (λ xs. IsTextWithin m.limits xs i)) source.ensures.image
    (subst (λ q. HoldsOfKept {V = Vec ℕ Global} (λ v. v.items) source.source.kept (λ xs. IsFoundIn source.source.image.now.limits xs q)) c.in-Ok-Ok.field-0-is c.in-Ok-Ok.ensures.found))
    (subst (λ n. MayLack n c.args.part i r) (c.name.ensures ∙ ap (λ m. m.name.bytes.items) source.ensures.image) c.in-Err-print_lines.ensures.refused)

-- the bytes are no image's
pub returns-in-Ok-print_broken-clause-broken : goal.returns-in-Ok-print_broken-clause-broken
returns-in-Ok-print_broken-clause-broken g c =
    let image = c.args.image.now in
    let source = c.in-Ok in
    let f = c.in-Ok-Err.fault in
    let r = c.in-Ok-print_broken.refusal in
    no_image_of {V = Vec ℕ Global} (λ v. v.items) image.name.bytes.items (g.R.Read.remaining c.args.reader.now) source.source.kept source.ensures.kept image.limits c.args.part f r
    (subst (λ m. HoldsOfKept {V = Vec ℕ Global} (λ v. v.items) source.source.kept (λ xs. FaultWithin m.limits xs f)) source.ensures.image
    (subst (λ q. HoldsOfKept {V = Vec ℕ Global} (λ v. v.items) source.source.kept (λ xs. IsFoundIn source.source.image.now.limits xs q)) c.in-Ok-Err.field-0-is c.in-Ok-Err.ensures.found))
    (subst (λ m. RefusesFile m.name.bytes.items f r) source.ensures.image c.in-Ok-print_broken.ensures.broken)
