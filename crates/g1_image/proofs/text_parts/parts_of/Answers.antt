use Rattle.std.proofs.Common.{refl, subst}
use Rattle.g1_image.specs.Faults.{MayFailWithin}
use Rattle.g1_image.proofs.Told.{memory_fault, not_memory}
use Rattle.g1_image.proofs.text_parts.parts_of.Goals as goal

pub parts_before-requires : goal.parts_before-requires
parts_before-requires c =
    let e = c.in-Err.fault in
    not_memory c.args.limits c.args.bytes.now e
    (subst (λ l. MayFailWithin c.args.limits l e) c.new.ensures (memory_fault c.args.limits c.new.result e c.in-Err.ensures.err))
    (c.if-is_of_bytes.ensures.yes refl).0
