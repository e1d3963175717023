use Rattle.std.proofs.Common.{◌≡◌, ◌⊎◌, true≢false, sym, subst, ◌∙◌}
use Rattle.std.specs.Prelude.{IfErr}
use Rattle.g1_image.specs.Faults.{MayFailWithin}
use Rattle.g1heap_cli.specs.Compared.{AreLines}
use Rattle.g1heap_cli.specs.Found.{RefusesBytes}
use Rattle.g1heap_cli.specs.Refusals.{IsUnread}
use Rattle.g1heap_cli.specs.SideReasons.{HasOtherFault}
use Rattle.g1heap_cli.proofs.SideRead.{no_lines}
use Rattle.g1heap_cli.proofs.files.found_in.Goals as goal

pub found_with-requires : goal.found_with-requires
found_with-requires c =
    let same : c.as_slice-2.result.now ≡ c.as_slice-in-Err-decode_within.result.now = cc in
    subst (λ l. MayFailWithin c.args.limits l c.in-Err-decode_within.fault) same c.in-Err-decode_within.ensures.err

-- bytes that are no lines
pub returns-clause-refused : goal.returns-clause-refused
returns-clause-refused c =
    let limits = c.args.limits in
    let file = c.args.name.now in
    let bytes = c.args.bytes.items in
    let first : c.as_slice.result.now ≡ bytes = cc in
    let last : c.as_slice-in-Err-decode_within.result.now ≡ bytes = cc in
    no_lines limits file bytes (λ lines. true≢false (sym (c.is_graph.ensures.1 (subst AreLines (sym first) lines)) ∙ c.if-is_graph.false)) c.found_with.result
    (subst (λ l. IfErr c.found_with.result (λ e. IsUnread file e ⊎ (HasOtherFault limits l × RefusesBytes limits file l e))) last c.found_with.ensures.refused)
