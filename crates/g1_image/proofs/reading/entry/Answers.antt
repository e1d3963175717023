use Rattle.std.proofs.Common.{◌≡◌, List, ℕ, sym, ◌∙◌, ◌++◌}
use Rattle.g1_image.specs.Reading.{IsU32, EndsWithin}
use Rattle.g1_image.specs.Faults.{FlagsFit, EntryFits}
use Rattle.g1_image.specs.Text.{Entry, u32, flags_text, entry_text}
use Rattle.g1_image.proofs.Numbers.{u32_once}
use Rattle.g1_image.proofs.Parts.{entry_flat}
use Rattle.g1_image.proofs.PrefixFree.{Reads-fails}
use Rattle.g1_image.proofs.reading.entry.Goals as goal
use Rattle.g1_image.proofs.reading.entry.Goals.{In_ok-kind}

-- what stands behind the kind, of every entry that begins the bytes
after_kind : (c : In_ok-kind) (y : Entry) (tail : List ℕ) → EntryFits c.args.version y → c.args.bytes.now ≡ entry_text c.args.version y ++ tail →
    c.in_ok-kind.rest.now ≡ u32 y.top ++ (flags_text c.args.version y.flags ++ tail)
after_kind c y tail fy ey =
    (u32_once c.in_ok-kind.kind y.kind c.in_ok-kind.rest.now (u32 y.top ++ (flags_text c.args.version y.flags ++ tail)) c.in_ok-kind.ensures.0 fy.0
    (sym c.in_ok-kind.ensures.1 ∙ ey ∙ entry_flat c.args.version y tail)).1

pub returns-in_err-kind : goal.returns-in_err-kind
returns-in_err-kind c =
    let v = c.args.version in
    let bytes = c.args.bytes.now in
    Reads-fails (EntryFits v) (entry_text v) (λ x. (x.0, x.1.now)) bytes c.from_residual.result c.in_err-kind.field-0.0 (EndsWithin IsU32 u32 bytes) c.from_residual.ensures.1 c.in_err-kind.ensures
    (λ short y tail fy ey. short y.kind (u32 y.top ++ (flags_text v y.flags ++ tail)) fy.0 (ey ∙ entry_flat v y tail))

pub returns-in_err-top : goal.returns-in_err-top
returns-in_err-top c =
    let v = c.args.version in
    let bytes = c.args.bytes.now in
    let rest = c.in_ok-kind.rest.now in
    let read = (goal.at.returns-in_err-top c).In_ok-kind in
    Reads-fails (EntryFits v) (entry_text v) (λ x. (x.0, x.1.now)) bytes c.from_residual-in_err-top.result c.in_err-top.field-0.0
    (EndsWithin IsU32 u32 rest) c.from_residual-in_err-top.ensures.1 c.in_err-top.ensures
    (λ short y tail fy ey. short y.top (flags_text v y.flags ++ tail) fy.1 (after_kind read y tail fy ey))

pub returns-in_err-flags : goal.returns-in_err-flags
returns-in_err-flags c =
    let v = c.args.version in
    let bytes = c.args.bytes.now in
    let rest = c.in_ok-top.rest.now in
    let read = (goal.at.returns-in_err-flags c).In_ok-kind in
    Reads-fails (EntryFits v) (entry_text v) (λ x. (x.0, x.1.now)) bytes c.from_residual-in_err-flags.result c.in_err-flags.field-0.0
    (EndsWithin (FlagsFit v) (flags_text v) rest) c.from_residual-in_err-flags.ensures.1 c.in_err-flags.ensures
    (λ short y tail fy ey. short y.flags tail fy.2
    (u32_once c.in_ok-top.top y.top rest (flags_text v y.flags ++ tail) c.in_ok-top.ensures.0 fy.1 (sym c.in_ok-top.ensures.1 ∙ after_kind read y tail fy ey)).1)
