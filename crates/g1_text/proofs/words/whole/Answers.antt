use Rattle.std.proofs.Common.{rules, ◌≡◌, ◌<◌, length, get_or, sym, subst, arith}
use Rattle.std.specs.Prelude.{Some, None}
use Rattle.g1_text.proofs.Digits.{begun, one_more, no_digit, too_large, all_read, decimal_read}
use Rattle.g1_text.proofs.words.whole.Goals as goal

pub returns-then-is_empty-clause-full : goal.returns-then-is_empty-clause-full
returns-then-is_empty-clause-full c =
    let none : length c.args.text.now ≡ 0 = search rules in
    decimal_read c.args.text.now None (λ h. let some = h.1.0.0 in omega (arith, some, none))

pub loop-at-init : goal.loop-at-init
loop-at-init c = (omega arith, begun c.args.text.now c.as_bytes-digits.result.now c.as_bytes-digits.ensures.value)

pub returns-then-digit-gt9-clause-digits : goal.returns-then-digit-gt9-clause-digits
returns-then-digit-gt9-clause-digits c =
    no_digit c.args.text.now c.as_bytes-digits.result.now c.loop-at.at c.loop-at.number c.loop-at.invariant.1 c.loop-at-test.true c.if-digit-gt9.true

pub returns-then-digit-gt9-clause-full : goal.returns-then-digit-gt9-clause-full
returns-then-digit-gt9-clause-full c =
    decimal_read c.args.text.now None (no_digit c.args.text.now c.as_bytes-digits.result.now c.loop-at.at c.loop-at.number c.loop-at.invariant.1 c.loop-at-test.true c.if-digit-gt9.true)

pub returns-in_default-clause-digits : goal.returns-in_default-clause-digits
returns-in_default-clause-digits c =
    let fits : get_or c.as_bytes-digits.result.now c.loop-at.at 0 < 256 = subst (λ t. get_or t c.loop-at.at 0 < 256) (sym c.as_bytes-digits.ensures.value) (omega (arith, c.type_inv.text c.loop-at.at)) in
    too_large c.args.text.now c.as_bytes-digits.result.now c.loop-at.at c.loop-at.number c.loop-at.invariant.1 c.loop-at-test.true fits (omega (arith, c.if-digit-gt9.false)) (omega (arith, c.in_default.ensures))

pub returns-in_default-clause-full : goal.returns-in_default-clause-full
returns-in_default-clause-full c =
    let fits : get_or c.as_bytes-digits.result.now c.loop-at.at 0 < 256 = subst (λ t. get_or t c.loop-at.at 0 < 256) (sym c.as_bytes-digits.ensures.value) (omega (arith, c.type_inv.text c.loop-at.at)) in
    decimal_read c.args.text.now None (too_large c.args.text.now c.as_bytes-digits.result.now c.loop-at.at c.loop-at.number c.loop-at.invariant.1 c.loop-at-test.true fits (omega (arith, c.if-digit-gt9.false)) (omega (arith, c.in_default.ensures)))

pub returns-in_default-checked_add-clause-digits : goal.returns-in_default-checked_add-clause-digits
returns-in_default-checked_add-clause-digits c =
    let fits : get_or c.as_bytes-digits.result.now c.loop-at.at 0 < 256 = subst (λ t. get_or t c.loop-at.at 0 < 256) (sym c.as_bytes-digits.ensures.value) (omega (arith, c.type_inv.text c.loop-at.at)) in
    too_large c.args.text.now c.as_bytes-digits.result.now c.loop-at.at c.loop-at.number c.loop-at.invariant.1 c.loop-at-test.true fits (omega (arith, c.if-digit-gt9.false)) (omega (arith, c.in-Some.ensures, c.in_default-checked_add.ensures, c.from.ensures))

pub returns-in_default-checked_add-clause-full : goal.returns-in_default-checked_add-clause-full
returns-in_default-checked_add-clause-full c =
    let fits : get_or c.as_bytes-digits.result.now c.loop-at.at 0 < 256 = subst (λ t. get_or t c.loop-at.at 0 < 256) (sym c.as_bytes-digits.ensures.value) (omega (arith, c.type_inv.text c.loop-at.at)) in
    decimal_read c.args.text.now None (too_large c.args.text.now c.as_bytes-digits.result.now c.loop-at.at c.loop-at.number c.loop-at.invariant.1 c.loop-at-test.true fits (omega (arith, c.if-digit-gt9.false)) (omega (arith, c.in-Some.ensures, c.in_default-checked_add.ensures, c.from.ensures)))

pub loop-at-preserved : goal.loop-at-preserved
loop-at-preserved c =
    let fits : get_or c.as_bytes-digits.result.now c.loop-at.at 0 < 256 = subst (λ t. get_or t c.loop-at.at 0 < 256) (sym c.as_bytes-digits.ensures.value) (omega (arith, c.type_inv.text c.loop-at.at)) in
    (search rules, one_more c.args.text.now c.as_bytes-digits.result.now c.loop-at.at c.loop-at.number c.loop-at.invariant.1 c.loop-at-test.true _ fits (omega (arith, c.if-digit-gt9.false)) (omega (arith, c.in-Some.ensures, c.in-Some-checked_add.ensures, c.from.ensures)))

pub returns-clause-digits : goal.returns-clause-digits
returns-clause-digits c =
    let some : 0 < length c.as_bytes-digits.result.now = search rules in
    all_read c.args.text.now c.as_bytes-digits.result.now c.loop-at.at c.loop-at.number c.as_bytes-digits.ensures.value c.loop-at.invariant.1 (omega (arith, c.loop-at-test.false)) some c.loop-at.invariant.0

pub returns-clause-full : goal.returns-clause-full
returns-clause-full c =
    let some : 0 < length c.as_bytes-digits.result.now = search rules in
    decimal_read c.args.text.now (Some c.loop-at.number)
    (all_read c.args.text.now c.as_bytes-digits.result.now c.loop-at.at c.loop-at.number c.as_bytes-digits.ensures.value c.loop-at.invariant.1 (omega (arith, c.loop-at-test.false)) some c.loop-at.invariant.0)
