use Rattle.std.proofs.Common.{◌≡◌, ◌+◌, ◌-◌, ◌*◌, ℕ, List, get_or, take, refl, arith, below_more}
use Rattle.g1_trace.specs.Lines.{read_on}
use Rattle.g1_trace.proofs.Numerals.{read_more, none_large}
use Rattle.g1_trace.proofs.parsing.leading_digits.Goals as goal

pub returns-in-None-clause-none : goal.returns-in-None-clause-none
returns-in-None-clause-none c =
    let bytes : List ℕ = c.args.bytes.now in
    let e : read_on 0 (take (c.loop-i.i + 1) bytes) ≡ 10 * read_on 0 (take c.loop-i.i bytes) + (get_or bytes c.loop-i.i 0 - 48) = read_more bytes c.loop-i.i c.loop-i-test.true in
    let v = c.loop-i.invariant.value in
    none_large bytes (c.loop-i.i + 1) (omega (arith, c.loop-i-test.true)) (below_more _ _ c.loop-i.invariant.digits (omega (arith, c.if-b-lt48.false), omega (arith, c.if-b-gt57.false)))
    (omega (arith, e, v, c.from.ensures, c.in-None.ensures.none))

pub loop-i-preserved : goal.loop-i-preserved
loop-i-preserved c =
    let bytes : List ℕ = c.args.bytes.now in
    let e : read_on 0 (take (c.loop-i.i + 1) bytes) ≡ 10 * read_on 0 (take c.loop-i.i bytes) + (get_or bytes c.loop-i.i 0 - 48) = read_more bytes c.loop-i.i c.loop-i-test.true in
    let v = c.loop-i.invariant.value in
    record {
      digits = below_more _ _ c.loop-i.invariant.digits (omega (arith, c.if-b-lt48.false), omega (arith, c.if-b-gt57.false));
      value = omega (arith, e, v, c.from.ensures, c.in-Some.ensures.some);
      fits = c.in-Some.ensures.fits;
    }

pub overflow_sub-b : goal.overflow_sub-b
overflow_sub-b c = omega arith

pub returns-then-b-lt48-clause-within : goal.returns-then-b-lt48-clause-within
returns-then-b-lt48-clause-within c = omega arith

pub bounds-bytes-i : goal.bounds-bytes-i
bounds-bytes-i c = c.loop-i-test.true

pub returns-then-b-lt48-clause-value : goal.returns-then-b-lt48-clause-value
returns-then-b-lt48-clause-value c = c.loop-i.invariant.value

pub loop-i-init : goal.loop-i-init
loop-i-init c = record { digits = λ k lt. absurd (omega (arith, lt)); value = refl; fits = omega arith }
