use Rattle.std.proofs.Common.{◌≡◌, ◌<◌, ◌^◌, ℕ, get_or, take}
use Rattle.std.specs.Int.{IsInRange}
use Rattle.g1_trace.specs.Lines.{read_on}
use Rattle.g1_trace.proofs.parsing.leading_digits.Given as goal

-- the bytes so far are digits, and this is the number that they write
abbrev pub invariant-loop-i : goal.invariant-loop-i
invariant-loop-i l = record {
  digits : (k : ℕ) → k < l.i → IsInRange 48 57 (get_or l.bytes k 0);
  value : l.value ≡ read_on 0 (take l.i l.bytes);
  fits : l.value < 2 ^ 64;
}
