-- Why a call is refused.
use Rattle.std.specs.Prelude.{Result, Ok, Err, IfErr}
use Rattle.g1_command.specs.declared.refusal.Refusal.{Refusal}
use Rattle.g1_command.specs.declared.refusal.Refusal.TheVariants as refusal
use Rattle.g1_command.specs.declared.values.Misuse.{Misuse}
use Rattle.g1_command.specs.declared.values.Misuse.TheVariants as misuse
use Rattle.g1_command.specs.Requests.{IsUsageIf}
use Rattle.g1_command.specs.Values.{Because, IsValue}

-- the reason is there whether memory was wanted or not
pub because_of : {P : Type 0} → P → (m : Misuse) → Because P m
because_of h misuse.Memory = tt
because_of h (misuse.Value message) = h

pub error_because : {A P : Type 0} → P → (r : Result A Misuse) → IfErr r (Because P)
error_because h (Ok a) = tt
error_because h (Err m) = because_of h m

-- and it holds if a value was wrong
pub value_wrong : {P : Type 0} (m : Misuse) → IsValue m → Because P m → P
value_wrong misuse.Memory v h = absurd v
value_wrong (misuse.Value message) v h = h

pub usage_so : {P Q : Type 0} → (P → Q) → (r : Refusal) → IsUsageIf P r → IsUsageIf Q r
usage_so f (refusal.Told status text) h = (h.0, f h.1)
usage_so f (refusal.Fault fault) h = h
