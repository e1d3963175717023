-- Why a side of `same` is not read.
use Rattle.std.specs.Prelude.{◌⊎◌, ℕ, List, Option}
use Rattle.g1_words.specs.declared.limits.Limits.{Limits}
use Rattle.g1_words.specs.declared.fault.Fault.{Fault}
use Rattle.g1_image.specs.Stale.{FaultWithout}
use Rattle.g1_command.specs.declared.refusal.Refusal.{Refusal}
use Rattle.g1heap_cli.specs.Compared.{AreLines}
use Rattle.g1heap_cli.specs.Found.{RefusesBytes}
use Rattle.g1heap_cli.specs.Refusals.{IsUnread}
use Rattle.g1heap_cli.specs.Streams.{HoldsOfNamed}

-- bytes have a fault, and not for their stale words alone: with null in their place they have one, too
abbrev pub HasOtherFault : Limits → List ℕ → Type 0
HasOtherFault limits bytes = (f : Fault) × FaultWithout limits bytes f

-- WHY BYTES HAVE NO SIDE: they are no lines of objects by name, not only stale words are wrong, and the file is refused for their fault
abbrev pub RefusesContent : Limits → List ℕ → List ℕ → Refusal → Type 0
RefusesContent limits file bytes r = (AreLines bytes → ⊥) × HasOtherFault limits bytes × RefusesBytes limits file bytes r

-- WHY A SIDE IS NOT READ: the file is not read, or its bytes have no side
abbrev pub IsUnreadSide : Limits → List ℕ → Option (List ℕ) → Refusal → Type 0
IsUnreadSide limits file left r = IsUnread file r ⊎ HoldsOfNamed file left (λ bytes. RefusesContent limits file bytes r)
