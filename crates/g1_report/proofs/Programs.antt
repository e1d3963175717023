-- What is said where the names of a program are given, and where they are not.
use Rattle.std.proofs.Common.{◌≡◌, sym, ap, subst}
use Rattle.std.specs.Prelude.{Option, Some, None, IfSome}
use Rattle.std.specs.Borrow.{Bor}
use Rattle.g1_report.specs.declared.names.Names.{Names}
use Rattle.g1_report.specs.Program.{program_of, names_told, AreInOrder}

pub given : (o : Option (Bor Names)) (names : Bor Names) → o ≡ Some names → Some (program_of names.now) ≡ names_told o
given o names is = ap names_told (sym is)

pub missing : (o : Option (Bor Names)) → o ≡ None → None ≡ names_told o
missing o is = ap names_told (sym is)

pub given_in_order : (o : Option (Bor Names)) (names : Bor Names) → o ≡ Some names → IfSome (names_told o) AreInOrder → AreInOrder (program_of names.now)
given_in_order o names is order = subst (λ o. IfSome (names_told o) AreInOrder) is order
