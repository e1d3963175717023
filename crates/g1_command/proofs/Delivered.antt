-- What was written, part after part.
use Rattle.std.proofs.Common.{ℕ, ◌≤◌, List, Option, Result, Ok, Err, length, sym, subst, arith}
use Rattle.std.proofs.lemmas.List.{take_all}
use Rattle.std.specs.Io.KnownBytes.{Appends, Keeps}
use Rattle.std.proofs.KnownBytes.{Appends-kept}
use Rattle.g1_command.specs.Deliveries.{Delivers}

-- a flush behind all of a text keeps it
pub flushed : {E : Type 0} (text : List ℕ) (a b c : Option (List ℕ)) (r : Result (Unit {0}) E) → Appends a b text → Keeps b c → Delivers text a c r
flushed text a b c (Ok u) p q = Appends-kept a b c text p q
flushed text a b c (Err e) p q =
    let le : length text ≤ length text = omega arith in
    (length text, subst (Appends a c) (sym (take_all (length text) text le)) (Appends-kept a b c text p q))
