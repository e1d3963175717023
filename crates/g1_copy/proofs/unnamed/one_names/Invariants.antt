use Rattle.std.proofs.Common.{◌≡◌, false, take}
use Rattle.std.specs.List.{list_any}
use Rattle.g1_copy.specs.Unnamed.{is_naming}
use Rattle.g1_copy.proofs.unnamed.one_names.Given as goal

abbrev pub invariant-loop-card : goal.invariant-loop-card
invariant-loop-card l = list_any (is_naming l.naming.heap l.naming.fates l.region) (take l.card-index l.cards) ≡ false
