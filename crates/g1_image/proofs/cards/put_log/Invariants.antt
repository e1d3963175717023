use Rattle.std.proofs.Common.{◌≡◌, ◌<◌, ℕ, take}
use Rattle.g1_image.specs.Faults.{IsGoodLogged}
use Rattle.g1_image.proofs.cards.put_log.Given as goal

abbrev pub invariant-loop-i : goal.invariant-loop-i
invariant-loop-i l = (l.cards.keys ≡ take l.i l.log) × ((q : ℕ) → q < l.i → IsGoodLogged l.draft l.log q)
