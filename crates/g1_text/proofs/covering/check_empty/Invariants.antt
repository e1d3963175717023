use Rattle.std.proofs.Common.{◌≡◌, ◌<◌, ℕ, [], get_or, Vec, Global}
use Rattle.g1_text.proofs.covering.check_empty.Given as goal

abbrev pub invariant-loop-region : goal.invariant-loop-region
invariant-loop-region l = (k : ℕ) (d : Vec ℕ Global) → k < l.region → (get_or l.set-items k d).items ≡ []
