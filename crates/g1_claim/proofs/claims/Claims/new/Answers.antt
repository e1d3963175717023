use Rattle.std.proofs.Common.{rules}
use Rattle.g1_claim.proofs.Steps.{opens}
use Rattle.g1_claim.proofs.claims.Claims.new.Goals as goal

pub of_words-requires : goal.of_words-requires
of_words-requires c = opens _ _ (search rules)
