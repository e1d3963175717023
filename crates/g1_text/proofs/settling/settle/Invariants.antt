use Rattle.std.proofs.Common.{◌<◌, ℕ, get_or}
use Rattle.g1_text.specs.declared.draft.Told.{Told}
use Rattle.g1_text.specs.Content.{CountsAgree}
use Rattle.g1_text.specs.Drafts.{content, counts_of}
use Rattle.g1_text.proofs.settling.settle.Given as goal

abbrev pub invariant-loop-told : goal.invariant-loop-told
invariant-loop-told l = (k : ℕ) (d : Told) → k < l.told-index → CountsAgree (content l.draft) (counts_of (get_or l.told-items k d))
