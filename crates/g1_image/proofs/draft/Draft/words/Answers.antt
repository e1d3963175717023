use Rattle.std.proofs.Common.{subst}
use Rattle.g1_words.specs.Heap.{Heap}
use Rattle.g1_words.specs.Words.{AreLaid}
use Rattle.g1_image.proofs.draft.Draft.words.Goals as goal

pub returns-clause-laid : goal.returns-clause-laid
returns-clause-laid c = subst (λ (h : Heap). AreLaid h.geometry.w h.regions c.self.inside.words.laid) c.self.view_is c.self.invariant.1
