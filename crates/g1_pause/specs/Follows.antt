-- What holds between an image and the image after its pause.
use Rattle.std.specs.Prelude.{◌≡◌, ◌↔◌, ℕ, List, [], ◌++◌, map, Contains, IsFalse}
use Rattle.g1_words.specs.declared.limits.Limits.{Limits}
use Rattle.g1_words.specs.declared.limits.Limits.TheVariants.{Specified}
use Rattle.g1_words.specs.declared.object.Object.{Object}
use Rattle.g1_words.specs.Heap.{objects}
use Rattle.g1_words.specs.References.{Ref, refs, root_targets}
use Rattle.g1_words.specs.Survivors.{Survivors, in_set}
use Rattle.g1_words.specs.Layout.{forward, kept}
use Rattle.g1_words.specs.Moves.{moved_object}
use Rattle.g1_image.specs.Image.{Image, IsTextWithin, IsTextIn}
use Rattle.g1_image.specs.declared.cursor.Version.TheVariants.{Two}
use Rattle.g1_image.specs.Cards.{IsTracked}
use Rattle.g1_words.specs.Copy.{renamed, IsCopy}
use Rattle.g1_words.specs.Graph.{SameGraph}
use Rattle.g1_after.specs.Paused.{IsPaused, remaining}
use Rattle.g1_after.specs.Unnamed.{unnamed_regions}
use Rattle.g1_choose.specs.declared.parameters.Cost.{Cost}
use Rattle.g1_pause.specs.declared.settings.Choice.{Choice}
use Rattle.g1_pause.specs.Answer.{IsSetFor}

-- j follows from i: the kept objects, dead or not, except the humongous ones that were freed, stand under a one-to-one
-- renaming that carries roots, sizes, data and every reference, nothing else is an object, and no root and no slot leads
-- into a region that was freed, of the set or of a humongous object
pub record Follows (cost : Cost) (choice : Choice) (i j : Image) : Type 0 where
  pub set : List ℕ
  pub survivors : List ℕ
  pub chosen : IsSetFor cost i choice set
  pub found : Survivors i.heap set survivors
  pub paused : IsPaused i set survivors j
  pub one_to_one : (o p : Object) → Contains (kept i.heap set survivors) o → Contains (kept i.heap set survivors) p
      → forward i.heap survivors o.at ≡ forward i.heap survivors p.at → o.at ≡ p.at
  pub objects : (o : Object) → Contains (objects j.heap) o
      ↔ ((k : Object) × Contains (remaining i.heap set survivors (unnamed_regions paused.between.heap)) k × (o ≡ moved_object (forward i.heap survivors) k))
  pub copies : (o : Object) → Contains (remaining i.heap set survivors (unnamed_regions paused.between.heap)) o → IsCopy (forward i.heap survivors) i.heap j.heap o
  pub roots : j.heap.roots ≡ map (renamed (forward i.heap survivors)) i.heap.roots
  pub graph : SameGraph i.heap j.heap
  pub no_root : (a : ℕ) → Contains (root_targets j.heap) a → IsFalse (in_set i.heap (set ++ unnamed_regions paused.between.heap) a)
  pub no_slot : (e : Ref) → Contains (refs j.heap) e → IsFalse (in_set i.heap (set ++ unnamed_regions paused.between.heap) e.target)
  pub tracked : IsTracked j
  pub processed : j.log ≡ []

-- the texts of an image within these limits and of one that follows from it
pub record TextFollowsWithin (limits : Limits) (cost : Cost) (choice : Choice) (bytes out : List ℕ) : Type 0 where
  pub before : Image
  pub after : Image
  pub read : IsTextWithin limits bytes before
  pub written : IsTextIn Two out after
  pub follows : Follows cost choice before after

-- the texts of an image within the limits of the specification and of one that follows from it
abbrev pub TextFollows : Cost → Choice → List ℕ → List ℕ → Type 0
TextFollows cost choice bytes out = TextFollowsWithin Specified cost choice bytes out
