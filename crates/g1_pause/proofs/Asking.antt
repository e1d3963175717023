-- Choices that ask for the same have the same answers.
use Rattle.std.proofs.Common.{◌≡◌, ℕ, List, filter, Result, ◌∙◌, ap, subst}
use Rattle.std.specs.Prelude.{slice_index}
use Rattle.g1_words.specs.declared.limits.Limits.{Limits}
use Rattle.g1_words.specs.declared.fault.Fault.{Fault}
use Rattle.g1_words.specs.declared.fault.Fault.TheVariants.{Set}
use Rattle.g1_words.specs.Heap.{Heap, regions}
use Rattle.g1_words.specs.Lists.{has}
use Rattle.g1_image.specs.Image.{Image}
use Rattle.g1_choose.specs.declared.parameters.Cost.{Cost}
use Rattle.g1_choose.specs.Named.{AreTakeable, IsFirstBad}
use Rattle.g1_pause.specs.declared.settings.Choice.{Choice}
use Rattle.g1_pause.specs.declared.settings.Choice.TheVariants.{Budget, Given}
use Rattle.g1_pause.specs.Answer.{AskTheSame, IsSetFor, FaultOfChoice, IsEvacuated, bad_set, no_room, done, IsAnswerWithin, unread, not_covered, refused, written}

module _ (cost : Cost) where
  same_set : (i : Image) (c d : Choice) (set : List ℕ) → AskTheSame c d → IsSetFor cost i c set → IsSetFor cost i d set
  same_set i (Budget b) (Budget m) set e s = subst (λ (n : ℕ). IsSetFor cost i (Budget n) set) e s
  same_set i (Given xs) (Given ys) set e s = (subst (AreTakeable i.heap) e s.0, s.1 ∙ ap (λ (list : List ℕ). filter (has list) (regions i.heap)) e)
  same_set i (Budget b) (Given ys) set e s = absurd e
  same_set i (Given xs) (Budget b) set e s = absurd e

  same_fault : (h : Heap) (c d : Choice) (f : Fault) → AskTheSame c d → FaultOfChoice h c f → FaultOfChoice h d f
  same_fault h (Budget b) d f e bad = absurd bad
  same_fault h (Given xs) (Budget b) f e bad = absurd e
  same_fault h (Given xs) (Given ys) f e bad = subst (λ (list : List ℕ). (k : ℕ) × IsFirstBad h list k × (f ≡ Set (slice_index list k))) e bad

  pub same_evacuation : (i : Image) (c d : Choice) (x : Result Image Fault) → AskTheSame c d → IsEvacuated cost c i x → IsEvacuated cost d i x
  same_evacuation i c d x e (bad_set {e = f} bad) = bad_set (same_fault i.heap c d f e bad)
  same_evacuation i c d x e (no_room set l s v lt) = no_room set l (same_set i c d set e s) v lt
  same_evacuation i c d x e (done set l s v room moved) = done set l (same_set i c d set e s) v room moved

  pub same_answer : (limits : Limits) (c d : Choice) (bytes : List ℕ) (x : Result (List ℕ) Fault) → AskTheSame c d → IsAnswerWithin limits cost c bytes x → IsAnswerWithin limits cost d bytes x
  same_answer limits c d bytes x e (unread f) = unread f
  same_answer limits c d bytes x e (not_covered t u) = not_covered t u
  same_answer limits c d bytes x e (refused t u v) = refused t u (same_evacuation _ c d _ e v)
  same_answer limits c d bytes x e (written t u v w) = written t u (same_evacuation _ c d _ e v) w
