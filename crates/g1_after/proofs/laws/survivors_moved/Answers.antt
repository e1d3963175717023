use Rattle.std.proofs.Common.{◌≡◌, subst}
use Rattle.g1_words.specs.Heap.{objects_in}
use Rattle.g1_words.specs.Layout.{need, free_regions}
use Rattle.g1_words.specs.Moves.{placed_there}
use Rattle.g1_words.proofs.Indices.{take_cases}
use Rattle.g1_words.proofs.Sound.{sound}
use Rattle.g1_words.proofs.Shapes.{built, valid_of}
use Rattle.g1_after.proofs.ToSpace.{to_space_objects}
use Rattle.g1_after.proofs.ObjectsOf.{objects_moved}
use Rattle.g1_after.proofs.RulesMoved.{valid_moved}
use Rattle.g1_after.proofs.CoveredMoved.{covered_moved}
use Rattle.g1_after.proofs.Existence.{made_is_moved}
use Rattle.g1_after.proofs.RefsMoved.{refs_moved, exact_by_refs}
use Rattle.g1_after.proofs.CardsMoved.{tracked_moved}
use Rattle.g1_after.proofs.Determined.{moved_unique}
use Rattle.g1_after.proofs.ExactStays.{exact_stays}
use Rattle.g1_after.proofs.PausedLaws.{ref_not_into_set}
use Rattle.g1_after.proofs.SameGraphs.{no_root_into_set, same_graph}
use Rattle.g1_after.proofs.laws.survivors_moved.Goals as goal

pub returns-clause-to_space : goal.returns-clause-to_space
returns-clause-to_space c = λ i set l j v a m r k.
    let t = take_cases (need i.heap l) (free_regions i.heap) r 0 k in
    subst (λ x. objects_in j.heap x ≡ placed_there i.heap l x) t.3 (to_space_objects i set l j (sound i.heap v) a m t.0 t.1)

pub returns-clause-objects : goal.returns-clause-objects
returns-clause-objects c = λ i set l j v a m. objects_moved i set l j (sound i.heap v) a m

pub returns-clause-valid : goal.returns-clause-valid
returns-clause-valid c = λ i set l j v a m. valid_of j.heap (valid_moved i set l j (built i.heap v) a m)

pub returns-clause-covered : goal.returns-clause-covered
returns-clause-covered c = λ i set l j v a m. covered_moved i set l j (built i.heap v) a m

pub returns-clause-exists : goal.returns-clause-exists
returns-clause-exists c = λ i set l v a. made_is_moved i set l (built i.heap v) a

pub returns-clause-one : goal.returns-clause-one
returns-clause-one c = moved_unique

pub returns-clause-refs : goal.returns-clause-refs
returns-clause-refs c = λ i set l j v a m. refs_moved i set l j (built i.heap v) a m

pub returns-clause-exact : goal.returns-clause-exact
returns-clause-exact c = λ i set l j v a m. exact_by_refs i set l j (built i.heap v) a m

pub returns-clause-stays : goal.returns-clause-stays
returns-clause-stays c = exact_stays

pub returns-clause-tracked : goal.returns-clause-tracked
returns-clause-tracked c = λ i set l j t a m. tracked_moved i set l j t a m

pub returns-clause-graph : goal.returns-clause-graph
returns-clause-graph c = λ i set l j v a m. same_graph i set l j (sound i.heap v) a m

pub returns-clause-nothing : goal.returns-clause-nothing
returns-clause-nothing c = λ i set l j v a m. (no_root_into_set i set l j (sound i.heap v) a m, ref_not_into_set i set l j v a m)
