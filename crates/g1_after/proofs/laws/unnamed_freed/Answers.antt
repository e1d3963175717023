use Rattle.g1_after.proofs.LeftRules.{valid_left}
use Rattle.g1_after.proofs.LeftGraph.{graph_left}
use Rattle.g1_after.proofs.ObjectsLeft.{objects_left}
use Rattle.g1_after.proofs.LeftRefs.{nothing_into_unnamed, refs_left}
use Rattle.g1_after.proofs.LeftCovered.{tracked_left}
use Rattle.g1_after.proofs.laws.unnamed_freed.Goals as goal

pub returns-clause-objects : goal.returns-clause-objects
returns-clause-objects c = objects_left

pub returns-clause-refs : goal.returns-clause-refs
returns-clause-refs c = refs_left

pub returns-clause-nothing : goal.returns-clause-nothing
returns-clause-nothing c = nothing_into_unnamed

pub returns-clause-valid : goal.returns-clause-valid
returns-clause-valid c = valid_left

pub returns-clause-graph : goal.returns-clause-graph
returns-clause-graph c = graph_left

pub returns-clause-tracked : goal.returns-clause-tracked
returns-clause-tracked c = tracked_left
