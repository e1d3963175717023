use Rattle.g1_kept.proofs.Excludes.{no_loss}
use Rattle.g1_kept.proofs.Graph.{keeps_graph}
use Rattle.g1_kept.proofs.laws.same_graph.Goals as goal

pub returns-clause-graph : goal.returns-clause-graph
returns-clause-graph c = keeps_graph

pub returns-clause-nothing_lost : goal.returns-clause-nothing_lost
returns-clause-nothing_lost c = λ fill set g h l left right k lost. no_loss fill set g h left right k l lost
