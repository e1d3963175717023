use Rattle.g1_text.proofs.OneGraph.{texts_say_one_graph}
use Rattle.g1_text.proofs.laws.one_graph.Goals as goal

pub returns : goal.returns
returns c = texts_say_one_graph
