use Rattle.g1_frontier.proofs.Newness.{round_finds_new, words_number, objects_number}
use Rattle.g1_frontier.proofs.laws.new_objects.Goals as goal

pub returns-clause-new : goal.returns-clause-new
returns-clause-new c = round_finds_new

pub returns-clause-words : goal.returns-clause-words
returns-clause-words c = words_number

pub returns-clause-objects : goal.returns-clause-objects
returns-clause-objects c = objects_number
