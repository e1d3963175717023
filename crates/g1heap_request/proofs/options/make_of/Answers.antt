use Rattle.g1heap_request.proofs.options.make_of.Goals as goal

pub returns-clause-asks : goal.returns-clause-asks
returns-clause-asks c = λ name other. (other, c.in_ok-name_of.ensures, c.in_ok-output_of.ensures)
