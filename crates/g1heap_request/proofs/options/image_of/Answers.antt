use Rattle.g1heap_request.proofs.options.image_of.Goals as goal

pub returns-clause-image : goal.returns-clause-image
returns-clause-image c = record { name = c.in_ok-name_of.ensures; limits = c.in_ok-limits_of.ensures.limits }
