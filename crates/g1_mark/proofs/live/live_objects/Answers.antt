use Rattle.g1_mark.proofs.live.live_objects.Goals as goal

pub returns-clause-ok : goal.returns-clause-ok
returns-clause-ok g c = c.in_ok-found.ensures.ok.survivors
