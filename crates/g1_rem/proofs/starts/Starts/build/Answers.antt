use Rattle.std.proofs.Common.{◌∙◌, ap, map}
use Rattle.g1_rem.specs.Starts.{address_below}
use Rattle.g1_rem.proofs.Joins.{starts_whole}
use Rattle.g1_rem.proofs.starts.Starts.build.Goals as goal

pub returns-clause-ok : goal.returns-clause-ok
returns-clause-ok c =
    starts_whole c.args.heap.now c.regions-regions.result (map address_below c.in_ok-firsts.firsts.items) c.geometry.ensures.valid
    (c.regions-regions.ensures.value ∙ ap (λ g. g.n) c.geometry.ensures.same) c.in_ok-firsts.ensures.ok
