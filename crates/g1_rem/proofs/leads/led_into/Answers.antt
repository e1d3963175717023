use Rattle.std.proofs.Common.{◌-◌, ◌/◌, arith, ap, ◌∙◌}
use Rattle.g1_rem.proofs.Bare.{Named, named_word}
use Rattle.g1_rem.proofs.leads.led_into.Goals as goal
use Rattle.g1_rem.proofs.leads.led_into.Goals.{After-region_of-target}

-- what the slot names
named : (c : After-region_of-target) → Named c.args.heap.now c.args.p c.at-word.result c.region_of-target.result
named c =
    named_word c.args.heap.now c.args.p c.at-word.result c.region_of-target.result c.words.result.now.items
    c.geometry-geometry.ensures.valid c.words.ensures.same c.at-word.ensures c.if-word-eq0.false
    (c.region_of-target.ensures ∙ ap (λ g. (c.at-word.result - 1) / g.w) c.geometry-geometry.ensures.same) c.requires.reference

pub overflow_cast-result : goal.overflow_cast-result
overflow_cast-result c = let n = named (goal.at.overflow_cast-result c).After-region_of-target in omega (arith, n.there, c.geometry-geometry.ensures.valid.limits.n_most)

pub returns : goal.returns
returns c =
    let n = named (goal.at.returns c).After-region_of-target in
    let w = ap (λ g. c.args.p / g.w) c.geometry-geometry.ensures.same in
    (c.at-word.result - 1, n.word_is, n.target_is, (λ e. c.if-region_of-target.false (c.region_of.ensures ∙ w ∙ e)), n.there)
