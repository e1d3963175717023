use Rattle.std.proofs.Common.{◌≡◌, ◌<◌, ◌∙◌, [], length, map, arith, sym, subst, slice_index_or}
use Rattle.std.proofs.lemmas.List.{get_or-map, length-map}
use Rattle.g1_rem.specs.Entering.{IsRefining}
use Rattle.g1_rem.proofs.refining.RefiningMake.make.Goals as goal

pub refined_one-requires-clause-entering : goal.refined_one-requires-clause-entering
refined_one-requires-clause-entering c =
    let all = c.requires.1 in
    let there : c.args.region < length c.args.self.now.entering.now = omega (arith, c.requires.0, all.one_each, length-map c.args.self.now.entering.now (λ s. s.items)) in
    let read : c.deref.result.now ≡ slice_index_or (map (λ s. s.items) c.args.self.now.entering.now) c.args.region [] =
    c.deref.ensures.value ∙ sym (get_or-map (λ s. s.items) c.args.self.now.entering.now c.args.region c.index-self-region.result [] there) in
    subst (IsRefining c.args.self.now.image.now c.args.region) (sym read) (all.each c.args.region c.requires.0)

pub returns-clause-ok : goal.returns-clause-ok
returns-clause-ok c = c.refined_one.ensures.ok

pub returns-clause-memory : goal.returns-clause-memory
returns-clause-memory c = c.refined_one.ensures.memory

pub refined_one-requires-clause-region : goal.refined_one-requires-clause-region
refined_one-requires-clause-region c = c.requires.0

pub bounds-self-region : goal.bounds-self-region
bounds-self-region c = omega (arith, c.requires.0, c.requires.1.one_each, length-map c.args.self.now.entering.now (λ s. s.items))
