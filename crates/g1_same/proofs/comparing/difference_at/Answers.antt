use Rattle.std.proofs.Common.{subst, ℕ}
use Rattle.g1_words.specs.Heap.{Heap}
use Rattle.g1_same.specs.declared.walk.Walk.{Walk}
use Rattle.g1_same.specs.declared.walk.Found.{Found}
use Rattle.g1_same.proofs.Linked.{Stop, IsStop, LinksTo}
use Rattle.g1_same.specs.Behind.{IsStaleAt, Differs}
use Rattle.g1_same.proofs.First.{first}
use Rattle.g1_same.proofs.Between.{has_ways, way_within, links_to, tour_of, no_stale}
use Rattle.g1_same.proofs.Held.{before_valid, after_valid}
use Rattle.g1_same.proofs.comparing.difference_at.Goals as goal

pub path_by-requires-clause-ways : goal.path_by-requires-clause-ways
path_by-requires-clause-ways c = has_ways c.args.heaps.before.now c.args.heaps.after.now c.args.walk.now c.requires.walk

pub path_by-requires-clause-within : goal.path_by-requires-clause-within
path_by-requires-clause-within c =
    let f : Found = c.args.found.now in
    way_within c.args.heaps.before.now c.args.heaps.after.now c.args.walk.now f.place.way.from f.place.way.number f.place.before f.place.after c.requires.found.way

pub unreachable-requires : goal.unreachable-requires
unreachable-requires c =
    let f : Found = c.args.found.now in
    let d = subst (λ z. Differs c.args.heaps.before.now c.args.heaps.after.now c.args.walk.now (IsStaleAt c.args.stale.now c.args.walk.now f.place.way.from f.place.way.number) z f.place.before f.place.after)
    c.in-Stale.is c.requires.found.differs in
    no_stale c.args.stale.now c.args.walk.now f.place.way.from f.place.way.number _ c.requires.none.0 c.requires.none.1 d.0

pub returns : goal.returns
returns c =
    let g : Heap = c.args.heaps.before.now in
    let h : Heap = c.args.heaps.after.now in
    let w : Walk = c.args.walk.now in
    let f : Found = c.args.found.now in
    let k : ℕ = f.place.way.from in
    let n : ℕ = f.place.way.number in
    let d = subst (λ z. Differs g h w (IsStaleAt c.args.stale.now w k n) z f.place.before f.place.after) c.in-How.is c.requires.found.differs in
    let s : Stop = record { way = f.place.way; how = c.in-How.how } in
    let stop : IsStop g h w s = (f.place.before, f.place.after, c.requires.found.way, d.0, c.requires.found.below, d.1) in
    let links : LinksTo g h w k n = links_to g h w (tour_of g h w c.requires.walk) c.requires.roots k n f.place.before f.place.after c.requires.until c.requires.found.way in
    first g h (before_valid c.args.heaps) (after_valid c.args.heaps) w c.requires.walk s c.in_ok-path.path.root c.in_ok-path.path.slots c.requires.roots links stop c.in_ok-path.ensures
