use Rattle.std.proofs.Common.{subst, ℕ, List, ◌∷◌}
use Rattle.g1_words.specs.Heap.{Heap}
use Rattle.g1_same.specs.declared.walk.Walk.{Walk}
use Rattle.g1_same.specs.declared.walk.What.{What}
use Rattle.g1_same.specs.declared.walk.Found.{Found}
use Rattle.g1_same.specs.declared.stale.StaleWords.{StaleWords}
use Rattle.g1_same.specs.Walk.{IsTour}
use Rattle.g1_same.specs.Behind.{IsStaleAt, Differs, PassesNoStale, looked_to}
use Rattle.g1_same.specs.Stale.{HasNoneBefore}
use Rattle.g1_same.proofs.Linked.{IsStop, LinksTo}
use Rattle.g1_same.proofs.First.{first}
use Rattle.g1_same.proofs.Between.{has_ways, way_within, links_to, tour_of}
use Rattle.g1_same.proofs.Unreached.{none_before}
use Rattle.g1_same.proofs.StaleEnds.{leads_stale, no_stale_until}
use Rattle.g1_same.proofs.Held.{before_valid, after_valid}
use Rattle.g1_same.proofs.comparing_stale.earliest_at.Goals as goal

pub path_by-requires-clause-ways : goal.path_by-requires-clause-ways
path_by-requires-clause-ways c = has_ways c.args.heaps.before.now c.args.heaps.after.now c.args.walk.now c.requires.walk

pub path_by-requires-clause-within : goal.path_by-requires-clause-within
path_by-requires-clause-within c =
    let f : Found = c.args.found.now in
    way_within c.args.heaps.before.now c.args.heaps.after.now c.args.walk.now f.place.way.from f.place.way.number f.place.before f.place.after c.requires.found.way

pub returns-in-Stale : goal.returns-in-Stale
returns-in-Stale c =
    let g : Heap = c.args.heaps.before.now in
    let h : Heap = c.args.heaps.after.now in
    let s : StaleWords = c.args.stale.now in
    let w : Walk = c.args.walk.now in
    let f : Found = c.args.found.now in
    let k : ℕ = f.place.way.from in
    let n : ℕ = f.place.way.number in
    let p : List ℕ = c.in_ok-path.path.root ∷ c.in_ok-path.path.slots.items in
    let tour : IsTour g h w = tour_of g h w c.requires.walk in
    let d = subst (λ z. Differs g h w (IsStaleAt s w k n) z f.place.before f.place.after) c.in-Stale.is c.requires.found.differs in (
      c.requires.roots,
      leads_stale g h s w tour k n f.place.before f.place.after c.in-Stale.word p c.in_ok-path.ensures c.requires.found.way d.1 d.0,
      none_before g h (before_valid c.args.heaps) (after_valid c.args.heaps) s w tour k n f.what p c.requires.by_place (λ i lt e. c.requires.walk.alike i lt) c.requires.until c.requires.no_stale c.in_ok-path.ensures,
    )

pub returns-in-How : goal.returns-in-How
returns-in-How c =
    let g : Heap = c.args.heaps.before.now in
    let h : Heap = c.args.heaps.after.now in
    let s : StaleWords = c.args.stale.now in
    let w : Walk = c.args.walk.now in
    let f : Found = c.args.found.now in
    let k : ℕ = f.place.way.from in
    let n : ℕ = f.place.way.number in
    let p : List ℕ = c.in_ok-path.path.root ∷ c.in_ok-path.path.slots.items in
    let tour : IsTour g h w = tour_of g h w c.requires.walk in
    let d = subst (λ z. Differs g h w (IsStaleAt s w k n) z f.place.before f.place.after) c.in-How.is c.requires.found.differs in
    let stop : IsStop g h w (record { way = f.place.way; how = c.in-How.how }) = (f.place.before, f.place.after, c.requires.found.way, d.0, c.requires.found.below, d.1) in
    let links : LinksTo g h w k n = links_to g h w tour c.requires.roots k n f.place.before f.place.after c.requires.until c.requires.found.way in
    let none : HasNoneBefore g h s.roots.now s.slots.now p =
    none_before g h (before_valid c.args.heaps) (after_valid c.args.heaps) s w tour k n f.what p c.requires.by_place (λ i lt e. c.requires.walk.alike i lt) c.requires.until c.requires.no_stale c.in_ok-path.ensures in
    let passes = subst (λ (what : What). PassesNoStale g h s w 0 0 k (looked_to what n)) c.in-How.is c.requires.no_stale in (
      first g h (before_valid c.args.heaps) (after_valid c.args.heaps) w c.requires.walk (record { way = f.place.way; how = c.in-How.how }) c.in_ok-path.path.root c.in_ok-path.path.slots c.requires.roots links stop c.in_ok-path.ensures,
      no_stale_until g h s w tour k n f.place.before f.place.after p c.requires.by_place passes c.in_ok-path.ensures c.requires.found.way none,
    )
