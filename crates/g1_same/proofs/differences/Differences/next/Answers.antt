use Rattle.std.proofs.Common.{arith, ℕ}
use Rattle.g1_words.specs.Heap.{Heap}
use Rattle.g1_same.specs.declared.walk.Walk.{Walk}
use Rattle.g1_same.specs.declared.walk.Found.{Found}
use Rattle.g1_same.specs.Behind.{IsFound, IsNext, IsNextStale, looked_to}
use Rattle.g1_same.proofs.Steps.{some_then}
use Rattle.g1_same.proofs.Adding.{pairs_fit}
use Rattle.g1_same.proofs.Between.{is_there, between_kept, way_within, until_more}
use Rattle.g1_same.proofs.Passing.{passes_kept}
use Rattle.g1_same.proofs.Held.{valid_of}
use Rattle.g1_same.proofs.differences.Differences.next.Goals as goal

pub overflow_cast-from : goal.overflow_cast-from
overflow_cast-from c =
    let few = pairs_fit c.args.self.now.before.now c.args.self.now.after.now c.search.new.walk (valid_of c.args.self.now.before.now c.args.self.now.valid_before) c.in_ok-met.ensures.walk in
    record { fits = omega (arith, few, c.len.ensures, c.search.new.walk.before.ok) }

pub overflow_add-from : goal.overflow_add-from
overflow_add-from c =
    let few = pairs_fit c.args.self.now.before.now c.args.self.now.after.now c.search.new.walk (valid_of c.args.self.now.before.now c.args.self.now.valid_before) c.in_ok-met.ensures.walk in
    record { fits = omega (arith, few, c.len.ensures, c.search.new.walk.before.ok) }

pub returns-in_ok-self-in-Some-clause-there : goal.returns-in_ok-self-in-Some-clause-there
returns-in_ok-self-in-Some-clause-there c =
    let g : Heap = c.args.self.now.before.now in
    let h : Heap = c.args.self.now.after.now in
    let found = some_then (λ (f : Found). IsFound g h c.args.self.now.stale c.search.new.walk f) c.in_ok-met.met c.in-Some.found c.in-Some.is c.in_ok-met.ensures.found in
    is_there g h c.args.self.now.stale c.search.new.walk c.go_behind.new.walk c.in-Some.found c.in_ok-met.ensures.walk found c.in_ok-self-in-Some.ensures.grown

pub returns-in_ok-self-in-Some-clause-next : goal.returns-in_ok-self-in-Some-clause-next
returns-in_ok-self-in-Some-clause-next c =
    let g : Heap = c.args.self.now.before.now in
    let h : Heap = c.args.self.now.after.now in
    let u : Walk = c.search.new.walk in
    let v : Walk = c.go_behind.new.walk in
    let k : ℕ = c.args.self.now.way.from in
    let n : ℕ = c.args.self.now.way.number in
    let f : Found = c.in-Some.found in
    let found = some_then (λ (f : Found). IsFound g h c.args.self.now.stale u f) c.in_ok-met.met f c.in-Some.is c.in_ok-met.ensures.found in
    let next = some_then (λ (f : Found). IsNext g h u k n f) c.in_ok-met.met f c.in-Some.is c.in_ok-met.ensures.until in (
      next.0,
      between_kept g h u v k n f.place.way.from f.place.way.number c.in_ok-self-in-Some.ensures.grown
          (way_within g h u f.place.way.from f.place.way.number f.place.before f.place.after found.way) next.1,
    )

pub returns-in_ok-self-in-Some-clause-alike : goal.returns-in_ok-self-in-Some-clause-alike
returns-in_ok-self-in-Some-clause-alike c =
    let f : Found = c.in-Some.found in
    until_more c.args.self.now.before.now c.args.self.now.after.now c.args.self.now.walk c.search.new.walk c.go_behind.new.walk f.place.way.from f.place.way.number
    c.in_ok-met.ensures.alike c.in_ok-self-in-Some.ensures.one c.in_ok-self-in-Some.ensures.grown

pub returns-in_ok-self-in-Some-clause-no_stale : goal.returns-in_ok-self-in-Some-clause-no_stale
returns-in_ok-self-in-Some-clause-no_stale c =
    let g : Heap = c.args.self.now.before.now in
    let h : Heap = c.args.self.now.after.now in
    let u : Walk = c.search.new.walk in
    let v : Walk = c.go_behind.new.walk in
    let k : ℕ = c.args.self.now.way.from in
    let n : ℕ = c.args.self.now.way.number in
    let f : Found = c.in-Some.found in
    let found = some_then (λ (f : Found). IsFound g h c.args.self.now.stale u f) c.in_ok-met.met f c.in-Some.is c.in_ok-met.ensures.found in
    passes_kept g h c.args.self.now.stale u v k n f.place.way.from (looked_to f.what f.place.way.number) c.in_ok-self-in-Some.ensures.grown
    (way_within g h u f.place.way.from f.place.way.number f.place.before f.place.after found.way)
    (some_then (λ (f : Found). IsNextStale g h c.args.self.now.stale u k n f) c.in_ok-met.met f c.in-Some.is c.in_ok-met.ensures.no_stale)
