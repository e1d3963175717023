use Rattle.std.proofs.Common.{◌≡◌, ◌+◌, List, length, ap, arith}
use Rattle.g1_words.specs.Heap.{Heap}
use Rattle.g1_explain.specs.declared.finder.Finder.{Finder}
use Rattle.g1_explain.specs.Searched.{before, finder_at}
use Rattle.g1_explain.proofs.Backward.{enough, goes_back}
use Rattle.g1_explain.proofs.keeping.path_to.Goals as goal

pub path_back-requires-clause-found_by : goal.path_back-requires-clause-found_by
path_back-requires-clause-found_by c =
    let h : Heap = c.args.walkable.now.heap in
    let s = c.requires.search in
    let fs : List Finder = c.in_ok-finders.finders.items in
    let many = enough h s.0 c.args.cards.now c.args.found.now c.heap.ensures.valid.heap s.1 fs (c.in-Some.index + 1) (omega (arith, c.in-Some.ensures.some.0)) (c.in_ok-finders.ensures.enough c.requires.objects) in
    omega (arith, many, ap length c.deref.ensures.value)

pub path_back-requires-clause-backward : goal.path_back-requires-clause-backward
path_back-requires-clause-backward c = λ j le.
    let h : Heap = c.args.walkable.now.heap in
    let s = c.requires.search in
    let fs : List Finder = c.in_ok-finders.finders.items in
    let many = enough h s.0 c.args.cards.now c.args.found.now c.heap.ensures.valid.heap s.1 fs (c.in-Some.index + 1) (omega (arith, c.in-Some.ensures.some.0)) (c.in_ok-finders.ensures.enough c.requires.objects) in
    let back = goes_back h s.0 c.args.cards.now c.args.found.now c.heap.ensures.valid.heap s.1 fs (c.in_ok-finders.ensures.met c.requires.objects) j (omega (arith, many, le)) (omega (arith, le, c.in-Some.ensures.some.0)) in
    let same : before (finder_at c.deref.result.now j) ≡ before (finder_at fs j) = ap (λ (l : List Finder). before (finder_at l j)) c.deref.ensures.value in
    omega (arith, back, same)
