use Rattle.std.proofs.Common.{arith, ℕ, List, ◌≡◌, ◌-◌, ◌^◌, ◌<◌, ◌∙◌, ap, sym, subst, map, flat_map, take, drop, All, Contains}
use Rattle.g1_words.specs.Heap.{object_at, objects}
use Rattle.g1_words.specs.declared.object.Object.{Object}
use Rattle.g1_frontier.specs.Queue.{object_names, HasNoted}
use Rattle.g1_frontier.proofs.Queues.{batch_objects, batch_sized, batch_small, moved_on}
use Rattle.g1_frontier.proofs.Scopes.{all_of_map}
use Rattle.g1_frontier.proofs.queue.Queue.search_batch.Goals as goal

pub read_headers-requires : goal.read_headers-requires
read_headers-requires c =
    let h = c.args.scope.now.heap.now in
    let n : ℕ = c.args.to - c.args.from in
    subst (λ (l : List ℕ). All (λ a. Contains (objects h) (object_at h a)) (take n (drop c.args.from l))) (sym c.deref.ensures.value)
    (batch_objects c.args.scope.now c.requires.scope c.args.from n c.args.self.now c.requires.queue)

pub push_sizes-requires : goal.push_sizes-requires
push_sizes-requires c =
    let h = c.args.scope.now.heap.now in
    let n : ℕ = c.args.to - c.args.from in
    let ahead : c.as_slice.result.now ≡ map (object_at h) (take n (drop c.args.from c.args.self.now.found.items)) =
    c.as_slice.ensures.value ∙ c.in_ok-read_headers.ensures ∙ ap (λ (l : List ℕ). map (object_at h) (take n (drop c.args.from l))) c.deref.ensures.value in
    subst (λ (l : List Object). All (λ o. o.size < 2 ^ 32) l) (sym ahead) (batch_small c.args.scope.now c.requires.scope c.args.from n c.args.self.now c.requires.queue)

pub note_objects-requires-clause-batch : goal.note_objects-requires-clause-batch
note_objects-requires-clause-batch c =
    let h = c.args.scope.now.heap.now in
    let n : ℕ = c.args.to - c.args.from in
    let xs : List ℕ = take n (drop c.args.from c.args.self.now.found.items) in
    let ahead : c.as_slice-2.result.now ≡ map (object_at h) xs =
    c.as_slice-2.ensures.value ∙ c.in_ok-read_headers.ensures ∙ ap (λ (l : List ℕ). map (object_at h) (take n (drop c.args.from l))) c.deref.ensures.value in
    subst (λ (l : List Object). All (Contains (objects h)) l) (sym ahead)
    (all_of_map (Contains (objects h)) (object_at h) xs (batch_objects c.args.scope.now c.requires.scope c.args.from n c.args.self.now c.requires.queue))

pub returns-clause-queue : goal.returns-clause-queue
returns-clause-queue c =
    let s = c.args.scope.now in
    let a = c.args.self.now in
    let b = c.note_objects.new.self in
    let n : ℕ = c.args.to - c.args.from in
    let ahead : c.as_slice-2.result.now ≡ map (object_at s.heap.now) (take n (drop c.args.from a.found.items)) =
    c.as_slice-2.ensures.value ∙ c.in_ok-read_headers.ensures ∙ ap (λ (l : List ℕ). map (object_at s.heap.now) (take n (drop c.args.from l))) c.deref.ensures.value in
    moved_on s c.requires.scope c.args.from n a c.requires.queue c.args.to (omega (arith, c.requires.order)) b (omega (arith, c.requires.found, a.found.ok))
    (subst (λ (l : List Object). HasNoted s (flat_map (object_names s) l) a b) ahead c.in_ok-note_objects.ensures)

pub returns-clause-sizes : goal.returns-clause-sizes
returns-clause-sizes c =
    let s = c.args.scope.now in
    let a = c.args.self.now in
    let b = c.note_objects.new.self in
    let n : ℕ = c.args.to - c.args.from in
    let batch : List Object = map (object_at s.heap.now) (take n (drop c.args.from a.found.items)) in
    let headers = c.in_ok-read_headers.ensures ∙ ap (λ (l : List ℕ). map (object_at s.heap.now) (take n (drop c.args.from l))) c.deref.ensures.value in
    let ahead : c.as_slice-2.result.now ≡ batch = c.as_slice-2.ensures.value ∙ headers in
    let sized : c.as_slice.result.now ≡ batch = c.as_slice.ensures.value ∙ headers in
    batch_sized s c.requires.scope c.args.from n a c.requires.queue c.args.to (omega (arith, c.requires.order)) b (omega (arith, c.requires.found, a.found.ok))
    (subst (λ (l : List Object). HasNoted s (flat_map (object_names s) l) a b) ahead c.in_ok-note_objects.ensures)
    c.args.sizes.now.items c.push_sizes.new.sizes.items c.as_slice.result.now c.requires.sizes sized c.in_ok-push_sizes.ensures
