use Rattle.std.proofs.Common.{arith, ap, subst, sym, ◌≡◌, ◌≤◌, ◌<◌, ◌*◌, ◌∙◌, ℕ, flat_map, length}
use Rattle.std.specs.List.{each_same}
use Rattle.std.proofs.lemmas.Grind.{div_ceil_times}
use Rattle.g1_frontier.specs.Items.{slot_count}
use Rattle.g1_frontier.proofs.Pieces.{parts_all}
use Rattle.g1_frontier.proofs.headers.counts_by_threads.Goals as goal

pub returns-clause-ok : goal.returns-clause-ok
returns-clause-ok g c =
    let xs = c.args.addresses.now in
    let size : ℕ = c.max-size.result in
    let some : 0 < size = omega (arith, c.max-size.ensures) in
    let covered : length xs ≤ c.div_ceil-2.result * size = subst (λ n. length xs ≤ n * size) (sym c.div_ceil-2.ensures) (div_ceil_times (length xs) size some).0 in
    let joined : c.in_ok-concat.field-0.items ≡ flat_map (λ v. v.items) c.in_ok-lists.lists.items =
    each_same (flat_map (λ v. v.items) c.deref.result.now) c.in_ok-concat.field-0.items c.in_ok-concat.ensures.ok ∙ ap (flat_map (λ v. v.items)) c.deref.ensures.value in
    joined ∙ parts_all (slot_count c.args.heap.now) (λ v. v.items) size xs c.div_ceil-2.result c.in_ok-lists.lists.items covered c.in_ok-lists.ensures.ok
