use Rattle.std.proofs.Common.{arith, ap, subst, sym, ◌≡◌, ◌≤◌, ◌<◌, ◌*◌, ◌∙◌, ℕ, zero, suc, flat_map, length}
use Rattle.std.specs.List.{each_same}
use Rattle.std.proofs.lemmas.Grind.{div_ceil_times}
use Rattle.g1_frontier.specs.Numbers.{AreBits}
use Rattle.g1_frontier.proofs.Parts.{joined_all}
use Rattle.g1_frontier.proofs.numbers.mark_by_threads.Goals as goal

pub returns-clause-ok : goal.returns-clause-ok
returns-clause-ok g c =
    let window = c.args.window.now in
    let fours : ℕ = c.div_ceil-regions.result in
    let each : 0 < c.div_ceil.result = some (length window) c.args.threads c.div_ceil.result c.requires.some (subst (λ n. length window ≤ n * c.args.threads) (sym c.div_ceil.ensures) (div_ceil_times (length window) c.args.threads c.requires.threads).0) in
    let many : 0 < c.div_ceil-regions.result * 4 = omega (arith, each, c.div_ceil-regions.ensures) in
    let covered : length window ≤ c.div_ceil-2.result * (fours * 4) = subst (λ n. length window ≤ n * (fours * 4)) (sym c.div_ceil-2.ensures) (div_ceil_times (length window) (fours * 4) many).0 in
    let joined : c.in_ok-concat.field-0.items ≡ flat_map (λ v. v.items) c.in_ok-lists.lists.items =
    each_same (flat_map (λ v. v.items) c.deref.result.now) c.in_ok-concat.field-0.items c.in_ok-concat.ensures.ok ∙ ap (flat_map (λ v. v.items)) c.deref.ensures.value in
    subst (AreBits c.args.heap.now window) (sym joined)
    (joined_all c.args.heap.now c.requires.heap window c.requires.window fours c.div_ceil-2.result c.in_ok-lists.lists.items covered c.in_ok-lists.ensures.ok)
  where
    some : (words threads each : ℕ) → 0 < words → words ≤ each * threads → 0 < each
    some words threads zero lt le = absurd (omega (arith, lt, le))
    some words threads (suc each) lt le = omega arith
