use Rattle.std.proofs.Common.{◌≡◌, ℕ, List, Bor, rules, ltb, lt-ltb, length, get_or, ap, sym, ◌∙◌}
use Rattle.std.specs.Prelude.{is_some}
use Rattle.std.proofs.lemmas.Bool.{false≢true}
use Rattle.std.proofs.lemmas.List.Sorted.{IsPartitionPoint-from_clause, IsPartitionedBy-ltb}
use Rattle.g1_same.proofs.Passing.{point_of, point_within, point_place, places_rise}
use Rattle.g1_same.proofs.Steps.{some_then}
use Rattle.g1_same.proofs.stale.stale_word.Goals as goal

pub returns-in_default-clause-none : goal.returns-in_default-clause-none
returns-in_default-clause-none c = λ rising null z has.
    let l : List (ℕ × ℕ) = c.args.list.now in
    let n : ℕ = c.partition_point-below.result in
    let parted = IsPartitionedBy-ltb (λ (x : ℕ × ℕ). x.0) _ c.args.place (places_rise l rising) in
    let point = IsPartitionPoint-from_clause (λ (x : ℕ × ℕ). ltb x.0 c.args.place) _ _ c.partition_point-below.ensures.partitioned parted (λ a r q k. search rules) in
    let is = point_of l c.args.place n c.partition_point-below.ensures.bound point.0 point.1 in
    let here = some_then (λ (x : Bor (ℕ × ℕ)). x.now ≡ get_or l n x.now) c.get.result c.in-Some.field-0 c.in-Some.is c.get.ensures.lookup.1 in
    c.if-at-place.false (ap (λ (e : ℕ × ℕ). e.0) here ∙ point_place l c.args.place n z rising is has c.in-Some.field-0.now)

pub returns-in_default-2-clause-none : goal.returns-in_default-2-clause-none
returns-in_default-2-clause-none c = λ rising null z has.
    let l : List (ℕ × ℕ) = c.args.list.now in
    let n : ℕ = c.partition_point-below.result in
    let parted = IsPartitionedBy-ltb (λ (x : ℕ × ℕ). x.0) _ c.args.place (places_rise l rising) in
    let point = IsPartitionPoint-from_clause (λ (x : ℕ × ℕ). ltb x.0 c.args.place) _ _ c.partition_point-below.ensures.partitioned parted (λ a r q k. search rules) in
    let is = point_of l c.args.place n c.partition_point-below.ensures.bound point.0 point.1 in
    false≢true (ap is_some (sym c.in_default.is) ∙ c.get.ensures.lookup.0 ∙ lt-ltb n (length l) (point_within l c.args.place n z rising is has))
