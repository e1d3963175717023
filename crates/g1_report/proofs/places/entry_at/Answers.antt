use Rattle.std.proofs.Common.{◌≡◌, ℕ, ◌<◌, ◌≤◌, rules, ltb, length, get_or, inl, inr, ap, sym, ◌∙◌, arith}
use Rattle.std.specs.Prelude.{is_some}
use Rattle.std.proofs.lemmas.Bool.{false≢true, cases_lt, lt-ltb, ltb-true, ltb-false}
use Rattle.std.proofs.lemmas.List.Sorted.{IsPartitionPoint-from_clause, IsPartitionedBy-ltb}
use Rattle.g1_same.proofs.Steps.{some_then}
use Rattle.g1_report.proofs.Lookups.{found_at, other_at, past_at}
use Rattle.g1_report.proofs.places.entry_at.Goals as goal
use Rattle.g1_report.proofs.places.entry_at.Goals.{in_default-via-in-Some+else-at-place, in_default-via-in_default}

pub returns-in-Some : goal.returns-in-Some
returns-in-Some g c = λ rising.
    let l = c.args.list.now in
    let n : ℕ = c.partition_point-below.result in
    let parted = IsPartitionedBy-ltb (λ x. x.0) _ c.args.place rising in
    let point = IsPartitionPoint-from_clause (λ x. ltb x.0 c.args.place) _ _ c.partition_point-below.ensures.partitioned parted (λ a r q k. search rules) in
    let here = some_then (λ x. x.now ≡ get_or l n x.now) c.get.result c.in-Some.field-0 c.in-Some.is c.get.ensures.lookup.1 in
    let within : n < length l = ltb-true n (length l) (sym c.get.ensures.lookup.0 ∙ ap is_some c.in-Some.is) in
    found_at c.args.place l n c.in-Some.field-0.now (λ i d less. ltb-true _ _ (point.0 i d (omega arith) less)) within here (cc)

pub returns-in_default : goal.returns-in_default
returns-in_default g c = λ rising.
    let l = c.args.list.now in
    let n : ℕ = c.partition_point-below.result in
    let parted = IsPartitionedBy-ltb (λ x. x.0) _ c.args.place rising in
    let point = IsPartitionPoint-from_clause (λ x. ltb x.0 c.args.place) _ _ c.partition_point-below.ensures.partitioned parted (λ a r q k. search rules) in
    elim c.in_default.branch [
      | in_default-via-in-Some+else-at-place w ↦
          let here = some_then (λ x. x.now ≡ get_or l n x.now) c.get.result w.in-Some.field-0 w.in-Some.is c.get.ensures.lookup.1 in
          let within : n < length l = ltb-true n (length l) (sym c.get.ensures.lookup.0 ∙ ap is_some w.in-Some.is) in
          other_at c.args.place l n (λ i d less. ltb-true _ _ (point.0 i d (omega arith) less)) rising (λ i d from lt. ltb-false _ _ (point.1 i d from lt)) w.in-Some.field-0.now here within
          (λ e. w.if-at-place.false e)
      | in_default-via-in_default w ↦
          let past : length l ≤ n = elim (cases_lt n (length l)) [
            | inl less ↦ absurd (false≢true (ap is_some (sym w.in_default.is) ∙ c.get.ensures.lookup.0 ∙ lt-ltb n (length l) less))
            | inr ge ↦ ge
          ] in
          past_at c.args.place l n (λ i d less. ltb-true _ _ (point.0 i d (omega arith) less)) rising (λ i d from lt. ltb-false _ _ (point.1 i d from lt)) past
    ]
