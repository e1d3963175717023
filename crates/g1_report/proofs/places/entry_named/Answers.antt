use Rattle.std.proofs.Common.{◌≡◌, ℕ, ◌<◌, ◌≤◌, rules, length, get_or, inl, inr, ap, sym, ◌∙◌, arith}
use Rattle.std.specs.Prelude.{is_some}
use Rattle.std.specs.Ordering.{is_lt, nat_cmp}
use Rattle.std.specs.Cmp.Lexicographic.{slice_cmp}
use Rattle.std.proofs.lemmas.Bool.{false≢true, cases_lt, lt-ltb, ltb-true}
use Rattle.std.proofs.lemmas.List.Sorted.{IsPartitionPoint-from_clause}
use Rattle.g1_same.proofs.Steps.{some_then}
use Rattle.g1_report.proofs.ByName.{named_parted, named_found, named_other, named_past}
use Rattle.g1_report.proofs.places.entry_named.Goals as goal
use Rattle.g1_report.proofs.places.entry_named.Goals.{in_default-via-in-Some+else-eq, in_default-via-in_default}

pub returns-in-Some : goal.returns-in-Some
returns-in-Some g c = λ sorted.
    let l = c.args.list.now in
    let name = c.args.name.now in
    let n : ℕ = c.partition_point-below.result in
    let point = IsPartitionPoint-from_clause (λ x. is_lt (slice_cmp nat_cmp x.0.now name)) _ _ c.partition_point-below.ensures.partitioned (named_parted name l sorted) (λ a r q k. search rules) in
    let here = some_then (λ x. x.now ≡ get_or l n x.now) c.get.result c.in-Some.field-0 c.in-Some.is c.get.ensures.lookup.1 in
    let within : n < length l = ltb-true n (length l) (sym c.get.ensures.lookup.0 ∙ ap is_some c.in-Some.is) in
    named_found name l sorted n (λ i d less. point.0 i d (omega arith) less) (λ i d from lt. point.1 i d from lt) c.in-Some.field-0.now here within (sym c.eq.ensures ∙ c.if-eq.true)

pub returns-in_default : goal.returns-in_default
returns-in_default g c = λ sorted.
    let l = c.args.list.now in
    let name = c.args.name.now in
    let n : ℕ = c.partition_point-below.result in
    let point = IsPartitionPoint-from_clause (λ x. is_lt (slice_cmp nat_cmp x.0.now name)) _ _ c.partition_point-below.ensures.partitioned (named_parted name l sorted) (λ a r q k. search rules) in
    elim c.in_default.branch [
      | in_default-via-in-Some+else-eq w ↦
          let here = some_then (λ x. x.now ≡ get_or l n x.now) c.get.result w.in-Some.field-0 w.in-Some.is c.get.ensures.lookup.1 in
          let within : n < length l = ltb-true n (length l) (sym c.get.ensures.lookup.0 ∙ ap is_some w.in-Some.is) in
          named_other name l sorted n (λ i d less. point.0 i d (omega arith) less) (λ i d from lt. point.1 i d from lt) w.in-Some.field-0.now here within (sym w.eq.ensures ∙ w.if-eq.false)
      | in_default-via-in_default w ↦
          let past : length l ≤ n = elim (cases_lt n (length l)) [
            | inl less ↦ absurd (false≢true (ap is_some (sym w.in_default.is) ∙ c.get.ensures.lookup.0 ∙ lt-ltb n (length l) less))
            | inr ge ↦ ge
          ] in
          named_past name l sorted n (λ i d less. point.0 i d (omega arith) less) (λ i d from lt. point.1 i d from lt) past
    ]
