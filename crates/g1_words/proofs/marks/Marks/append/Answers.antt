use Rattle.std.proofs.Common.{arith, ◌≡◌, ◌+◌, ◌/◌, ◌%◌, ◌++◌, length, take, ap, ◌∙◌}
use Rattle.std.proofs.lemmas.List.{length-append}
use Rattle.std.proofs.lemmas.Result.{err_from_is_err_and}
use Rattle.g1_words.specs.Marks.{marks_of}
use Rattle.g1_words.proofs.Bits.{length-marks_of, length-words, marks_of-words, marks_of-append}
use Rattle.g1_words.proofs.marks.Marks.append.Goals as goal

pub returns : goal.returns
returns c =
    let count = c.self.inside.count in
    let more = c.behind.inside.count in
    let bits = c.self.inside.bits.items in
    let behind = c.behind.inside.bits.items in
    let items : c.extend_from_slice.new.self.items ≡ take (count / 64) bits ++ behind = c.in_ok-extend_from_slice.ensures.items ∙ (λ i. c.truncate.ensures.items i ++ c.deref.ensures.value i) in
    let full : count % 64 ≡ 0 = omega (arith, c.requires.whole, ap length c.self.view_is, length-marks_of count bits) in
    record {
      ok = ap (marks_of (count + more)) items ∙ marks_of-append count bits full c.self.invariant more behind ∙ (λ i. c.self.view_is i ++ c.behind.view_is i);
      err = tt;
    }

pub invariant_of-self-2 : goal.invariant_of-self-2
invariant_of-self-2 c =
    let count = c.self.inside.count in
    let bits = c.self.inside.bits.items in
    let behind = c.behind.inside.bits.items in
    let items : c.extend_from_slice.new.self.items ≡ take (count / 64) bits ++ behind = c.in_ok-extend_from_slice.ensures.items ∙ (λ i. c.truncate.ensures.items i ++ c.deref.ensures.value i) in
    let full : count % 64 ≡ 0 = omega (arith, c.requires.whole, ap length c.self.view_is, length-marks_of count bits) in
    omega (arith, c.behind.invariant, ap length items, length-append (take (count / 64) bits) behind, length-words count bits full c.self.invariant, full)

pub overflow_add-self : goal.overflow_add-self
overflow_add-self c =
    omega (
      arith,
      c.requires.room,
      ap length c.self.view_is,
      length-marks_of c.self.inside.count c.self.inside.bits.items,
      ap length c.behind.view_is,
      length-marks_of c.behind.inside.count c.behind.inside.bits.items,
    )

pub invariant_of-self : goal.invariant_of-self
invariant_of-self c =
    let count = c.self.inside.count in
    let bits = c.self.inside.bits.items in
    let items : c.extend_from_slice.new.self.items ≡ take (count / 64) bits = c.in_err-extend_from_slice.ensures.items ∙ c.truncate.ensures.items in
    let full : count % 64 ≡ 0 = omega (arith, c.requires.whole, ap length c.self.view_is, length-marks_of count bits) in
    omega (arith, ap length items, length-words count bits full c.self.invariant, full)

pub returns-in_err-extend_from_slice-clause-err : goal.returns-in_err-extend_from_slice-clause-err
returns-in_err-extend_from_slice-clause-err c =
    let count = c.self.inside.count in
    let bits = c.self.inside.bits.items in
    let items : c.extend_from_slice.new.self.items ≡ take (count / 64) bits = c.in_err-extend_from_slice.ensures.items ∙ c.truncate.ensures.items in
    let full : count % 64 ≡ 0 = omega (arith, c.requires.whole, ap length c.self.view_is, length-marks_of count bits) in
    let left = err_from_is_err_and c.from_residual.result c.from_residual.ensures.1 in
    rw left.1 (ap (marks_of count) items ∙ marks_of-words count bits full c.self.invariant ∙ c.self.view_is)
