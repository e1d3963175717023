use Rattle.std.proofs.Common.{arith, ap, subst, sym, ◌≤◌, ◌*◌, length}
use Rattle.g1_words.specs.Geometry.{most_words}
use Rattle.g1_words.proofs.Bits.{length-marks_of}
use Rattle.g1_frontier.specs.Numbers.{AreBits}
use Rattle.g1_frontier.proofs.Parts.{bits_few}
use Rattle.g1_frontier.proofs.numbers.number_window.Given.{Over}
use Rattle.g1_frontier.proofs.numbers.number_window.Goals.{After-as_slice, in-1+in_ok-starts-in-1, in_default+in_ok-starts-in_default}
use Rattle.g1_frontier.proofs.numbers.number_window.Goals as goal

-- there are no more bits than a heap may have words
few : (g : Over) (c : After-as_slice g) → 64 * length c.as_slice.result.now ≤ most_words
few g c =
    let h = c.args.heap.now in
    let window = c.args.window.now in
    let are : AreBits c.args.heap.now c.args.window.now c.match-threads_for.starts.items = elim c.match-threads_for.branch [
      | in-1+in_ok-starts-in-1 w ↦ subst (λ v. AreBits h window v.items) (sym w.starts-is) w.in_ok-starts-in-1.ensures
      | in_default+in_ok-starts-in_default w ↦ subst (λ v. AreBits h window v.items) (sym w.starts-is) w.in_ok-starts-in_default.ensures.ok
    ] in
    omega (arith, ap length c.as_slice.ensures.value, bits_few h c.valid.ensures window c.match-threads_for.starts.items c.requires are)

pub new-requires : goal.new-requires
new-requires g c = let k = few g (goal.at.new-requires g c).After-as_slice in omega (arith, k)

pub returns-clause-few : goal.returns-clause-few
returns-clause-few g c =
    omega (
      arith,
      few g (goal.at.returns-clause-few g c).After-as_slice,
      ap length c.in_ok-new.ensures,
      length-marks_of (64 * length c.as_slice.result.now) c.as_slice.result.now,
    )
