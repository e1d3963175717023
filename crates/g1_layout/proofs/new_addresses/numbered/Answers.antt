use Rattle.std.proofs.Common.{◌≡◌, ◌+◌, ◌*◌, ◌/◌, ℕ, length, replicate, ap, ◌∙◌, subst, sym, arith}
use Rattle.std.proofs.lemmas.List.{length-replicate}
use Rattle.std.proofs.lemmas.Result.{IfOk-weaker}
use Rattle.g1_words.specs.Marks.{marks_of}
use Rattle.g1_words.proofs.Bits.{marks_of-none, length-marks_of}
use Rattle.g1_layout.specs.Words.{AreIndices}
use Rattle.g1_layout.proofs.Positions.{indices_of}
use Rattle.g1_layout.proofs.new_addresses.numbered.Goals as goal
use Rattle.g1_layout.proofs.new_addresses.numbered.Goals.{In_ok-bits}

-- the bits are all 0, and there are enough of them
zeros : (c : In_ok-bits) → c.in_ok-bits.bits.items ≡ replicate (length c.args.set.now * c.args.geometry.now.w / 64 + 1) 0
zeros c = c.in_ok-bits.ensures.items_if_clones_equal (λ y same. same) ∙ ap (λ n. replicate (n / 64 + 1) 0) c.words_of-words.ensures.value

long : (c : In_ok-bits) → length c.in_ok-bits.bits.items ≡ length c.args.set.now * c.args.geometry.now.w / 64 + 1
long c = ap length (zeros c) ∙ length-replicate (length c.args.set.now * c.args.geometry.now.w / 64 + 1) 0

indices : (c : In_ok-bits) → AreIndices c.args.geometry.now.w c.args.positions.now (64 * length c.in_ok-bits.bits.items)
indices c =
    let w = c.args.geometry.now.w in
    let limits = c.words_of-words.ensures.limits in
    indices_of w c.args.set.now c.args.positions.now (omega (arith, limits.w_least)) c.requires.positions (64 * length c.in_ok-bits.bits.items) (omega (arith, long c))

pub mark_survivors-requires-clause-indices : goal.mark_survivors-requires-clause-indices
mark_survivors-requires-clause-indices c = indices (goal.at.mark_survivors-requires-clause-indices c).In_ok-bits

pub mark_survivors-requires-clause-none : goal.mark_survivors-requires-clause-none
mark_survivors-requires-clause-none c =
    let n : ℕ = length c.in_ok-bits.bits.items in
    let m : ℕ = length c.args.set.now * c.args.geometry.now.w / 64 + 1 in
    let z = zeros (goal.at.mark_survivors-requires-clause-none c).In_ok-bits in
    let same = long (goal.at.mark_survivors-requires-clause-none c).In_ok-bits in
    ap (marks_of (64 * n)) z ∙ marks_of-none (64 * n) m (omega (arith, same))

pub new-requires : goal.new-requires
new-requires c =
    let same = long (goal.at.new-requires c).In_ok-bits in
    omega (arith, same, c.requires.few, c.mark_survivors.ensures.same, ap length c.deref.ensures.value)

pub returns-clause-indices : goal.returns-clause-indices
returns-clause-indices c =
    let w = c.args.geometry.now.w in
    let bits = c.deref.result.now in
    let same : length bits ≡ length c.in_ok-bits.bits.items = ap length c.deref.ensures.value ∙ c.mark_survivors.ensures.same in
    let there : AreIndices w c.args.positions.now (64 * length bits) = subst (λ n. AreIndices w c.args.positions.now (64 * n)) (sym same) (indices (goal.at.returns-clause-indices c).In_ok-bits) in
    IfOk-weaker c.new.result (λ n. n ≡ marks_of (64 * length bits) bits) (λ n. AreIndices w c.args.positions.now (length n))
    (λ n is. subst (AreIndices w c.args.positions.now) (sym (ap length is ∙ length-marks_of (64 * length bits) bits)) there) c.new.ensures
