use Rattle.std.proofs.Common.{arith, ◌≡◌, ◌<◌, ◌*◌, ◌/◌, ◌%◌, ◌^◌, length, slice_index, set, ap, ◌∙◌}
use Rattle.std.specs.Int.Bits.{bit_or}
use Rattle.std.proofs.lemmas.Grind.{get_or_default_zero}
use Rattle.g1_words.specs.Marks.{marks_of}
use Rattle.g1_words.proofs.Bits.{marks_of-set}
use Rattle.g1_words.proofs.numbers.mark.Goals as goal

pub returns-clause-marked : goal.returns-clause-marked
returns-clause-marked c =
    let at = c.args.word in
    let bits = c.args.bits.now.items in
    let within : at / 64 < length bits = omega (arith, c.requires) in
    let word : c.index_mut.result.now ≡ slice_index bits (at / 64) = c.index_mut.ensures.value ∙ get_or_default_zero bits (at / 64) c.index_mut.result.now within in
    ap (λ x. marks_of (64 * length bits) (set bits (at / 64) (bit_or x (1 * 2 ^ (at % 64) % 2 ^ 64)))) word ∙ marks_of-set (64 * length bits) bits at c.requires within
