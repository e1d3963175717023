use Rattle.std.proofs.Common.{arith, ◌≡◌, ◌<◌, ◌*◌, ◌/◌, ◌%◌, ◌^◌, length, slice_index, set, true, ap, ◌∙◌}
use Rattle.std.specs.Int.Bits.{bit_or}
use Rattle.std.proofs.lemmas.Grind.{get_or_default_zero}
use Rattle.g1_words.specs.Marks.{marks_of}
use Rattle.g1_words.proofs.Bits.{length-marks_of, marks_of-set}
use Rattle.g1_words.proofs.marks.Marks.set.Goals as goal

pub index_mut-requires : goal.index_mut-requires
index_mut-requires c = omega (arith, c.requires, c.self.invariant, ap length c.self.view_is, length-marks_of c.self.inside.count c.self.inside.bits.items)

pub returns : goal.returns
returns c =
    let at = c.args.at in
    let bits = c.self.inside.bits.items in
    let under : at < c.self.inside.count = omega (arith, c.requires, ap length c.self.view_is, length-marks_of c.self.inside.count bits) in
    let within : at / 64 < length bits = omega (arith, under, c.self.invariant) in
    let word : c.index_mut.result.now ≡ slice_index bits (at / 64) = c.index_mut.ensures.value ∙ get_or_default_zero bits (at / 64) c.index_mut.result.now within in
    ap (λ x. marks_of c.self.inside.count (set bits (at / 64) (bit_or x (1 * 2 ^ (at % 64) % 2 ^ 64)))) word ∙ marks_of-set c.self.inside.count bits at under within
    ∙ ap (λ l. set l at true) c.self.view_is
