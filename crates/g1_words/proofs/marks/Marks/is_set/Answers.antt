use Rattle.std.proofs.Common.{arith, ◌≡◌, ◌<◌, ◌/◌, ◌%◌, ◌==◌, length, slice_index, sym, ap, ◌∙◌, false}
use Rattle.std.specs.Prelude.{slice_index_or}
use Rattle.std.specs.Int.{bit_at}
use Rattle.std.proofs.lemmas.Nat.Bits.{shr_and_one}
use Rattle.std.proofs.lemmas.Grind.{get_or_default_zero}
use Rattle.g1_words.proofs.Bits.{length-marks_of, mark_of}
use Rattle.g1_words.proofs.marks.Marks.is_set.Goals as goal

pub index-requires : goal.index-requires
index-requires c = omega (arith, c.requires, c.self.invariant, ap length c.self.view_is, length-marks_of c.self.inside.count c.self.inside.bits.items)

pub returns : goal.returns
returns c =
    let at = c.args.at in
    let bits = c.self.inside.bits.items in
    let under : at < c.self.inside.count = omega (arith, c.requires, ap length c.self.view_is, length-marks_of c.self.inside.count bits) in
    let within : at / 64 < length bits = omega (arith, under, c.self.invariant) in
    let word : c.index.result.now ≡ slice_index bits (at / 64) = c.index.ensures ∙ get_or_default_zero bits (at / 64) c.index.result.now within in
    ap (λ y. y == 1) (shr_and_one c.index.result.now (at % 64)) ∙ ap (λ x. bit_at x (at % 64) == 1) word ∙ sym (mark_of c.self.inside.count bits at false under)
    ∙ ap (λ l. slice_index_or l at false) c.self.view_is
