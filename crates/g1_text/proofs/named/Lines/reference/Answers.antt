use Rattle.std.proofs.Common.{◌≡◌, ◌+◌, slice_index, sym, ◌∙◌, ap, arith}
use Rattle.std.specs.Prelude.{Some, None, codes}
use Rattle.g1_text.specs.ByName.{place_of}
use Rattle.g1_text.proofs.Fronts.{other_word}
use Rattle.g1_text.proofs.ByName.{place_among}
use Rattle.g1_text.proofs.Lookups.{place_below, found_reference, no_reference}
use Rattle.g1_text.proofs.named.Lines.reference.Goals as goal

pub returns-then-place-addresses : goal.returns-then-place-addresses
returns-then-place-addresses c = λ g target located is word.
    let k = c.in_ok-place.place in
    let found : place_of c.args.name.now g.objects ≡ Some k = sym (place_among c.args.name.now c.args.self.now.names.keys g.objects located.read.names) ∙ sym c.get_index_of.ensures.index ∙ c.in_ok-place.was in
    absurd (omega (arith, place_below g c.args.name.now k found, located.count, c.if-place-addresses.true))

pub returns : goal.returns
returns c = λ g target located is word.
    let k = c.in_ok-place.place in
    let found : place_of c.args.name.now g.objects ≡ Some k = sym (place_among c.args.name.now c.args.self.now.names.keys g.objects located.read.names) ∙ sym c.get_index_of.ensures.index ∙ c.in_ok-place.was in
    let lt = place_below g c.args.name.now k found in
    let small = located.small k 0 (omega (arith, lt, located.count)) in
    let sum : c.saturating_add.result ≡ slice_index c.args.addresses.now k + 1 = omega (arith, c.saturating_add.ensures, small) in
    ap Some sum ∙ sym (found_reference g c.args.addresses.now c.args.name.now target k (other_word c.args.name.now (codes "-") c.if-eq.ensures) word found)

pub returns-in_err-place : goal.returns-in_err-place
returns-in_err-place c = λ g target located is word.
    let none : place_of c.args.name.now g.objects ≡ None = sym (place_among c.args.name.now c.args.self.now.names.keys g.objects located.read.names) ∙ sym c.get_index_of.ensures.index ∙ c.in_err-place.was in
    c.from_residual.ensures ∙ sym (no_reference g c.args.addresses.now c.args.name.now target (other_word c.args.name.now (codes "-") c.if-eq.ensures) word none)
