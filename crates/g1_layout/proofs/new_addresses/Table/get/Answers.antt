use Rattle.std.proofs.Common.{◌≡◌, ◌∙◌, ap, sym, Some, arith}
use Rattle.std.proofs.lemmas.Grind.{get_or_default_zero}
use Rattle.g1_layout.specs.Words.{index_of}
use Rattle.g1_words.specs.Numbers.{number_of}
use Rattle.g1_layout.proofs.Forwarding.{goes_at, number_below}
use Rattle.g1_layout.proofs.new_addresses.Table.get.Goals as goal
use Rattle.g1_layout.proofs.new_addresses.Table.get.Goals.{In-Some-number}

-- the address has the index that was found
at : (c : In-Some-number) → index_of c.args.self.now.geometry.w c.args.self.now.positions.items c.args.a ≡ Some c.in-Some.index
at c = ap (λ ps. index_of c.args.self.now.geometry.w ps c.args.a) (sym c.deref.ensures.value) ∙ sym c.index_of.ensures ∙ c.in-Some.is

-- and the index the number
number : (c : In-Some-number) → number_of c.args.self.now.numbers c.in-Some.index ≡ Some c.in-Some-number.number
number c = sym c.number.ensures ∙ c.in-Some-number.is

pub index-requires : goal.index-requires
index-requires c =
    let here = (goal.at.index-requires c).In-Some-number in
    let lt = c.requires.indices.within c.args.a c.in-Some.index (at here) in
    let k = number_below c.args.self.now.numbers c.in-Some.index c.in-Some-number.number lt (number here) in
    omega (arith, k, c.requires.one_each, c.args.self.now.places.ok)

pub returns-in-Some-number : goal.returns-in-Some-number
returns-in-Some-number c =
    let t = c.args.self.now in
    let here = (goal.at.returns-in-Some-number c).In-Some-number in
    let lt = c.requires.indices.within c.args.a c.in-Some.index (at here) in
    let k = number_below t.numbers c.in-Some.index c.in-Some-number.number lt (number here) in
    c.from.ensures ∙ c.index.ensures ∙ get_or_default_zero t.places.items c.in-Some-number.number c.index.result.now (omega (arith, k, c.requires.one_each))
    ∙ sym (goes_at t.geometry.w t.positions.items t.numbers t.places.items c.args.a c.in-Some.index c.in-Some-number.number (at here) (number here))
