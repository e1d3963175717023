use Rattle.std.proofs.Common.{◌≡◌, ◌+◌, Some, get_or, set, ap, refl, subst, sym, ◌∙◌, arith}
use Rattle.g1_layout.specs.Words.{ArePlacedTo, index_of}
use Rattle.g1_words.specs.Numbers.{number_at}
use Rattle.g1_layout.proofs.Forwarding.{number_below, number_found, number_there, placed_more}
use Rattle.g1_layout.proofs.new_addresses.write_places.Goals as goal
use Rattle.g1_layout.proofs.new_addresses.write_places.Goals.{in-Some+in-Some-number, in-Some+in_default-number, in_default}

pub bounds-by_number-number : goal.bounds-by_number-number
bounds-by_number-number c =
    let at : index_of c.args.geometry.now.w c.args.positions.now (get_or c.args.survivors.now c.loop-i.i 0) ≡ Some c.in-Some.index = sym c.index_of.ensures ∙ c.in-Some.is in
    let lt = c.requires.indices.within (get_or c.args.survivors.now c.loop-i.i 0) c.in-Some.index at in
    let k = number_below c.args.numbers.now c.in-Some.index c.in-Some-number.number lt (sym c.number.ensures ∙ c.in-Some-number.is) in
    omega (arith, k, c.requires.room, c.loop-i.auto.by_number)

pub loop-i-preserved : goal.loop-i-preserved
loop-i-preserved c =
    let w = c.args.geometry.now.w in
    let positions = c.args.positions.now in
    let l = c.args.survivors.now in
    let ps = c.args.places.now in
    let marks = c.args.numbers.now in
    let i = c.loop-i.i in
    elim c.match-index_of.branch [
      | in-Some+in-Some-number b ↦
          let j = b.in-Some.index in
          let at : index_of w positions (get_or l i 0) ≡ Some j = sym c.index_of.ensures ∙ b.in-Some.is in
          let found = number_found marks j b.in-Some-number.number (sym b.number.ensures ∙ b.in-Some-number.is) in
          let is : c.match-index_of.by_number ≡ set c.loop-i.by_number (number_at marks j) (get_or ps i 0) = b.by_number-is ∙ ap (λ n. set c.loop-i.by_number n (get_or ps i 0)) found.1 in
          subst (ArePlacedTo w positions marks l ps (i + 1)) (sym is)
          (placed_more w positions l marks c.requires.indices c.requires.marked ps i j c.loop-i.by_number (get_or ps i 0) c.requires.distinct c.loop-i-test.true
          (c.loop-i.auto.by_number ∙ c.requires.room) at refl c.loop-i.invariant)
      | in-Some+in_default-number b ↦
          let at : index_of w positions (get_or l i 0) ≡ Some b.in-Some.index = sym c.index_of.ensures ∙ b.in-Some.is in
          let marked = c.requires.marked.each i b.in-Some.index c.loop-i-test.true at in
          absurd (b.in_default-number.not-Some _ (b.number.ensures ∙ number_there marks b.in-Some.index marked))
      | in_default b ↦
          let has = c.requires.in_set i 0 c.loop-i-test.true in
          absurd (b.in_default.not-Some has.0 (c.index_of.ensures ∙ has.1))
    ]
