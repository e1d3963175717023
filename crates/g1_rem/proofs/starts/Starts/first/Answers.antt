use Rattle.std.proofs.Common.{◌≡◌, ◌≤◌, ◌<◌, ◌-◌, ◌∙◌, ℕ, zero, suc, Option, Some, None, length, slice_index_or, arith, refl, ap, sym}
use Rattle.std.proofs.lemmas.List.{get_or-map, length-map}
use Rattle.std.specs.Option.{SomeIff}
use Rattle.g1_rem.specs.Starts.{address_below}
use Rattle.g1_rem.proofs.starts.Starts.first.Goals as goal

below : (a : Option ℕ) (n : ℕ) → SomeIff a (1 ≤ n) (n - 1) → a ≡ address_below n
below None zero s = refl
below None (suc n) s = absurd (s (omega arith))
below (Some a) zero s = absurd (omega (arith, s.0))
below (Some a) (suc n) s = ap (λ x. Some x) (omega (arith, s.1))

pub returns : goal.returns
returns c =
    let firsts = c.self.inside.firsts.items in
    let inside : c.args.card < length c.self.inside.firsts.items = omega (arith, c.requires, ap length c.self.view_is, length-map c.self.inside.firsts.items address_below) in
    below c.checked_sub.result c.index.result.now c.checked_sub.ensures ∙ ap address_below c.index.ensures
    ∙ sym (get_or-map address_below firsts c.args.card c.index.result.now None inside) ∙ ap (λ l. slice_index_or l c.args.card None) c.self.view_is
