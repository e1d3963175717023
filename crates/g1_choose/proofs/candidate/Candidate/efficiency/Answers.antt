use Rattle.std.proofs.Common.{◌≡◌, ◌*◌, Bool, true, false, cond, ◌&&◌, ◌||◌, refl, nat_lt, nat_eq}
use Rattle.std.specs.Ordering.{is_lt, ordering_then}
use Rattle.std.specs.declared.cmp.Ordering.TheVariants.{Less, Equal, Greater}
use Rattle.g1_choose.proofs.candidate.Candidate.efficiency.Goals as goal

-- the second comparison counts where the first finds no difference
then_less : (lt eq lt' eq' : Bool) → is_lt (ordering_then (cond lt Less (cond eq Equal Greater)) (cond lt' Less (cond eq' Equal Greater))) ≡ (lt || (eq && lt'))
then_less true eq lt' eq' = refl
then_less false true true eq' = refl
then_less false true false true = refl
then_less false true false false = refl
then_less false false lt' eq' = refl

pub returns : goal.returns
returns c =
    let a = c.args.self.now in
    let b = c.args.other.now in
    rw (c.then.ensures, c.cmp.ensures, c.cmp-2.ensures, c.from.ensures, c.from-2.ensures)
    (then_less (nat_lt (a.cost * b.garbage) (b.cost * a.garbage)) (nat_eq (a.cost * b.garbage) (b.cost * a.garbage)) (nat_lt a.region b.region) (nat_eq a.region b.region))
