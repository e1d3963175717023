use Rattle.std.proofs.Common.{◌≡◌, ◌+◌, ◌-◌, ◌*◌, ◌∙◌, length, min, arith, ap, refl}
use Rattle.g1_copy.proofs.LinkingParts.{part_is}
use Rattle.g1_copy.proofs.copied_cards.PartsMake.make.Goals as goal

pub returns-clause-ok : goal.returns-clause-ok
returns-clause-ok c =
    let s = c.args.self.now in
    let h = s.copied.now.heap in
    let p = s.copied.now.plan in
    let to : c.args.part * c.args.self.now.size + c.min.result
    ≡ c.args.part * c.args.self.now.size + min c.args.self.now.size (length c.args.self.now.copied.now.plan.runs - c.args.part * c.args.self.now.size) =
    omega (arith, c.min.ensures, ap length c.runs-runs.ensures.same) in
    c.in_ok-cards_of_runs.ensures ∙ part_is h p s.size c.args.part (c.args.part * s.size) (c.args.part * s.size + c.min.result) refl c.requires to
