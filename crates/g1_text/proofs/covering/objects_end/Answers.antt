use Rattle.std.proofs.Common.{◌∙◌, arith, sym, ap}
use Rattle.g1_text.proofs.Remembering.{ordinary_ends, ordinary_small, first_some, first_small, first_ends}
use Rattle.g1_text.proofs.covering.objects_end.Goals as goal

pub returns-in-Ordinary : goal.returns-in-Ordinary
returns-in-Ordinary c = λ h r valid lt is from stand.
    let kind = ap (λ q. q.kind) (sym is) ∙ c.in-Ordinary.is in
    let top = ap (λ q. q.top) is in
    let small = ordinary_small h valid r lt kind in
    ordinary_ends h valid r lt kind c.args.start c.saturating_add.result from (omega (arith, c.saturating_add.ensures, c.from.ensures, top, from, small))

pub returns-in-HumongousFirst : goal.returns-in-HumongousFirst
returns-in-HumongousFirst c = λ h r valid lt is from stand.
    let kind = ap (λ q. q.kind) (sym is) ∙ c.in-HumongousFirst.is in
    let size = c.header_at.ensures.size (first_some h valid r lt kind c.args.words.now c.args.unused c.args.start from stand) in
    let small = first_small h valid r lt kind c.args.words.now c.args.unused c.args.start from stand in
    first_ends h valid r lt kind c.args.words.now c.args.unused c.args.start from stand c.saturating_add-in-HumongousFirst.result
    (omega (arith, c.saturating_add-in-HumongousFirst.ensures, size, small))
