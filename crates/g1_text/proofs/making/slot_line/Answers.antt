use Rattle.std.proofs.Common.{◌<◌, ◌+◌, length, map, get_or, refl, sym, ◌∙◌, ap, subst, arith}
use Rattle.std.proofs.lemmas.List.{length-map}
use Rattle.g1_text.specs.declared.draft.Placed.{Placed}
use Rattle.g1_text.specs.Drafts.{line_of_object, address_of_object, content, numbers}
use Rattle.g1_text.proofs.Gathering.{map_at}
use Rattle.g1_text.proofs.SlotLines.{IsBelowSoFar, below_start, below_this, below_other, below_end}
use Rattle.g1_text.proofs.making.slot_line.Goals as goal
use Rattle.g1_text.proofs.making.slot_line.Goals.{then-object-slot, else-object-slot}

pub loop-object-init : goal.loop-object-init
loop-object-init c = below_start (numbers c.args.draft.now) (content c.args.draft.now).addresses c.args.slot c.args.draft.now.lines.heading.line refl

pub loop-object-preserved : goal.loop-object-preserved
loop-object-preserved c =
    let d = c.args.draft.now in
    let l = numbers d in
    let ats = (content d).addresses in
    let items = d.objects.items in
    let k = c.loop-object.object-index in
    let none : Placed = record { at = 0; slots = 0; place = 0; line = 0 } in
    let same = c.deref-object-items.ensures.value in
    let all = ap length same in
    let count = length-map items line_of_object in
    let lt : k < length (map line_of_object items) = omega (arith, all, count, c.loop-object-test.true) in
    let line = ap (λ xs. line_of_object (get_or xs k none)) same ∙ sym (map_at line_of_object items k none) in
    let at = ap (λ xs. address_of_object (get_or xs k none)) same ∙ sym (map_at address_of_object items k none) in
    elim c.if-object-slot.branch [
      | then-object-slot w ↦ below_this l ats c.args.slot k _ lt (w.number-is ∙ line) (omega (arith, at, w.if-object-slot.true))
      | else-object-slot w ↦ subst (IsBelowSoFar l ats c.args.slot (k + 1)) (sym w.number-is) (below_other l ats c.args.slot k c.loop-object.number (omega (arith, at, w.if-object-slot.false)) c.loop-object.invariant)
    ]

pub returns-clause-object : goal.returns-clause-object
returns-clause-object c =
    let d = c.args.draft.now in
    let all = ap length c.deref-object-items.ensures.value in
    let count = length-map d.objects.items address_of_object in (
      c.loop-object.number,
      below_end (numbers d) (content d).addresses c.args.slot c.loop-object.object-index c.loop-object.number (omega (arith, all, count, c.loop-object-test.false)) c.loop-object.invariant,
      refl,
    )
