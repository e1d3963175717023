use Rattle.std.proofs.Common.{map, subst}
use Rattle.std.specs.Prelude.{IfSome}
use Rattle.g1_text.specs.Reading.{words_in, parts_of}
use Rattle.g1_text.specs.Marking.{IsKnown}
use Rattle.g1_text.proofs.WeakTexts.{none_found, same_text, without_text}
use Rattle.g1_text.proofs.weak.without_weak.Goals as goal

pub returns-then-is_none : goal.returns-then-is_none
returns-then-is_none c = same_text c.args.text.now (none_found c.args.text.now c.find.result c.is_none.result c.find.ensures c.is_none.ensures c.if-is_none.true)

pub returns : goal.returns
returns c =
    let lines = map words_in (parts_of c.args.text.now) in
    let known = subst (λ o. IfSome o (IsKnown lines)) c.in-Some.is c.in_ok-known.ensures.known in
    without_text (λ v. v.items) c.args.text.now c.in_ok-out.out c.in_ok-out.ensures.utf8 (c.in_ok-out.ensures.lines lines (c.in_ok-strong.ensures lines known))
